-- What a judge of an invariant answers, by the fate of its stream.
use Rattle.std.proofs.Common.{◌≡◌, ◌⊎◌, ◌∙◌, ℕ, Bool, true, false, List, Some, None, inl, inr, refl, sym, subst}
use Rattle.std.specs.Prelude.{IfOk, MatchOption, Option, option_map, Result, Ok, Err}
use Rattle.std.specs.declared.alloc.AllocError.{AllocError}
use Rattle.cert_judge.specs.Fate as fate
use Rattle.cert_judge.specs.Fate.{Fate}
use Rattle.cert_judge.specs.declared.stream.BadCert.{BadCert}
use Rattle.cert_judge.specs.declared.stream.Kind.TheVariants.{Invariant}
use Rattle.cnf_form.specs.Cnf.{LitOf}
use Rattle.inv_fate.specs.Fate.{InvFate, InvFateOf, InvFateSoFar}
use Rattle.inv_judge.specs.Claim.{fate_of, fate_told as outcome_told}
use Rattle.inv_judge.specs.Judging.{Feeds as InvFeeds, IsOver, IsSameJudge, JudgeOf as InvJudgeOf, HasTaken, outcome_of}
use Rattle.inv_judge.specs.declared.outcome.InvOutcome.{InvOutcome}
use Rattle.inv_judge.specs.declared.outcome.InvOutcome.TheVariants as outcome
use Rattle.pair_form.specs.Pair.{IsInvariant, PairOf}
use Rattle.sby_terms.specs.declared.names.Answer.{Answer}
use Rattle.sby_terms.specs.declared.names.Answer.TheVariants.{Sat}
use Rattle.sby_terms.specs.declared.names.JobName.TheVariants.{Inv}
use Rattle.judge.proofs.Inductive.{never_sat}
use Rattle.judge.proofs.Telling.{not_wanting}
use Rattle.judge.specs.Answers.{Finds, FindsRunOf, fate_told, state_told}
use Rattle.judge.specs.Inductive.{Ends, Feeds, Heard, IsForJob, IsReader, ReaderOf}
use Rattle.judge.specs.Invariant.{IsProved, fate_in}
use Rattle.judge.specs.Problem.{AskedOf, pair_in}
use Rattle.judge.specs.declared.judging.Progress.{Progress}
use Rattle.judge.specs.declared.judging.Progress.TheVariants.{More, Done, Unknown}
use Rattle.judge.specs.declared.judging.State.{State}
use Rattle.judge.specs.declared.judging.State.TheVariants.{Reading, Over}

abbrev pub reader_of : AskedOf → ℕ → InvJudgeOf → State → ReaderOf
reader_of p most judge state = record { asked = p; most = most; judge = judge; state = state }

told_sat : (o : Option InvFate) → Some (fate.Found Sat) ≡ option_map fate_in o → ⊥
told_sat None told = let z : Some (fate.Found Sat) ≡ None = told in cc
told_sat (Some x) told = never_sat x (let z : Some (fate.Found Sat) ≡ Some (fate_in x) = told in cc)

-- no finding of an invariant has a run
no_run : (p : AskedOf) (ended : Bool) (bytes : List ℕ) (most : ℕ) (r : Result Progress BadCert) (o : Option InvFate) → fate_told r ≡ option_map fate_in o → FindsRunOf p Inv Invariant ended bytes most r
no_run p ended bytes most (Ok More) o told = tt
no_run p ended bytes most (Ok (Done f)) o told = λ sat apart. absurd (told_sat o (subst (λ (a : Answer). Some (fate.Found a) ≡ option_map fate_in o) sat told))
no_run p ended bytes most (Ok Unknown) o told = tt
no_run p ended bytes most (Err b) o told = tt

-- a fate that is told of a whole stream
proved : (p : AskedOf) (bytes : List ℕ) (most : ℕ) (o : Option Fate) (x : InvFate) → o ≡ Some (fate_in x) → InvFateOf (pair_in p) bytes most x → MatchOption o ⊥ (IsProved p Inv bytes most)
proved p bytes most o x told is = subst (λ (z : Option Fate). MatchOption z ⊥ (IsProved p Inv bytes most)) (sym told) (refl, (x, is, refl))

-- a judge that told a fate doesn't read on
never_more : (told : Result (Result Progress BadCert) AllocError) (x : InvFate) → state_told told ≡ Reading → IfOk told (λ r. fate_told r ≡ Some (fate_in x)) → ⊥
never_more (Ok (Ok More)) x reading told = let z : None ≡ Some (fate_in x) = told in cc
never_more (Ok (Ok (Done f))) x reading told = cc
never_more (Ok (Ok Unknown)) x reading told = cc
never_more (Ok (Err b)) x reading told = cc
never_more (Err e) x reading told = cc

-- the stream's judge tells the fate of what was taken, or tells it again
pub ended : (old new : InvJudgeOf) (bytes : List ℕ) (o : InvOutcome) → (old.wanting ≡ true → false ≡ true)
    → ((p : InvOutcome) → old.wanting ≡ false → outcome_of old ≡ Some p → ◌≡◌ {A = Result InvOutcome AllocError} (Ok o) (Ok p) × (new ≡ old))
    → (HasTaken old bytes → IsOver new bytes o) → Heard old bytes → IsOver new bytes o
ended old new bytes o kept again ends (inl stands) = ends stands
ended old new bytes o kept again ends (inr (p, over)) =
    let w = again p (not_wanting old.wanting kept) over.outcome in
    let same : o ≡ p = let e = w.0 in cc in
    subst (λ (q : InvOutcome). IsOver new bytes q) (sym same) (subst (λ (s : InvJudgeOf). IsOver s bytes p) (sym w.1) over)

-- a judge that reads or is over
pub heard_so_far : (r : ReaderOf) → IsReader r → (r.state ≡ Reading) ⊎ (r.state ≡ Over) → IsForJob r × ((bytes : List ℕ) × Heard r.judge bytes)
heard_so_far r is (inl reading) = let w = is.reading reading in (w.0, (w.1.0, inl w.1.1))
heard_so_far r is (inr over) = is.over over

-- what a judge's answer rests on, and how it stands after it
module _ (r : ReaderOf) (is : IsForJob r) (judge : InvJudgeOf) (same : IsSameJudge r.judge judge) where
  for_job : (s : State) → IsForJob (reader_of r.asked r.most judge s)
  for_job s = record { job = is.job; pair = same.pair ∙ is.pair; most = same.most ∙ is.most }

  module _ (bytes : List ℕ) (o : Option InvOutcome) (f : InvFeeds r.judge judge bytes o) where
    pub feeds_found : o ≡ Some outcome.Found → (I : List (List LitOf)) × IsInvariant (pair_in r.asked) I
    feeds_found found = let w = f.found found in (w.0, subst (λ (q : PairOf). IsInvariant q w.0) is.pair w.1)

    pub reads_on : (s : State) → IsReader (reader_of r.asked r.most judge s)
    reads_on s = record { reading = λ _. (for_job s, (bytes, f.stands)); over = λ _. (for_job s, (bytes, inl f.stands)) }

    pub feeds_told : (told : Result (Result Progress BadCert) AllocError) (state : State) → state ≡ state_told told → IfOk told (λ q. Finds r.asked Inv q) → IfOk told (λ q. fate_told q ≡ option_map fate_in (outcome_told o))
        → IfOk told (λ q. Feeds r (reader_of r.asked r.most judge state) bytes q)
    feeds_told (Ok q) state stood finds told = record {
      same = (refl, refl);
      state = stood;
      stands = λ reading. record { state = reading; stands = f.stands };
      over = λ over. record { state = over; heard = inl f.stands };
      finds = finds;
      run = no_run r.asked false bytes r.most q (outcome_told o) told;
      fate = (refl, (outcome_told o, subst (λ (n : ℕ). InvFateSoFar (pair_in r.asked) bytes n (outcome_told o)) is.most (subst (λ (p : PairOf). InvFateSoFar p bytes r.judge.most (outcome_told o)) is.pair f.fate), told));
    }
    feeds_told (Err e) state stood finds told = tt

  module _ (bytes : List ℕ) (o : InvOutcome) (f : IsOver judge bytes o) where
    pub ends_found : Some o ≡ Some outcome.Found → (I : List (List LitOf)) × IsInvariant (pair_in r.asked) I
    ends_found found = let same_one : o ≡ outcome.Found = cc in let w = f.found same_one in (w.0, subst (λ (q : PairOf). IsInvariant q w.0) (same.pair ∙ is.pair) w.1)

    pub reads_over : (told : Result (Result Progress BadCert) AllocError) (state : State) → state ≡ state_told told → IfOk told (λ q. fate_told q ≡ Some (fate_in (fate_of o))) → IsReader (reader_of r.asked r.most judge state)
    reads_over told state stood is_told = record {
      reading = λ reading. absurd (never_more told (fate_of o) (sym stood ∙ reading) is_told);
      over = λ _. (for_job state, (bytes, inr (o, f)));
    }

    pub ends_told : (told : Result (Result Progress BadCert) AllocError) (state : State) → state ≡ state_told told → IfOk told (λ q. Finds r.asked Inv q) → IfOk told (λ q. fate_told q ≡ Some (fate_in (fate_of o)))
        → IfOk told (λ q. Ends r (reader_of r.asked r.most judge state) bytes q)
    ends_told (Ok q) state stood finds told = record {
      same = (refl, refl);
      state = stood;
      over = λ over. record { state = over; heard = inr (o, f) };
      finds = finds;
      run = no_run r.asked true bytes r.most q (Some (fate_of o)) told;
      fate = proved r.asked bytes r.most (fate_told q) (fate_of o) told
          (subst (λ (n : ℕ). InvFateOf (pair_in r.asked) bytes n (fate_of o)) (same.most ∙ is.most) (subst (λ (p : PairOf). InvFateOf p bytes judge.most (fate_of o)) (same.pair ∙ is.pair) f.fate));
    }
    ends_told (Err e) state stood finds told = tt
