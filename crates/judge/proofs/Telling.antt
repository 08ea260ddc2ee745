-- What a judge's answers tell, by what its stream's judge tells.
use Rattle.std.proofs.Common.{◌≡◌, ◌⊎◌, ℕ, Bool, true, false, List, Some, None, inl, inr, refl, sym, ap, subst, ◌∙◌}
use Rattle.std.specs.Prelude.{IfOk, MatchOption, Option, Result, Ok, Err}
use Rattle.std.specs.declared.alloc.AllocError.{AllocError}
use Rattle.cnf_form.specs.Cnf.{Assignment, FormulaOf}
use Rattle.cnf_form.specs.Dimacs.{IsDimacs}
use Rattle.job_terms.specs.Decoding.{values_of}
use Rattle.job_terms.specs.Encoding.{EncodedOf}
use Rattle.cert_judge.specs.Kinds.{IsFate, IsFateSoFar, stream_values}
use Rattle.cert_judge.specs.Judging.{Feeds as StreamFeeds, IsOver, IsSameJudge as IsSameStream, HasTaken, bits_of, formula_of, kind_of, outcome_of}
use Rattle.sby_terms.specs.declared.names.Answer.{Answer}
use Rattle.sby_terms.specs.declared.names.Answer.TheVariants.{Sat}
use Rattle.sby_terms.specs.declared.names.JobName.{JobName}
use Rattle.cert_judge.specs.Fate.{Fate, Found}
use Rattle.cert_judge.specs.Lines.{AreValuesTold}
use Rattle.cert_judge.specs.Outcomes.{fate_of, fate_told as outcome_told}
use Rattle.cert_judge.specs.declared.stream.BadCert.{BadCert}
use Rattle.cert_judge.specs.declared.stream.Outcome.{Outcome}
use Rattle.cert_judge.specs.declared.stream.Outcome.TheVariants.{Refuted, Satisfied, Unknown as UnknownOutcome, Bad as BadOutcome}
use Rattle.cert_judge.specs.declared.stream.StreamKind.{StreamKind}
use Rattle.judge.proofs.Problems.{one_formula}
use Rattle.cert_judge.specs.declared.stream.Kind.TheVariants.{Certificate}
use Rattle.judge.specs.Answers.{Finds, FindsPlayed, FindsRunOf, IsTrueOutcome, fate_told, state_after, state_told}
use Rattle.judge.specs.Certificate.{Ends, Feeds, Heard, IsForJob, IsJudge, JudgeOf, StreamOf}
use Rattle.judge.specs.Played.{IsPlayed}
use Rattle.judge.specs.Problem.{AskedOf, IsEncodedOf, IsFormulaOf}
use Rattle.judge.specs.declared.judging.Progress.{Progress}
use Rattle.judge.specs.declared.judging.Progress.TheVariants.{More, Done, Unknown}
use Rattle.judge.specs.declared.judging.State.{State}
use Rattle.judge.specs.declared.judging.State.TheVariants.{Reading, Over}

-- what a stream's judge answers is true of its formula
pub true_so_far : (old new : StreamOf) (bytes : List ℕ) (o : Option Outcome) → StreamFeeds old new bytes o → IsTrueOutcome (formula_of old) (bits_of new) o
true_so_far old new bytes None f = tt
true_so_far old new bytes (Some Refuted) f = f.refuted refl
true_so_far old new bytes (Some Satisfied) f = let v = f.values in v.2
true_so_far old new bytes (Some UnknownOutcome) f = tt
true_so_far old new bytes (Some (BadOutcome b)) f = tt

pub true_at_end : (j : StreamOf) (bytes : List ℕ) (o : Outcome) → IsOver j bytes o → IsTrueOutcome (formula_of j) (bits_of j) (Some o)
true_at_end j bytes Refuted f = f.refuted refl
true_at_end j bytes Satisfied f = let v = f.values in v.2
true_at_end j bytes UnknownOutcome f = tt
true_at_end j bytes (BadOutcome b) f = tt

-- where the fate is that the formula can be satisfied, the values are those that the stream names
values_found : (f : FormulaOf) (x : Assignment) (bits : List Bool) (o : Option Outcome) (answer : Answer) → Some (Found answer) ≡ outcome_told o → answer ≡ Sat → AreValuesTold f x bits o → values_of bits ≡ x
values_found f x bits None answer told sat v = cc
values_found f x bits (Some Refuted) answer told sat v = cc
values_found f x bits (Some Satisfied) answer told sat v = v.1
values_found f x bits (Some UnknownOutcome) answer told sat v = cc
values_found f x bits (Some (BadOutcome b)) answer told sat v = cc

-- a run that is found is the stream's
pub finds_run : (p : AskedOf) (job : JobName) (kind : StreamKind) (most : ℕ) (g : FormulaOf) (ended : Bool) (bytes : List ℕ) (bits : List Bool) (o : Option Outcome) (r : Result Progress BadCert) → IsFormulaOf p job g
    → FindsPlayed p job (values_of bits) r → fate_told r ≡ outcome_told o → AreValuesTold g (stream_values kind g.vars ended bytes most) bits o → FindsRunOf p job (Certificate kind) ended bytes most r
finds_run p job kind most g ended bytes bits o (Ok More) formula played told v = tt
finds_run p job kind most g ended bytes bits o (Ok (Done f)) formula played told v = λ sat apart.
    let s = played sat apart in
    let one : s.0.formula ≡ g = one_formula p job s.0.formula g (s.0, s.3, refl) formula in
    let named = values_found g (stream_values kind g.vars ended bytes most) bits o f.answer told sat v in
    let same = named ∙ sym (ap (λ (z : FormulaOf). stream_values kind z.vars ended bytes most) one) in
    (s.1, s.2, (s.0, s.3, subst (λ (x : Assignment). IsPlayed p s.0 x s.1) same s.4))
finds_run p job kind most g ended bytes bits o (Ok Unknown) formula played told v = tt
finds_run p job kind most g ended bytes bits o (Err b) formula played told v = tt

abbrev pub judge_of : AskedOf → JobName → StreamKind → ℕ → StreamOf → State → JudgeOf
judge_of p job kind most stream state = record { asked = p; job = job; kind = kind; most = most; stream = stream; state = state }

abbrev behind : JudgeOf → StreamOf → Result Progress BadCert → JudgeOf
behind j stream r = record j { stream = stream; state = state_after r }

-- more of a stream
module _ (j : JudgeOf) (stream : StreamOf) (bytes : List ℕ) (r : Result Progress BadCert) (finds : Finds j.asked j.job r) (played : FindsPlayed j.asked j.job (values_of (bits_of stream)) r) where
  pub feeds : IsForJob j → (o : Option Outcome) → StreamFeeds j.stream stream bytes o → fate_told r ≡ outcome_told o → Feeds j (behind j stream r) bytes r
  feeds is o f told = record {
    told = is.formula.1.0;
    same = (refl, refl, refl, refl);
    state = refl;
    stands = λ reading. record { state = reading; stands = f.stands };
    over = λ over. record { state = over; heard = inl f.stands };
    finds = finds;
    run =
        let g = formula_of j.stream in
        finds_run j.asked j.job j.kind j.most g false bytes (bits_of stream) o r is.formula played told
        (subst (λ (kind : StreamKind). AreValuesTold g (stream_values kind g.vars false bytes j.most) (bits_of stream) o) is.kind
        (subst (λ (most : ℕ). AreValuesTold g (stream_values (kind_of j.stream) g.vars false bytes most) (bits_of stream) o) is.most f.values));
    fate = λ file w.
        let one = one_formula j.asked j.job w.0 (formula_of j.stream) w.1 is.formula in
        subst (λ (kind : StreamKind). IsFateSoFar kind file bytes j.most (fate_told r)) is.kind
        (subst (λ (most : ℕ). IsFateSoFar (kind_of j.stream) file bytes most (fate_told r)) is.most
        (subst (λ (fate : Option Fate). IsFateSoFar (kind_of j.stream) file bytes j.stream.most fate) (sym told) (f.fate file (subst (λ (g : FormulaOf). IsDimacs file g) one w.3))));
  }

  pub ends : IsFormulaOf j.asked j.job (formula_of stream) → kind_of stream ≡ j.kind → stream.most ≡ j.most → (o : Outcome) → IsOver stream bytes o → fate_told r ≡ Some (fate_of o) → Ends j (behind j stream r) bytes r
  ends formula same_kind same_most o f told = record {
    told = formula.1.0;
    same = (refl, refl, refl, refl);
    state = refl;
    over = λ over. record { state = over; heard = inr (o, f) };
    finds = finds;
    run =
        let g = formula_of stream in
        finds_run j.asked j.job j.kind j.most g true bytes (bits_of stream) (Some o) r formula played told
        (subst (λ (kind : StreamKind). AreValuesTold g (stream_values kind g.vars true bytes j.most) (bits_of stream) (Some o)) same_kind
        (subst (λ (most : ℕ). AreValuesTold g (stream_values (kind_of stream) g.vars true bytes most) (bits_of stream) (Some o)) same_most f.values));
    fate = λ file w.
        let one = one_formula j.asked j.job w.0 (formula_of stream) w.1 formula in
        let fate : IsFate (kind_of stream) file bytes stream.most (fate_of o) = f.fate file (subst (λ (g : FormulaOf). IsDimacs file g) one w.3) in
        subst (λ (t : Option Fate). MatchOption t ⊥ (IsFate j.kind file bytes j.most)) (sym told)
        (subst (λ (kind : StreamKind). IsFate kind file bytes j.most (fate_of o)) same_kind
        (subst (λ (most : ℕ). IsFate (kind_of stream) file bytes most (fate_of o)) same_most fate));
  }

-- a judge that told a fate doesn't read on
never_more : (told : Result (Result Progress BadCert) AllocError) (o : Outcome) → state_told told ≡ Reading → IfOk told (λ r. fate_told r ≡ outcome_told (Some o)) → ⊥
never_more (Ok (Ok More)) o reading fate = cc
never_more (Ok (Ok (Done f))) o reading fate = cc
never_more (Ok (Ok Unknown)) o reading fate = cc
never_more (Ok (Err b)) o reading fate = cc
never_more (Err e) o reading fate = cc

pub not_wanting : (w : Bool) → (w ≡ true → false ≡ true) → w ≡ false
not_wanting true h = sym (h refl)
not_wanting false h = refl

-- the stream's judge tells the fate of what was taken, or tells it again
pub ended : (old new : StreamOf) (bytes : List ℕ) (o : Outcome) → (old.wanting ≡ true → false ≡ true)
    → ((p : Outcome) → old.wanting ≡ false → outcome_of old ≡ Some p → ◌≡◌ {A = Result Outcome AllocError} (Ok o) (Ok p) × (new ≡ old))
    → (HasTaken old bytes → IsOver new bytes o) → Heard old bytes → IsOver new bytes o
ended old new bytes o kept again ends (inl stands) = ends stands
ended old new bytes o kept again ends (inr (p, over)) =
    let w = again p (not_wanting old.wanting kept) over.outcome in
    let same : o ≡ p = let e = w.0 in cc in
    subst (λ (q : Outcome). IsOver new bytes q) (sym same) (subst (λ (s : StreamOf). IsOver s bytes p) (sym w.1) over)

-- a judge that reads or is over
pub heard_so_far : (j : JudgeOf) → IsJudge j → (j.state ≡ Reading) ⊎ (j.state ≡ Over) → IsForJob j × ((bytes : List ℕ) × Heard j.stream bytes)
heard_so_far j is (inl reading) = let r = is.reading reading in (r.0, (r.1.0, inl r.1.1))
heard_so_far j is (inr over) = is.over over

-- what a judge's answer rests on, and how it stands after it
module _ (j : JudgeOf) (is : IsForJob j) (stream : StreamOf) (same : IsSameStream j.stream stream) where
  outcome_of_job : (g : FormulaOf) (bits : List Bool) (o : Option Outcome) → IsFormulaOf j.asked j.job g → bits ≡ bits_of stream → IsTrueOutcome g (bits_of stream) o
      → (e : EncodedOf) × IsEncodedOf j.asked j.job e × IsTrueOutcome e.formula bits o
  outcome_of_job g bits o w at tells =
      (w.0, w.1, subst (λ (f : FormulaOf). IsTrueOutcome f bits o) w.2 (subst (λ (b : List Bool). IsTrueOutcome g b o) (sym at) tells))

  formula_now : IsFormulaOf j.asked j.job (formula_of stream)
  formula_now = subst (λ (g : FormulaOf). IsFormulaOf j.asked j.job g) (sym same.formula) is.formula

  for_job : (s : State) → IsForJob (record j { stream = stream; state = s })
  for_job s = record { formula = formula_now; kind = same.kind ∙ is.kind; most = same.most ∙ is.most }

  module _ (bytes : List ℕ) (o : Option Outcome) (f : StreamFeeds j.stream stream bytes o) where
    pub feeds_outcome : (bits : List Bool) → bits ≡ bits_of stream → (e : EncodedOf) × IsEncodedOf j.asked j.job e × IsTrueOutcome e.formula bits o
    feeds_outcome bits at = outcome_of_job (formula_of j.stream) bits o is.formula at (true_so_far j.stream stream bytes o f)

    pub judges_on : (s : State) → IsJudge (record j { stream = stream; state = s })
    judges_on s = record { reading = λ _. (for_job s, (bytes, f.stands)); over = λ _. (for_job s, (bytes, inl f.stands)) }

    pub feeds_told : (told : Result (Result Progress BadCert) AllocError) (state : State) (bits : List Bool) → bits ≡ bits_of stream → state ≡ state_told told → IfOk told (λ r. Finds j.asked j.job r)
        → IfOk told (λ r. FindsPlayed j.asked j.job (values_of bits) r) → IfOk told (λ r. fate_told r ≡ outcome_told o) → IfOk told (λ r. Feeds j (record j { stream = stream; state = state }) bytes r)
    feeds_told (Ok r) state bits at stood finds played told =
        subst (λ (s : State). Feeds j (record j { stream = stream; state = s }) bytes r) (sym stood)
        (feeds j stream bytes r finds (subst (λ (b : List Bool). FindsPlayed j.asked j.job (values_of b) r) at played) is o f told)
    feeds_told (Err e) state bits at stood finds played told = tt

  module _ (bytes : List ℕ) (o : Outcome) (f : IsOver stream bytes o) where
    pub ends_outcome : (bits : List Bool) → bits ≡ bits_of stream → (e : EncodedOf) × IsEncodedOf j.asked j.job e × IsTrueOutcome e.formula bits (Some o)
    ends_outcome bits at = outcome_of_job (formula_of stream) bits (Some o) formula_now at (true_at_end stream bytes o f)

    pub judges_ended : (told : Result (Result Progress BadCert) AllocError) (state : State) → state ≡ state_told told → IfOk told (λ r. fate_told r ≡ outcome_told (Some o)) → IsJudge (record j { stream = stream; state = state })
    judges_ended told state stood fate = record {
      reading = λ reading. absurd (never_more told o (sym stood ∙ reading) fate);
      over = λ _. (for_job state, (bytes, inr (o, f)));
    }

    pub ends_told : (told : Result (Result Progress BadCert) AllocError) (state : State) (bits : List Bool) → bits ≡ bits_of stream → state ≡ state_told told → IfOk told (λ r. Finds j.asked j.job r)
        → IfOk told (λ r. FindsPlayed j.asked j.job (values_of bits) r) → IfOk told (λ r. fate_told r ≡ outcome_told (Some o)) → IfOk told (λ r. Ends j (record j { stream = stream; state = state }) bytes r)
    ends_told (Ok r) state bits at stood finds played told =
        subst (λ (s : State). Ends j (record j { stream = stream; state = s }) bytes r) (sym stood)
        (ends j stream bytes r finds (subst (λ (b : List Bool). FindsPlayed j.asked j.job (values_of b) r) at played) formula_now (same.kind ∙ is.kind) (same.most ∙ is.most) o f told)
    ends_told (Err e) state bits at stood finds played told = tt
