-- What a judge of a witness answers, by the fate of the witness.
use Rattle.std.proofs.Common.{◌≡◌, ◌∙◌, ℕ, ◌≤◌, Bool, true, false, ◌&&◌, leb, List, [], ◌++◌, Some, None, length, refl, sym, ap, subst, take, append-nil, arith}
use Rattle.std.proofs.lemmas.Bool.Decides.{nat_tests}
use Rattle.std.proofs.lemmas.List.{take_all}
use Rattle.std.specs.Prelude.{IfOk, MatchOption, Option, Result, Ok, Err}
use Rattle.std.specs.declared.alloc.AllocError.{AllocError}
use Rattle.sby_bits.specs.Rows.{Row}
use Rattle.btor_witness.specs.Grammar.{WitnessOf}
use Rattle.cert_judge.specs.Fate.{Fate, Found, Unknown as UnknownFate, Bad}
use Rattle.cert_judge.specs.declared.stream.BadCert.{BadCert}
use Rattle.cert_judge.specs.declared.stream.Kind.TheVariants.{Witness}
use Rattle.design_meaning.specs.Runs.{CycleOf}
use Rattle.sby_terms.specs.declared.names.Answer.TheVariants.{Sat}
use Rattle.sby_terms.specs.declared.names.JobName.{JobName}
use Rattle.sby_terms.specs.declared.names.JobName.TheVariants.{Step}
use Rattle.witness_judge.proofs.Staying.{stays}
use Rattle.witness_judge.specs.Choosing.{AskedOf as WitnessAskedOf, shape_of}
use Rattle.witness_judge.specs.Fate.{HasWitness, IsWitnessFate, IsWitnessFateSoFar}
use Rattle.witness_judge.specs.Judging.{Ends as WitnessEnds, Feeds as WitnessFeeds, IsPlayed, IsPlayedBy, IsSameJudge, JudgeOf as WitnessJudgeOf, Took as HasTaken, fate_of, fate_told as outcome_told, is_reading}
use Rattle.witness_judge.specs.declared.outcome.Outcome.{Outcome}
use Rattle.witness_judge.specs.declared.outcome.Outcome.TheVariants.{Played}
use Rattle.witness_judge.specs.declared.sought.Sought.{Sought}
use Rattle.judge.proofs.StreamFates.{map_sought}
use Rattle.judge.proofs.Witnesses.{holds_whole, rows_chosen}
use Rattle.judge.specs.Answers.{Finds, FindsRunOf, fate_told, state_after, state_told}
use Rattle.judge.specs.Finding.{FindingOf}
use Rattle.judge.specs.Problem.{AskedOf, IsProblem}
use Rattle.judge.specs.Reading.{Ends, Feeds, HasAnswered, IsForJob, IsReader, ReaderOf}
use Rattle.judge.specs.Telling.{IsToldRun, KeepsFound, ShowsSought, design_run, told_again}
use Rattle.judge.specs.Witness.{IsChosen, IsShown, IsShownSoFar, IsWitnessRun, sought_in, witness_asked}
use Rattle.judge.specs.declared.judging.Progress.{Progress}
use Rattle.judge.specs.declared.judging.Progress.TheVariants.{More, Done, Unknown}
use Rattle.judge.specs.declared.judging.State.{State}
use Rattle.judge.specs.declared.judging.State.TheVariants.{Reading, Over}

-- what holds of what is sought
pub at_sought : (o : Option Sought) (s : Sought) (P : Sought → Type 0) → o ≡ Some s → P s → MatchOption o ⊥ P
at_sought None s P e h = absurd (let n : None ≡ Some s = e in cc)
at_sought (Some t) s P e h = let same : s ≡ t = cc in subst P same h

-- nothing is told where nothing is seen
told_none : (r : Result Progress BadCert) (o : Option Outcome) → state_after r ≡ Reading → fate_told r ≡ outcome_told o → o ≡ None
told_none (Ok More) None reading told = refl
told_none (Ok More) (Some o) reading told = absurd (let e = told in cc)
told_none (Ok (Done f)) o reading told = absurd (let e = reading in cc)
told_none (Ok Unknown) o reading told = absurd (let e = reading in cc)
told_none (Err b) o reading told = absurd (let e = reading in cc)

-- a finding that is told is Sat
abbrev pub IsToldSat : Result Progress BadCert → Type 0
IsToldSat (Ok More) = Unit {0}
IsToldSat (Ok (Done f)) = f.answer ≡ Sat
IsToldSat (Ok Unknown) = Unit {0}
IsToldSat (Err b) = Unit {0}

-- the fate of a stream that begins with these bytes is its fate with no more
whole_now : (p : AskedOf) (job : JobName) (bytes : List ℕ) (most : ℕ) (fate : Fate) → IsShownSoFar p job bytes most (Some fate) → IsShown p job bytes most fate
whole_now p job bytes most fate h =
    subst (λ (b : List ℕ). IsShown p job b most fate) (append-nil bytes)
    (map_sought (sought_in p job) (λ s. IsWitnessFateSoFar (witness_asked p s) bytes most (Some fate)) (λ s. IsWitnessFate (witness_asked p s) (bytes ++ []) most fate)
    (λ s so_far. stays (witness_asked p s) bytes [] most fate so_far) h)

ended_now : (p : AskedOf) (job : JobName) (bytes : List ℕ) (most : ℕ) (run : List CycleOf) → IsWitnessRun p job false bytes most run → IsWitnessRun p job true bytes most run
ended_now p job bytes most run h =
    map_sought (sought_in p job) (λ s. (x : WitnessOf) × HasWitness false (shape_of (witness_asked p s)) (take most bytes) x × IsChosen p s x run)
    (λ s. (x : WitnessOf) × HasWitness (leb (length bytes) most) (shape_of (witness_asked p s)) (take most bytes) x × IsChosen p s x run)
    (λ s w. (w.0, holds_whole (leb (length bytes) most) (shape_of (witness_asked p s)) (take most bytes) w.0 w.1, w.2)) h

answered_one : (p : AskedOf) (job : JobName) (most : ℕ) (found : Option FindingOf) (f : FindingOf) (bytes : List ℕ) → found ≡ Some f → HasAnswered p job most (Some f) bytes → HasAnswered p job most found bytes
answered_one p job most found f bytes e h = subst (λ (o : Option FindingOf). HasAnswered p job most o bytes) (sym e) h

answered_none : (p : AskedOf) (job : JobName) (most : ℕ) (found : Option FindingOf) (bytes : List ℕ) → found ≡ None → HasAnswered p job most None bytes → HasAnswered p job most found bytes
answered_none p job most found bytes e h = subst (λ (o : Option FindingOf). HasAnswered p job most o bytes) (sym e) h

abbrev pub reader_of : AskedOf → JobName → ℕ → WitnessJudgeOf → Option FindingOf → State → ReaderOf
reader_of p job most judge found state = record { asked = p; job = job; most = most; judge = judge; found = found; state = state }

-- a judge that took bytes may take more
pub is_open : (j : WitnessJudgeOf) (bytes : List ℕ) → HasTaken j bytes → is_reading j ≡ true
is_open j bytes took = let r = took.reader in rw r.1 refl

-- no more than it takes
pub taken_within : (j : ReaderOf) → IsForJob j → (bytes : List ℕ) → HasTaken j.judge bytes → length bytes ≤ j.most
taken_within j is bytes took = let t = took.taken in let w = took.within in let m = is.most in omega arith

pub some_one : {X : Type 0} {x y : X} → Some x ≡ Some y → x ≡ y
some_one e = cc

-- how a judge stands after bytes that have this fate, or may go on
module _ (j : ReaderOf) (h : IsProblem j.asked) (is : IsForJob j) (none : j.found ≡ None) where
  -- the run of a witness in the bytes that were taken
  run_told : (ended : Bool) (bytes : List ℕ) (o : Option Outcome) (r : Result Progress BadCert)
      → ((rows : List Row) → o ≡ Some (Played rows) → IsPlayedBy j.judge.asked (ended && leb (length bytes) j.most) (take j.most bytes) rows)
      → IsToldRun j.asked o r → FindsRunOf j.asked j.job Witness ended bytes j.most r
  run_told ended bytes o (Ok More) played told = tt
  run_told ended bytes o (Ok (Done f)) played told = λ sat apart.
      let w = played told.1.0 told.1.1 in
      let asked = witness_asked j.asked is.sought in
      let has : HasWitness (ended && leb (length bytes) j.most) (shape_of asked) (take j.most bytes) w.0 =
      subst (λ (a : WitnessAskedOf). HasWitness (ended && leb (length bytes) j.most) (shape_of a) (take j.most bytes) w.0) is.asked w.1 in
      let chosen = rows_chosen j.asked h is.sought w.0 told.1.0 (subst (λ (a : WitnessAskedOf). IsPlayed a w.0 told.1.0) is.asked w.2) in (
        design_run j.asked.design told.1.0,
        told.1.2,
        at_sought (sought_in j.asked j.job) is.sought
            (λ s. (x : WitnessOf) × HasWitness (ended && leb (length bytes) j.most) (shape_of (witness_asked j.asked s)) (take j.most bytes) x × IsChosen j.asked s x (design_run j.asked.design told.1.0)) is.is (w.0, has, chosen),
      )
  run_told ended bytes o (Ok Unknown) played told = tt
  run_told ended bytes o (Err b) played told = tt

  -- the rows of a witness show what is sought
  pub shows_sought : (ended : Bool) (bytes : List ℕ) (rows : List Row) → IsPlayedBy j.judge.asked ended bytes rows → ShowsSought j.asked j.job rows
  shows_sought ended bytes rows w = (is.sought, w.0, is.is, subst (λ (a : WitnessAskedOf). IsPlayed a w.0 rows) is.asked w.2)

  -- what was answered, stays
  over_told : (bytes : List ℕ) (found : Option FindingOf) (r : Result Progress BadCert) → state_after r ≡ Over → Finds j.asked j.job r → KeepsFound j.found found r
      → IsToldSat r → MatchOption (fate_told r) (Unit {0}) (IsShown j.asked j.job bytes j.most) → FindsRunOf j.asked j.job Witness true bytes j.most r → (j.job ≡ Step → ⊥) → HasAnswered j.asked j.job j.most found bytes
  over_told bytes found (Ok More) over finds keeps sat fate run apart = absurd (let e = over in cc)
  over_told bytes found (Ok (Done f)) over finds keeps sat fate run apart =
      answered_one j.asked j.job j.most found f bytes keeps (finds, sat, subst (λ a. IsShown j.asked j.job bytes j.most (Found a)) sat fate, run sat apart)
  over_told bytes found (Ok Unknown) over finds keeps sat fate run apart = answered_none j.asked j.job j.most found bytes (keeps ∙ none) fate
  over_told bytes found (Err b) over finds keeps sat fate run apart = absurd (let e = over in cc)

  kept_none : (found : Option FindingOf) (r : Result Progress BadCert) → state_after r ≡ Reading → KeepsFound j.found found r → found ≡ None
  kept_none found (Ok More) reading keeps = keeps ∙ none
  kept_none found (Ok (Done f)) reading keeps = absurd (let e = reading in cc)
  kept_none found (Ok Unknown) reading keeps = absurd (let e = reading in cc)
  kept_none found (Err b) reading keeps = absurd (let e = reading in cc)

  for_job : (judge : WitnessJudgeOf) (found : Option FindingOf) (state : State) → IsSameJudge j.judge judge → IsForJob (record j { judge = judge; found = found; state = state })
  for_job judge found state same = record { sought = is.sought; is = is.is; asked = same.0 ∙ is.asked; most = same.1 ∙ is.most }

  not_step : j.job ≡ Step → ⊥
  not_step e = let n : None ≡ Some is.sought = ap (sought_in j.asked) (sym e) ∙ is.is in cc

  module _ (judge : WitnessJudgeOf) (bytes : List ℕ) where
    abbrev after : Option FindingOf → State → ReaderOf
    after found state = record j { judge = judge; found = found; state = state }

    -- more of a stream
    module _ (same : IsSameJudge j.judge judge) (o : Option Outcome) (f : WitnessFeeds j.judge judge bytes o) where
      so_far : (r : Result Progress BadCert) → fate_told r ≡ outcome_told o → IsShownSoFar j.asked j.job bytes j.most (fate_told r)
      so_far r told =
          at_sought (sought_in j.asked j.job) is.sought (λ s. IsWitnessFateSoFar (witness_asked j.asked s) bytes j.most (fate_told r)) is.is
          (subst (λ (a : WitnessAskedOf). IsWitnessFateSoFar a bytes j.most (fate_told r)) is.asked
          (subst (λ (n : ℕ). IsWitnessFateSoFar j.judge.asked bytes n (fate_told r)) is.most
          (subst (λ (fate : Option Fate). IsWitnessFateSoFar j.judge.asked bytes j.judge.most fate) (sym told) f.fate)))

      played : (rows : List Row) → o ≡ Some (Played rows) → IsPlayedBy j.judge.asked false (take j.most bytes) rows
      played rows e = subst (λ (n : ℕ). IsPlayedBy j.judge.asked false (take n bytes) rows) is.most (f.played rows e)

      feeds : (found : Option FindingOf) (r : Result Progress BadCert) → Finds j.asked j.job r → fate_told r ≡ outcome_told o → IsToldRun j.asked o r → KeepsFound j.found found r
          → Feeds j (after found (state_after r)) bytes r
      feeds found r finds told run keeps = record {
        same = (refl, refl, refl);
        state = refl;
        stands = λ reading. record { state = reading; taken = f.took (told_none r o reading told) };
        over = λ over. record { state = over; answered = over_told bytes found r over finds keeps (is_sat r o run) (whole r (so_far r told)) (whole_run r (run_told false bytes o r played run)) not_step };
        finds = finds;
        run = run_told false bytes o r played run;
        fate = so_far r told;
      }
        where
          is_sat : (r : Result Progress BadCert) (o : Option Outcome) → IsToldRun j.asked o r → IsToldSat r
          is_sat (Ok More) o h = tt
          is_sat (Ok (Done f)) o h = h.0
          is_sat (Ok Unknown) o h = tt
          is_sat (Err b) o h = tt

          whole : (r : Result Progress BadCert) → IsShownSoFar j.asked j.job bytes j.most (fate_told r) → MatchOption (fate_told r) (Unit {0}) (IsShown j.asked j.job bytes j.most)
          whole (Ok More) h = tt
          whole (Ok (Done f)) h = whole_now j.asked j.job bytes j.most (Found f.answer) h
          whole (Ok Unknown) h = whole_now j.asked j.job bytes j.most UnknownFate h
          whole (Err b) h = whole_now j.asked j.job bytes j.most (Bad b.kind b.at) h

          whole_run : (r : Result Progress BadCert) → FindsRunOf j.asked j.job Witness false bytes j.most r → FindsRunOf j.asked j.job Witness true bytes j.most r
          whole_run (Ok More) h = tt
          whole_run (Ok (Done f)) h = λ sat apart. let w = h sat apart in (w.0, w.1, ended_now j.asked j.job bytes j.most w.0 w.2)
          whole_run (Ok Unknown) h = tt
          whole_run (Err b) h = tt

      pub feeds_told : (told : Result (Result Progress BadCert) AllocError) (found : Option FindingOf) (state : State) → state ≡ state_told told → IfOk told (λ r. Finds j.asked j.job r)
          → IfOk told (λ r. fate_told r ≡ outcome_told o) → IfOk told (λ r. IsToldRun j.asked o r) → IfOk told (λ r. KeepsFound j.found found r) → IfOk told (λ r. Feeds j (after found state) bytes r)
      feeds_told (Ok r) found state stood finds fate run keeps = subst (λ (s : State). Feeds j (after found s) bytes r) (sym stood) (feeds found r finds fate run keeps)
      feeds_told (Err e) found state stood finds fate run keeps = tt

      pub reads_on : (told : Result (Result Progress BadCert) AllocError) (found : Option FindingOf) (state : State) → state ≡ state_told told → IfOk told (λ r. Finds j.asked j.job r)
          → IfOk told (λ r. fate_told r ≡ outcome_told o) → IfOk told (λ r. IsToldRun j.asked o r) → IfOk told (λ r. KeepsFound j.found found r) → IsReader (after found state)
      reads_on (Ok r) found state stood finds fate run keeps =
          let fed = feeds found r finds fate run keeps in
          subst (λ (s : State). IsReader (after found s)) (sym stood) (record {
            reading = λ reading. (for_job judge found (state_after r) same, kept_none found r reading keeps, (bytes, (fed.stands reading).taken));
            over = λ over. (bytes, (fed.over over).answered);
          })
      reads_on (Err e) found state stood finds fate run keeps =
          subst (λ (s : State). IsReader (after found s)) (sym stood) (record { reading = λ reading. absurd (let e = reading in cc); over = λ over. absurd (let e = over in cc) })

    -- the stream's end
    module _ (same : IsSameJudge j.judge judge) (within : length bytes ≤ j.most) (o : Outcome) (f : WitnessEnds j.judge bytes o) where
      shown : (r : Result Progress BadCert) → fate_told r ≡ Some (fate_of o) → MatchOption (fate_told r) ⊥ (IsShown j.asked j.job bytes j.most)
      shown r told =
          subst (λ (fate : Option Fate). MatchOption fate ⊥ (IsShown j.asked j.job bytes j.most)) (sym told)
          (at_sought (sought_in j.asked j.job) is.sought (λ s. IsWitnessFate (witness_asked j.asked s) bytes j.most (fate_of o)) is.is
          (subst (λ (a : WitnessAskedOf). IsWitnessFate a bytes j.most (fate_of o)) is.asked (subst (λ (n : ℕ). IsWitnessFate j.judge.asked bytes n (fate_of o)) is.most f.fate)))

      played_last : (rows : List Row) → Some o ≡ Some (Played rows) → IsPlayedBy j.judge.asked (leb (length bytes) j.most) (take j.most bytes) rows
      played_last rows e =
          let all : leb (length bytes) j.most ≡ true = grind (arith, nat_tests) in
          let whole : take j.most bytes ≡ bytes = take_all j.most bytes within in
          let one : o ≡ Played rows = cc in
          rw (all, whole) (f.played rows one)

      ends : (found : Option FindingOf) (r : Result Progress BadCert) → Finds j.asked j.job r → fate_told r ≡ Some (fate_of o) → IsToldRun j.asked (Some o) r → KeepsFound j.found found r
          → Ends j (after found (state_after r)) bytes r
      ends found r finds told run keeps = record {
        same = (refl, refl, refl);
        state = refl;
        over = λ over. record { state = over; answered = over_told bytes found r over finds keeps (is_sat r run) (some r (shown r told)) (run_told true bytes (Some o) r played_last run) not_step };
        finds = finds;
        run = run_told true bytes (Some o) r played_last run;
        fate = shown r told;
      }
        where
          is_sat : (r : Result Progress BadCert) → IsToldRun j.asked (Some o) r → IsToldSat r
          is_sat (Ok More) h = tt
          is_sat (Ok (Done f)) h = h.0
          is_sat (Ok Unknown) h = tt
          is_sat (Err b) h = tt

          some : (r : Result Progress BadCert) → MatchOption (fate_told r) ⊥ (IsShown j.asked j.job bytes j.most) → MatchOption (fate_told r) (Unit {0}) (IsShown j.asked j.job bytes j.most)
          some (Ok More) h = tt
          some (Ok (Done f)) h = h
          some (Ok Unknown) h = h
          some (Err b) h = h

      pub ends_told : (told : Result (Result Progress BadCert) AllocError) (found : Option FindingOf) (state : State) → state ≡ state_told told → IfOk told (λ r. Finds j.asked j.job r)
          → IfOk told (λ r. fate_told r ≡ Some (fate_of o)) → IfOk told (λ r. IsToldRun j.asked (Some o) r) → IfOk told (λ r. KeepsFound j.found found r) → IfOk told (λ r. Ends j (after found state) bytes r)
      ends_told (Ok r) found state stood finds fate run keeps = subst (λ (s : State). Ends j (after found s) bytes r) (sym stood) (ends found r finds fate run keeps)
      ends_told (Err e) found state stood finds fate run keeps = tt

      pub reads_over : (told : Result (Result Progress BadCert) AllocError) (found : Option FindingOf) (state : State) → state ≡ state_told told → IfOk told (λ r. Finds j.asked j.job r)
          → IfOk told (λ r. fate_told r ≡ Some (fate_of o)) → IfOk told (λ r. IsToldRun j.asked (Some o) r) → IfOk told (λ r. KeepsFound j.found found r) → IsReader (after found state)
      reads_over (Ok r) found state stood finds fate run keeps =
          let ended = ends found r finds fate run keeps in
          subst (λ (s : State). IsReader (after found s)) (sym stood) (record {
            reading = λ reading. absurd (never_reading r reading fate);
            over = λ over. (bytes, (ended.over over).answered);
          })
        where
          never_reading : (r : Result Progress BadCert) → state_after r ≡ Reading → fate_told r ≡ Some (fate_of o) → ⊥
          never_reading (Ok More) reading told = absurd (let e = told in cc)
          never_reading (Ok (Done f)) reading told = absurd (let e = reading in cc)
          never_reading (Ok Unknown) reading told = absurd (let e = reading in cc)
          never_reading (Err b) reading told = absurd (let e = reading in cc)
      reads_over (Err e) found state stood finds fate run keeps =
          subst (λ (s : State). IsReader (after found s)) (sym stood) (record { reading = λ reading. absurd (let e = reading in cc); over = λ over. absurd (let e = over in cc) })

-- the answer that is given again, by what was answered
pub again : (j : ReaderOf) (bytes : List ℕ) → j.state ≡ Over → HasAnswered j.asked j.job j.most j.found bytes → Ends j j bytes (Ok (told_again j.found))
again j bytes over answered = by j.found refl answered
  where
    by : (found : Option FindingOf) → j.found ≡ found → HasAnswered j.asked j.job j.most found bytes → Ends j j bytes (Ok (told_again found))
    by None e h = record {
      same = (refl, refl, refl);
      state = over;
      over = λ _. record { state = over; answered = answered };
      finds = tt;
      run = tt;
      fate = h;
    }
    by (Some f) e h = record {
      same = (refl, refl, refl);
      state = over;
      over = λ _. record { state = over; answered = answered };
      finds = h.0;
      run = λ sat apart. h.3;
      fate = subst (λ a. IsShown j.asked j.job bytes j.most (Found a)) (sym h.1) h.2;
    }
