-- What a judge of a solver's output tells, by what its output's judge tells.
use Rattle.std.proofs.Common.{◌≡◌, ℕ, Bool, true, false, List, Some, None, refl, sym, subst, ◌∙◌}
use Rattle.std.specs.Prelude.{IfOk, Option, Result, Ok, Err}
use Rattle.std.specs.declared.alloc.AllocError.{AllocError}
use Rattle.cnf_form.specs.Cnf.{FormulaOf, IsUnsatisfiable}
use Rattle.cnf_form.specs.Dimacs.{IsDimacs}
use Rattle.job_terms.specs.Decoding.{values_of}
use Rattle.job_terms.specs.Encoding.{EncodedOf}
use Rattle.cert_judge.proofs.OutputFates.{output_refuted}
use Rattle.cert_judge.specs.OutputFate.{IsOutputFate, IsOutputFateSoFar}
use Rattle.cert_judge.specs.OutputJudging.{Ends as OutputEnds, Feeds as OutputFeeds}
use Rattle.cert_judge.specs.Output.{stream_of}
use Rattle.cert_judge.specs.Spots.{given}
use Rattle.cert_judge.specs.declared.spot.Spot.TheVariants.{Start}
use Rattle.sby_terms.specs.declared.names.JobName.{JobName}
use Rattle.cert_judge.proofs.KindFates.{refuted_so_far}
use Rattle.cert_judge.specs.Fate.{Fate}
use Rattle.cert_judge.specs.Kinds.{stream_values}
use Rattle.cert_judge.specs.Judging.{HasOutcome, IsSameJudge as IsSameStream, HasTakenWith, bits_of, formula_of, kind_of}
use Rattle.cert_judge.specs.Lines.{AreValuesTold}
use Rattle.cert_judge.specs.Outcomes.{fate_told as outcome_told}
use Rattle.cert_judge.specs.declared.stream.BadCert.{BadCert}
use Rattle.cert_judge.specs.declared.stream.Outcome.{Outcome}
use Rattle.cert_judge.specs.declared.stream.Outcome.TheVariants.{Refuted, Satisfied, Unknown as UnknownOutcome, Bad as BadOutcome}
use Rattle.cert_judge.specs.declared.stream.StreamKind.TheVariants.{Drup}
use Rattle.judge.proofs.Problems.{formula_file, one_formula}
use Rattle.judge.proofs.Telling.{finds_run}
use Rattle.judge.specs.Answers.{Finds, FindsPlayed, IsTrueOutcome, fate_told}
use Rattle.judge.specs.Problem.{AskedOf, IsEncodedOf, IsFormulaOf, IsJob, IsJobFile}
use Rattle.judge.specs.Solver.{Ends, Feeds, IsForJob, IsSolver, OutputOf, SolverOf, is_more, is_open}
use Rattle.judge.specs.declared.judging.Progress.{Progress}
use Rattle.judge.specs.declared.judging.Progress.TheVariants.{More, Done, Unknown}

pub job_asked : (p : AskedOf) (job : JobName) (f : FormulaOf) → IsFormulaOf p job f → IsJob p job
job_asked p job f (e, (asked, coded), is) = asked.0

-- what an output's judge answers is true of its formula
true_so_far : (old new : OutputOf) (bytes : List ℕ) (o : Option Outcome) → (formula_of new.judge) ≡ (formula_of old.judge) → OutputFeeds old new bytes o → IsTrueOutcome (formula_of old.judge) (bits_of new.judge) o
true_so_far old new bytes None same f = tt
true_so_far old new bytes (Some Refuted) same f =
    let stands : HasOutcome new.judge (given Start bytes) Refuted = subst (λ (o : Option Outcome). HasTakenWith new.judge (given Start bytes) o) f.outcome f.stands.judge in
    subst (λ (z : FormulaOf). IsUnsatisfiable z.clauses) same (refuted_so_far (kind_of new.judge) (formula_of new.judge) new.judge.most (given Start bytes) stands.fate)
true_so_far old new bytes (Some Satisfied) same f = let v = f.values in v.2
true_so_far old new bytes (Some UnknownOutcome) same f = tt
true_so_far old new bytes (Some (BadOutcome b)) same f = tt

true_at_end : (old new : OutputOf) (bytes file : List ℕ) (o : Option Outcome) → IsDimacs file (formula_of old.judge) → OutputEnds old new bytes o → IsTrueOutcome (formula_of old.judge) (bits_of new.judge) o
true_at_end old new bytes file None is f = tt
true_at_end old new bytes file (Some Refuted) is f = output_refuted file bytes old.judge.most (formula_of old.judge) is (f.fate file is)
true_at_end old new bytes file (Some Satisfied) is f = let v = f.values in v.2
true_at_end old new bytes file (Some UnknownOutcome) is f = tt
true_at_end old new bytes file (Some (BadOutcome b)) is f = tt

open_more : (told : Result (Result Progress BadCert) AllocError) → is_open told ≡ true → (o : Option Outcome) → IfOk told (λ r. fate_told r ≡ outcome_told o) → o ≡ None
open_more (Ok (Ok More)) is None fate = refl
open_more (Ok (Ok More)) is (Some o) fate = absurd (let e = fate in cc)
open_more (Ok (Ok (Done f))) is o fate = absurd (let e = is in cc)
open_more (Ok (Ok Unknown)) is o fate = absurd (let e = is in cc)
open_more (Ok (Err b)) is o fate = absurd (let e = is in cc)
open_more (Err e) is o fate = absurd (let k = is in cc)

abbrev pub solver_of : AskedOf → JobName → ℕ → OutputOf → Bool → SolverOf
solver_of p job most output reading = record { asked = p; job = job; most = most; output = output; reading = reading }

module _ (j : SolverOf) (is : IsForJob j) (new : OutputOf) where
  outcome_of_job : (bits : List Bool) (o : Option Outcome) → bits ≡ (bits_of new.judge) → IsTrueOutcome (formula_of j.output.judge) (bits_of new.judge) o
      → (e : EncodedOf) × IsEncodedOf j.asked j.job e × IsTrueOutcome e.formula bits o
  outcome_of_job bits o at tells =
      let w = is.formula in
      (w.0, w.1, subst (λ (f : FormulaOf). IsTrueOutcome f bits o) w.2 (subst (λ (b : List Bool). IsTrueOutcome (formula_of j.output.judge) b o) (sym at) tells))

  module _ (bytes : List ℕ) (o : Option Outcome) (same : IsSameStream j.output.judge new.judge) (f : OutputFeeds j.output new bytes o) where
    pub feeds_outcome : (bits : List Bool) → bits ≡ (bits_of new.judge) → (e : EncodedOf) × IsEncodedOf j.asked j.job e × IsTrueOutcome e.formula bits o
    feeds_outcome bits at = outcome_of_job bits o at (true_so_far j.output new bytes o same.formula f)

    pub solves_on : (reading : Bool) → IsSolver (record j { output = new; reading = reading })
    solves_on reading = λ _. (
      record { formula = subst (λ (g : FormulaOf). IsFormulaOf j.asked j.job g) (sym same.formula) is.formula; most = same.most ∙ is.most },
      (bytes, f.stands),
    )

    feeds : (r : Result Progress BadCert) → Finds j.asked j.job r → FindsPlayed j.asked j.job (values_of (bits_of new.judge)) r → fate_told r ≡ outcome_told o → Feeds j (record j { output = new; reading = is_more r }) bytes r
    feeds r finds played told = record {
      same = (refl, refl, refl);
      reading = refl;
      took = λ reading. record { reading = reading; stands = f.stands };
      finds = finds;
      run =
          let g = (formula_of j.output.judge) in
          finds_run j.asked j.job Drup j.most g false (stream_of false bytes) (bits_of new.judge) o r is.formula played told
          (subst (λ (most : ℕ). AreValuesTold g (stream_values Drup g.vars false (stream_of false bytes) most) (bits_of new.judge) o) is.most f.values);
      fate = λ file own.
          let w = formula_file j.asked j.job file is.formula.1.0.1 own in
          let one = one_formula j.asked j.job w.0 (formula_of j.output.judge) w.1 is.formula in
          subst (λ (most : ℕ). IsOutputFateSoFar file bytes most (fate_told r)) is.most
          (subst (λ (fate : Option Fate). IsOutputFateSoFar file bytes j.output.judge.most fate) (sym told) (f.fate file (subst (λ (g : FormulaOf). IsDimacs file g) one w.3)));
    }

    pub feeds_told : (told : Result (Result Progress BadCert) AllocError) (reading : Bool) (bits : List Bool) → bits ≡ (bits_of new.judge) → reading ≡ is_open told → IfOk told (λ r. Finds j.asked j.job r)
        → IfOk told (λ r. FindsPlayed j.asked j.job (values_of bits) r) → IfOk told (λ r. fate_told r ≡ outcome_told o) → IfOk told (λ r. Feeds j (record j { output = new; reading = reading }) bytes r)
    feeds_told (Ok r) reading bits at stood finds played told =
        subst (λ (s : Bool). Feeds j (record j { output = new; reading = s }) bytes r) (sym stood)
        (feeds r finds (subst (λ (b : List Bool). FindsPlayed j.asked j.job (values_of b) r) at played) told)
    feeds_told (Err e) reading bits at stood finds played told = tt

  module _ (bytes : List ℕ) (o : Option Outcome) (f : OutputEnds j.output new bytes o) where
    pub ends_outcome : (file : List ℕ) → IsJobFile j.asked j.job file → (bits : List Bool) → bits ≡ (bits_of new.judge) → (e : EncodedOf) × IsEncodedOf j.asked j.job e × IsTrueOutcome e.formula bits o
    ends_outcome file own bits at =
        let w = formula_file j.asked j.job file is.formula.1.0.1 own in
        let one = one_formula j.asked j.job w.0 (formula_of j.output.judge) w.1 is.formula in
        outcome_of_job bits o at (true_at_end j.output new bytes file o (subst (λ (g : FormulaOf). IsDimacs file g) one w.3) f)

    ends : (r : Result Progress BadCert) → Finds j.asked j.job r → FindsPlayed j.asked j.job (values_of (bits_of new.judge)) r → fate_told r ≡ outcome_told o → Ends j bytes r
    ends r finds played told = record {
      finds = finds;
      run =
          let g = (formula_of j.output.judge) in
          finds_run j.asked j.job Drup j.most g true (stream_of true bytes) (bits_of new.judge) o r is.formula played told
          (subst (λ (most : ℕ). AreValuesTold g (stream_values Drup g.vars true (stream_of true bytes) most) (bits_of new.judge) o) is.most f.values);
      fate = λ file own.
          let w = formula_file j.asked j.job file is.formula.1.0.1 own in
          let one = one_formula j.asked j.job w.0 (formula_of j.output.judge) w.1 is.formula in
          subst (λ (most : ℕ). IsOutputFate file bytes most (fate_told r)) is.most
          (subst (λ (fate : Option Fate). IsOutputFate file bytes j.output.judge.most fate) (sym told) (f.fate file (subst (λ (g : FormulaOf). IsDimacs file g) one w.3)));
    }

    pub ends_told : (told : Result (Result Progress BadCert) AllocError) (bits : List Bool) → bits ≡ (bits_of new.judge) → IfOk told (λ r. Finds j.asked j.job r)
        → IfOk told (λ r. FindsPlayed j.asked j.job (values_of bits) r) → IfOk told (λ r. fate_told r ≡ outcome_told o) → IfOk told (λ r. Ends j bytes r)
    ends_told (Ok r) bits at finds played told = ends r finds (subst (λ (b : List Bool). FindsPlayed j.asked j.job (values_of b) r) at played) told
    ends_told (Err e) bits at finds played told = tt
