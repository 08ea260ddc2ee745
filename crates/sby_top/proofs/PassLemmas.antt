-- PASS is true, in bmc and prove.
use Rattle.std.proofs.Common.{◌≡◌, ◌≢◌, ℕ, ◌<◌, List, ap, ◌∙◌, subst, length, arith}
use Rattle.std.specs.Prelude.{◌↔◌, Option, Some, None, slice_get}
use Rattle.std.proofs.lemmas.Option.{slice_get-get_or}
use Rattle.design_core.specs.Shape.{DesignOf}
use Rattle.design_meaning.specs.Claims.{NeverBreak, NoBreak}
use Rattle.judge.specs.Finding.{Claim, FindingOf}
use Rattle.judge.specs.Jobs.{IsSpanFor, Solvable}
use Rattle.race_core.specs.Asking.{name_at}
use Rattle.race_core.specs.Collect.{AreCollected}
use Rattle.race_core.specs.Report.{ReportOf}
use Rattle.sby_terms.specs.Decide.{Decides}
use Rattle.sby_terms.specs.Span.{IsSpan, first_of, last_of, slices_of, whole}
use Rattle.sby_terms.specs.declared.names.Answer.{Answer}
use Rattle.sby_terms.specs.declared.names.Answer.TheVariants.{Unsat}
use Rattle.sby_terms.specs.declared.names.JobName.TheVariants.{Base, Step}
use Rattle.sby_terms.specs.declared.names.Mode.{Mode}
use Rattle.sby_terms.specs.declared.names.Mode.TheVariants.{Bmc, Prove, ProveInv}
use Rattle.sby_terms.specs.declared.names.Verdict.TheVariants.{Pass as PassVerdict}
use Rattle.sby_terms.specs.declared.span.Span.{Span}
use Rattle.sby_lines.specs.Told.{AreReported, answer_of, job_of}
use Rattle.sby_lines.proofs.ShownLemmas.{carried_claims}

-- what is claimed by a finding for a settled job
pub record IsClaimedAt (mode : Mode) (span : Span) (d : DesignOf) (k : ℕ) (a : Answer) : Type 0 where
  pub finding : FindingOf
  pub claim : Claim d span (name_at mode k) a finding.run

pub claimed_at : (mode : Mode) (span : Span) (d : DesignOf) (reports : List (ReportOf FindingOf)) (n : ℕ) (answers : List (Option Answer)) (k : ℕ) (a : Answer) → AreReported mode span d reports
    → AreCollected job_of answer_of mode n reports answers → slice_get answers k ≡ Some (Some a) → IsClaimedAt mode span d k a
claimed_at mode span d reports n answers k a reported are at =
    let e = are.entry k (Some a) at in
    let f = e.0 in
    let claim = carried_claims mode span d reports e.1.0 e.0 reported e.1.1 e.1.2 in
    record {
      finding = f;
      claim = subst (λ x. Claim d span (name_at mode k) x f.run) e.2 (subst (λ j. Claim d span j f.answer f.run) e.1.3 claim);
    }

-- PASS of prove: no run breaks an assertion
pub prove_passes : ((d : DesignOf) (n : ℕ) → 0 < n → (Solvable d (Base 0) (whole n) → ⊥) → (Solvable d Step (whole n) → ⊥) → NeverBreak d) → (span : Span) (d : DesignOf) (reports : List (ReportOf FindingOf)) (n : ℕ)
    (answers : List (Option Answer)) → IsSpanFor Prove span → AreReported Prove span d reports → AreCollected job_of answer_of Prove n reports answers → Decides Prove answers PassVerdict → NeverBreak d
prove_passes induction span d reports n answers askable reported are decides =
    let apart : Prove ≢ Bmc = λ e. cc in
    let one : span ≡ whole span.depth = askable.one apart in
    let base = claimed_at Prove span d reports n answers 0 Unsat reported are decides.0 in
    let step = claimed_at Prove span d reports n answers 1 Unsat reported are decides.1 in
    let none : NoBreak d (first_of (whole span.depth) 0) (last_of (whole span.depth) 0) = subst (λ s. NoBreak d (first_of s 0) (last_of s 0)) one base.claim.0 in
    let stepless : Solvable d Step (whole span.depth) → ⊥ = subst (λ s. Solvable d Step s → ⊥) one step.claim.0 in
    induction d span.depth (omega (arith, askable.is_span.some)) (λ s. none s.0 s.1 s.2 s.3 s.4 s.5) stepless

-- by an invariant, too
pub invariant_passes : (span : Span) (d : DesignOf) (reports : List (ReportOf FindingOf)) (n : ℕ) (answers : List (Option Answer)) → AreReported ProveInv span d reports → AreCollected job_of answer_of ProveInv n reports answers
    → Decides ProveInv answers PassVerdict → NeverBreak d
invariant_passes span d reports n answers reported are decides = (claimed_at ProveInv span d reports n answers 1 Unsat reported are decides.1).claim.0

-- PASS of bmc is that each slice is Unsat
all_unsat : (span : Span) (answers : List (Option Answer)) → length answers ≡ slices_of span → Decides Bmc answers PassVerdict → (i : ℕ) → i < slices_of span → slice_get answers i ≡ Some (Some Unsat)
all_unsat span answers size decides i lt =
    let within : i < length answers = omega (arith, lt, size) in slice_get-get_or answers i None within ∙ ap Some (decides.1 i None within)

-- PASS of bmc: no run of more cycles than are skipped breaks an assertion within the depth
pub bmc_passes : ((d : DesignOf) (span : Span) → IsSpan span → ((i : ℕ) → i < slices_of span → NoBreak d (first_of span i) (last_of span i)) ↔ NoBreak d span.skip span.depth) → (span : Span) (d : DesignOf) (reports : List (ReportOf FindingOf)) (n : ℕ)
    (answers : List (Option Answer)) → IsSpan span → n ≡ slices_of span → AreReported Bmc span d reports → AreCollected job_of answer_of Bmc n reports answers → Decides Bmc answers PassVerdict → NoBreak d span.skip span.depth
bmc_passes slices span d reports n answers is size reported are decides =
    (slices d span is).0 (λ i lt. (claimed_at Bmc span d reports n answers i Unsat reported are (all_unsat span answers (are.size ∙ size) decides i lt)).claim.0)
