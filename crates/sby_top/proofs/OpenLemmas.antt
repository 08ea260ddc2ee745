-- Findings that reports carry, by their jobs, and the ends of jobs without an answer.
use Rattle.std.proofs.Common.{◌≡◌, ℕ, ◌<◌, List, refl, ap, sym, ◌∙◌, subst, inl, inr, ◌⊎◌, length, get_or, arith}
use Rattle.std.specs.Prelude.{Contains, Option, Some, None, slice_get}
use Rattle.std.proofs.lemmas.List.{get_or_default}
use Rattle.std.proofs.lemmas.Option.{slice_get-get_or}
use Rattle.design_core.specs.Shape.{DesignOf}
use Rattle.judge.specs.Finding.{FindingOf}
use Rattle.judge.specs.Jobs.{jobs_in}
use Rattle.race_core.specs.Asking.{name_at}
use Rattle.race_core.specs.Carrying.{Carries}
use Rattle.race_core.specs.Collect.{AreCollected, SettledIn}
use Rattle.race_core.specs.Consistent.{end_at}
use Rattle.race_core.specs.Report.{ReportOf}
use Rattle.race_core.specs.declared.end.JobEnd.TheVariants.{NotServed}
use Rattle.sby_terms.specs.Decide.{Decides}
use Rattle.sby_terms.specs.declared.names.Answer.{Answer}
use Rattle.sby_terms.specs.declared.names.Mode.{Mode}
use Rattle.sby_terms.specs.declared.names.Mode.TheVariants.{Bmc, Prove, ProveInv, Cover as CoverMode}
use Rattle.sby_terms.specs.declared.names.Verdict.{Verdict}
use Rattle.sby_terms.specs.declared.names.Verdict.TheVariants.{Fail as FailVerdict}
use Rattle.sby_terms.specs.declared.span.Span.{Span}
use Rattle.sby_lines.specs.Told.{AreReported, answer_of, job_of}
use Rattle.sby_lines.proofs.ShownLemmas.{findings_agree}
use Rattle.sby_top.proofs.AnswerLemmas.{IsPlace, Spares, fails_by}

-- a place of a job is one of the mode
pub is_place : (mode : Mode) (span : Span) (d : DesignOf) (k : ℕ) → k < length (jobs_in mode span d) → IsPlace mode k
is_place Bmc span d k lt = tt
is_place Prove span d k lt = omega (arith, lt)
is_place ProveInv span d k lt = omega (arith, lt)
is_place CoverMode span d k lt = tt

module _ (mode : Mode) (span : Span) (d : DesignOf) (reports : List (ReportOf FindingOf)) (are : AreReported mode span d reports) where
  -- what the end at a place carries is carried
  pub carried_here : (r : ReportOf FindingOf) (k : ℕ) (f : FindingOf) → Contains reports r → k < length (jobs_in mode span d) → Carries (end_at r k) f → SettledIn job_of reports f.job f
  carried_here r k f among lt carries =
      let size : length r.ends ≡ length (jobs_in mode span d) = subst (λ (q : ReportOf FindingOf). length q.ends ≡ length (jobs_in mode span d)) among.2 (are.ends among.0 r among.1) in
      let within : k < length r.ends = omega (arith, lt, size) in
      (r, among, (end_at r k, (k, within, get_or_default r.ends k (end_at r k) NotServed within), carries), refl)

  module _ (answers : List (Option Answer)) (collected : AreCollected job_of answer_of mode (length (jobs_in mode span d)) reports answers) where
    by_entry : (k : ℕ) (f : FindingOf) (o : Option Answer) → SettledIn job_of reports (name_at mode k) f → slice_get answers k ≡ Some o → o ≡ Some f.answer
    by_entry k f None settled at = absurd (collected.entry k None at f settled)
    by_entry k f (Some a) settled at = let g = collected.entry k (Some a) at in ap Some (sym g.2 ∙ findings_agree mode span d reports are (name_at mode k) g.0 f g.1 settled)

    -- a finding that is carried for a job gives its answer
    pub answered : (k : ℕ) (f : FindingOf) → k < length (jobs_in mode span d) → SettledIn job_of reports (name_at mode k) f → slice_get answers k ≡ Some (Some f.answer)
    answered k f lt settled =
        let at : slice_get answers k ≡ Some (get_or answers k None) = slice_get-get_or answers k None (omega (arith, lt, collected.size)) in
        at ∙ ap Some (by_entry k f (get_or answers k None) settled at)

    -- one that spares a job gives its answer, or FAIL
    pub spared : (k : ℕ) (f : FindingOf) → k < length (jobs_in mode span d) → Spares mode k f.job f.answer → SettledIn job_of reports f.job f
        → (slice_get answers k ≡ Some (Some f.answer)) ⊎ Decides mode answers FailVerdict
    spared k f lt (inl own) settled = inl (answered k f lt (subst (λ j. SettledIn job_of reports j f) own settled))
    spared k f lt (inr (m, le, own, sat, failing)) settled =
        inr (fails_by mode m answers failing (answered m f (omega (arith, le, lt)) (subst (λ j. SettledIn job_of reports j f) own settled) ∙ ap (λ a. Some (Some a)) sat))

    -- where the answers decide nothing, no finding that an end without an answer carries spares its job
    pub none_spared : ((v : Verdict) → Decides mode answers v → ⊥) → (r : ReportOf FindingOf) (k : ℕ) (f : FindingOf) → Contains reports r → k < length (jobs_in mode span d) → slice_get answers k ≡ Some None
        → Carries (end_at r k) f → Spares mode k f.job f.answer → ⊥
    none_spared left r k f among lt unsettled carries spares = elim (spared k f lt spares (carried_here r k f among lt carries)) [
      | inl at ↦ let no : ◌≡◌ {A = Option (Option Answer)} (Some None) (Some (Some f.answer)) = sym unsettled ∙ at in cc
      | inr fails ↦ left FailVerdict fails
    ]
