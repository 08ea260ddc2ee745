-- Finding what is printed.
use Rattle.std.proofs.Common.{◌≡◌, ℕ, ◌+◌, ◌<◌, ◌≤◌, List, refl, ap, sym, ◌∙◌, subst, inl, inr, ◌⊎◌, length, arith}
use Rattle.std.specs.Prelude.{Option, Some, None, Contains, IfNone, IfSome, slice_get}
use Rattle.std.proofs.lemmas.Bool.{cases_lt}
use Rattle.judge.specs.Finding.{FindingOf}
use Rattle.race_core.specs.Asking.{name_at}
use Rattle.race_core.specs.Collect.{HasFinding, HasWon, IsPrinting}
use Rattle.race_core.specs.Report.{ReportOf}
use Rattle.sby_terms.specs.declared.names.Answer.{Answer}
use Rattle.sby_terms.specs.declared.names.JobName.{JobName}
use Rattle.sby_terms.specs.declared.names.Mode.{Mode}
use Rattle.sby_terms.specs.declared.names.Mode.TheVariants.{Bmc, Prove, ProveInv}
use Rattle.sby_lines.specs.Lines.{told_answers, upto_sat}
use Rattle.sby_lines.specs.Printed.{HasNoFinding, HasNoStop, IsFirstStop}
use Rattle.sby_lines.proofs.PlaceLemmas.{at_contains, contains_at}
use Rattle.sby_lines.specs.Told.{AreInPlace, IsFirstFinding, IsPrintedFinding, IsStopReading, WinnersHaveFindings, job_of}

pub if_some_weaker : {A : Type 0} (o : Option A) (P Q : A → Type 0) → ((x : A) → P x → Q x) → IfSome o P → IfSome o Q
if_some_weaker None P Q weaker is = tt
if_some_weaker (Some x) P Q weaker is = weaker x is

pub if_none_weaker : {A : Type 0} (o : Option A) (P Q : Type 0) → (P → Q) → IfNone o P → IfNone o Q
if_none_weaker None P Q weaker is = weaker is
if_none_weaker (Some x) P Q weaker is = tt

-- in bmc and prove the answers up to the first that is Sat are told
pub told_upto : (mode : Mode) (answers told : List (Option Answer)) → ((mode ≡ Bmc) ⊎ ((mode ≡ Prove) ⊎ (mode ≡ ProveInv))) → told ≡ upto_sat answers → told ≡ told_answers mode answers
told_upto mode answers told (inl is) same = rw is same
told_upto mode answers told (inr (inl is)) same = rw is same
told_upto mode answers told (inr (inr is)) same = rw is same

module _ (mode : Mode) (reports : List (ReportOf FindingOf)) (place : ℕ) (job : JobName) (lane : ℕ) (report : ReportOf FindingOf) (named : job ≡ name_at mode place) (places : AreInPlace reports)
    (at : slice_get reports lane ≡ Some report) where
  here : Contains reports report
  here = at_contains reports lane report at

  -- the first finding of the printing lane is printed
  pub is_printed : (f : FindingOf) → IsPrinting job_of reports place job (Some lane) → IsFirstFinding report.ends job f → IsPrintedFinding mode reports place f
  is_printed f printing first = record {
    lane = lane;
    report = report;
    printing = subst (λ j. IsPrinting job_of reports place j (Some lane)) named printing;
    in_reports = here;
    of_lane = places lane report at;
    first = subst (λ j. IsFirstFinding report.ends j f) named first;
  }

  same_report : (r : ReportOf FindingOf) → Contains reports r → r.lane ≡ lane → r ≡ report
  same_report r c is = let i : c.0 ≡ lane = sym (places c.0 r (contains_at reports r c)) ∙ is in let e : Some r ≡ Some report = sym (contains_at reports r c) ∙ ap (slice_get reports) i ∙ at in cc

  -- which has one
  pub has_printed : WinnersHaveFindings mode reports → IsPrinting job_of reports place job (Some lane) → HasFinding job_of (name_at mode place) report
  has_printed winners (inl won) =
      let h = won.0.0 in
      winners report place here (subst (λ q. HasWon q place) (same_report h.0 h.1 h.2) h.3)
  has_printed winners (inr found) =
      let h = found.1.0 in
      subst (λ j. HasFinding job_of j report) named (subst (λ q. HasFinding job_of job q) (same_report h.0 h.1 h.2) h.3)

  pub not_without : WinnersHaveFindings mode reports → IsPrinting job_of reports place job (Some lane) → HasNoFinding report.ends job → ⊥
  not_without winners printing none =
      let h = has_printed winners printing in
      none h.1.1.0 h.1.0 h.0 (contains_at report.ends h.1.0 h.1.1) h.1.2 (h.2 ∙ sym named)

-- the printing lane has a report
pub lane_within : (reports : List (ReportOf FindingOf)) (place lane : ℕ) (job : JobName) → AreInPlace reports → IsPrinting job_of reports place job (Some lane) → lane < length reports
lane_within reports place lane job places (inl won) =
    let h = won.0.0 in let at : h.0.lane ≡ h.1.0 = places h.1.0 h.0 (contains_at reports h.0 h.1) in omega (arith, at, h.2, h.1.1)
lane_within reports place lane job places (inr found) =
    let h = found.1.0 in let at : h.0.lane ≡ h.1.0 = places h.1.0 h.0 (contains_at reports h.0 h.1) in omega (arith, at, h.2, h.1.1)

-- without a printing lane no report has a finding
pub none_printed : (mode : Mode) (reports : List (ReportOf FindingOf)) (place : ℕ) (job : JobName) → job ≡ name_at mode place → IsPrinting job_of reports place job None → (r : ReportOf FindingOf) → Contains reports r
    → HasFinding job_of (name_at mode place) r → ⊥
none_printed mode reports place job named (inl won) r c has = absurd (won.1 refl)
none_printed mode reports place job named (inr none) r c has = none.1 r c (subst (λ j. HasFinding job_of j r) (sym named) has)

-- ---- stops

pub none_more : (reports : List (ReportOf FindingOf)) (answers : List (Option Answer)) (n : ℕ) (r : ReportOf FindingOf) → ((i : ℕ) (q : ReportOf FindingOf) → i < n → slice_get reports i ≡ Some q → HasNoStop answers q)
    → slice_get reports n ≡ Some r → HasNoStop answers r → (i : ℕ) (q : ReportOf FindingOf) → i < n + 1 → slice_get reports i ≡ Some q → HasNoStop answers q
none_more reports answers n r before at none i q lt is = elim (cases_lt i n) [
  | inl below ↦ before i q below is
  | inr past ↦
      let e : i ≡ n = omega (arith, lt, past) in
      let s : Some q ≡ Some r = sym is ∙ ap (slice_get reports) e ∙ at in
      let same : q ≡ r = cc in subst (HasNoStop answers) (sym same) none
]

pub none_stopped : (reports : List (ReportOf FindingOf)) (answers : List (Option Answer)) (n : ℕ) → ((i : ℕ) (q : ReportOf FindingOf) → i < n → slice_get reports i ≡ Some q → HasNoStop answers q) → length reports ≤ n
    → (r : ReportOf FindingOf) → Contains reports r → HasNoStop answers r
none_stopped reports answers n before all r c = before c.0 r (omega (arith, c.1, all)) (contains_at reports r c)

pub first_stop : (reports : List (ReportOf FindingOf)) (answers : List (Option Answer)) (n : ℕ) (r : ReportOf FindingOf) (reading : ℕ) → AreInPlace reports
    → ((i : ℕ) (q : ReportOf FindingOf) → i < n → slice_get reports i ≡ Some q → HasNoStop answers q) → slice_get reports n ≡ Some r → IsFirstStop answers r reading → IsStopReading reports answers reading
first_stop reports answers n r reading places before at stop =
    let here : Contains reports r = at_contains reports n r at in record {
      lane = n;
      report = r;
      place = stop.0;
      lowest = (
        (r, here, places n r at, (stop.0, reading, stop.1)),
        λ q c has. elim (cases_lt c.0 n) [
          | inl below ↦ absurd (before c.0 q below (contains_at reports q c) has.0 has.1 has.2)
          | inr past ↦ let lane : q.lane ≡ c.0 = places c.0 q (contains_at reports q c) in omega (arith, lane, past)
        ],
      );
      in_reports = here;
      of_lane = places n r at;
      stopped = stop.1;
      first = stop.2;
    }
