-- What is printed of findings: one finding for a job, and one run.
use Rattle.std.proofs.Common.{◌≡◌, ℕ, zero, suc, ◌-◌, ◌<◌, ◌≤◌, List, [], ◌∷◌, refl, ap, sym, ◌∙◌, subst, inl, inr, length, arith}
use Rattle.std.specs.Prelude.{◌≢◌, Option, Some, None, Contains, slice_get}
use Rattle.std.proofs.lemmas.Bool.{cases_order}
use Rattle.judge.specs.Finding.{Claim, FindingOf, RunShows}
use Rattle.judge.specs.Jobs.{jobs_in, span_of}
use Rattle.judge.specs.Agree.{agree_law}
use Rattle.design_core.specs.Shape.{DesignOf}
use Rattle.design_meaning.specs.Runs.{CycleOf}
use Rattle.design_reader.specs.Grammar.{Reads}
use Rattle.race_core.specs.Asking.{name_at}
use Rattle.race_core.specs.Carrying.{Carries}
use Rattle.race_core.specs.Collect.{AreCollected, CarriedIn, HasFinding, HasWon, IsAnswer, IsLowest, IsPrinting, SettledIn}
use Rattle.race_core.specs.Consistent.{end_at}
use Rattle.race_core.specs.Report.{ReportOf}
use Rattle.race_core.specs.Told.{Decided}
use Rattle.race_core.specs.declared.end.JobEnd.{JobEnd}
use Rattle.race_core.specs.declared.end.JobEnd.TheVariants.{Found, Unknown, NotServed, Bad, ReadFailed, StartFailed, HoldFailed, Skipped, CalledOff, Stopped, Memory as MemoryEnd}
use Rattle.sby_terms.specs.Decide.{Decides}
use Rattle.sby_terms.specs.Problem.{ProblemOf}
use Rattle.sby_terms.specs.Span.{first_of, last_of}
use Rattle.sby_terms.specs.declared.names.Answer.{Answer}
use Rattle.sby_terms.specs.declared.names.Answer.TheVariants.{Sat, Unsat}
use Rattle.sby_terms.specs.declared.names.JobName.{JobName}
use Rattle.sby_terms.specs.declared.names.JobName.TheVariants.{Base, Step, Inv, Cover}
use Rattle.sby_terms.specs.declared.names.Mode.{Mode}
use Rattle.sby_terms.specs.declared.names.Mode.TheVariants.{Bmc, Prove, ProveInv, Cover as CoverMode}
use Rattle.sby_terms.specs.declared.names.Verdict.{Verdict}
use Rattle.sby_terms.specs.declared.names.Verdict.TheVariants.{Pass, Fail}
use Rattle.sby_terms.specs.declared.span.Span.{Span}
use Rattle.sby_lines.specs.Broken.{Breaks}
use Rattle.sby_lines.specs.Reached.{Reaches}
use Rattle.sby_lines.proofs.PlaceLemmas.{at_contains, contains_at}
use Rattle.sby_lines.specs.Told.{AreInPlace, AreReported, IsFirstFinding, IsFirstSat, IsPrintedFinding, IsStopReading, IsStoppedIn, answer_of, job_of}

-- ---- reports by their lanes

at_of : {X : Type 0} (xs : List X) (x : X) → Contains xs x → (i : ℕ) × (slice_get xs i ≡ Some x)
at_of xs x c = (c.0, contains_at xs x c)

pub some_same : {X : Type 0} (x y : X) → Some x ≡ Some y → x ≡ y
some_same x y e = cc

-- one report of each lane
pub one_report : (reports : List (ReportOf FindingOf)) (r q : ReportOf FindingOf) → AreInPlace reports → Contains reports r → Contains reports q → r.lane ≡ q.lane → r ≡ q
one_report reports r q places c e same =
    let a = at_of reports r c in let b = at_of reports q e in
    let i : a.0 ≡ b.0 = sym (places a.0 r a.1) ∙ same ∙ places b.0 q b.1 in
    some_same r q (sym a.1 ∙ ap (slice_get reports) i ∙ b.1)

-- the lowest lane is one
pub one_lowest : (P : ReportOf FindingOf → Type 0) (reports : List (ReportOf FindingOf)) (m n : ℕ) → IsLowest P reports (Some m) → IsLowest P reports (Some n) → m ≡ n
one_lowest P reports m n x y =
    let a : n ≤ x.0.0.lane = y.1 x.0.0 x.0.1 x.0.3 in let b : m ≤ y.0.0.lane = x.1 y.0.0 y.0.1 y.0.3 in
    omega (arith, a, b, x.0.2, y.0.2)

pub one_lane : (reports : List (ReportOf FindingOf)) (k : ℕ) (job : JobName) (m n : ℕ) → IsPrinting job_of reports k job (Some m) → IsPrinting job_of reports k job (Some n) → m ≡ n
one_lane reports k job m n (inl x) (inl y) = one_lowest (λ r. HasWon r k) reports m n x.0 y.0
one_lane reports k job m n (inl x) (inr y) = absurd (y.0 x.0.0.0 x.0.0.1 x.0.0.3)
one_lane reports k job m n (inr x) (inl y) = absurd (x.0 y.0.0.0 y.0.0.1 y.0.0.3)
one_lane reports k job m n (inr x) (inr y) = one_lowest (HasFinding job_of job) reports m n x.1 y.1

-- an end carries one finding
pub one_carried : (end : JobEnd FindingOf) (f g : FindingOf) → Carries end f → Carries end g → f ≡ g
one_carried (Found h) f g x y = sym x ∙ y
one_carried (Skipped h) f g x y = sym x ∙ y
one_carried (CalledOff h) f g x y = sym x ∙ y
one_carried Unknown f g x y = absurd x
one_carried NotServed f g x y = absurd x
one_carried (Bad number at) f g x y = absurd x
one_carried ReadFailed f g x y = absurd x
one_carried StartFailed f g x y = absurd x
one_carried HoldFailed f g x y = absurd x
one_carried (Stopped reading) f g x y = absurd x
one_carried MemoryEnd f g x y = absurd x

-- the first finding for a job is one
pub one_first : (ends : List (JobEnd FindingOf)) (job : JobName) (f g : FindingOf) → IsFirstFinding ends job f → IsFirstFinding ends job g → f ≡ g
one_first ends job f g x y = elim (cases_order x.place y.place) [
  | inl same ↦ let e : x.end ≡ y.end = some_same x.end y.end (sym x.at ∙ ap (slice_get ends) same ∙ y.at) in one_carried y.end f g (subst (λ z. Carries z f) e x.carried) y.carried
  | inr other ↦ elim other [
    | inl below ↦ absurd (y.none_before x.place x.end f below x.at x.carried x.of_job)
    | inr past ↦ absurd (x.none_before y.place y.end g past y.at y.carried y.of_job)
  ]
]

-- the printed finding is one
pub one_printed : (mode : Mode) (reports : List (ReportOf FindingOf)) (place : ℕ) (f g : FindingOf) → AreInPlace reports → IsPrintedFinding mode reports place f → IsPrintedFinding mode reports place g → f ≡ g
one_printed mode reports place f g places x y =
    let lane : x.lane ≡ y.lane = one_lane reports place (name_at mode place) x.lane y.lane x.printing y.printing in
    let same : x.report ≡ y.report = one_report reports x.report y.report places x.in_reports y.in_reports (x.of_lane ∙ lane ∙ sym y.of_lane) in
    one_first y.report.ends (name_at mode place) f g (subst (λ r. IsFirstFinding r.ends (name_at mode place) f) same x.first) y.first

-- ---- what findings say

-- it is carried for the job
pub printed_carried : (mode : Mode) (reports : List (ReportOf FindingOf)) (place : ℕ) (f : FindingOf) → IsPrintedFinding mode reports place f → (r : ReportOf FindingOf) × Contains reports r × HasFinding job_of (name_at mode place) r
printed_carried mode reports place f is =
    (is.report, is.in_reports, (f, (is.first.end, at_contains is.report.ends is.first.place is.first.end is.first.at, is.first.carried), is.first.of_job))

-- a finding that a report carries claims what is true of the design
pub carried_claims : (mode : Mode) (span : Span) (d : DesignOf) (reports : List (ReportOf FindingOf)) (r : ReportOf FindingOf) (f : FindingOf) → AreReported mode span d reports → Contains reports r → CarriedIn r.ends f
    → Claim d span f.job f.answer f.run
carried_claims mode span d reports r f are c carried =
    let t = are.are_true r f c carried in
    let p : ProblemOf = record { text = are.text; mode = mode; span = span } in
    let claim : Claim d (span_of f.problem) f.job f.answer f.run = t.0.claims d (subst (λ (q : ProblemOf). Reads q.text d) (sym t.1) are.reads) in
    subst (λ (q : ProblemOf). Claim d (span_of q) f.job f.answer f.run) t.1 claim

pub printed_claims : (mode : Mode) (span : Span) (d : DesignOf) (reports : List (ReportOf FindingOf)) (place : ℕ) (f : FindingOf) → AreReported mode span d reports → IsPrintedFinding mode reports place f
    → Claim d span (name_at mode place) f.answer f.run
printed_claims mode span d reports place f are is =
    subst (λ j. Claim d span j f.answer f.run) is.first.of_job
    (carried_claims mode span d reports is.report f are is.in_reports (is.first.end, at_contains is.report.ends is.first.place is.first.end is.first.at, is.first.carried))

shows_breaks : (d : DesignOf) (k n : ℕ) (run : List CycleOf) → RunShows d k n (Some run) → Breaks d run
shows_breaks d k n run shows = let at = shows.3.1 in record {
  rows = shows.0;
  some = at.run.window.some;
  broken = (shows.3.0, at.last (length run - 1) (omega (arith, at.run.window.some)));
}

claim_breaks : (d : DesignOf) (span : Span) (job : JobName) (answer : Answer) (run : List CycleOf) → ((k : ℕ) → job ≡ Cover k → ⊥) → Claim d span job answer (Some run) → Breaks d run
claim_breaks d span (Base i) Sat run apart c = shows_breaks d (first_of span i) (last_of span i) run c
claim_breaks d span (Base i) Unsat run apart c = let no : Some run ≡ None = c.1 in cc
claim_breaks d span Step Sat run apart c = let no : Some run ≡ None = c.1 in cc
claim_breaks d span Step Unsat run apart c = let no : Some run ≡ None = c.1 in cc
claim_breaks d span Inv Sat run apart c = absurd c
claim_breaks d span Inv Unsat run apart c = let no : Some run ≡ None = c.1 in cc
claim_breaks d span (Cover k) answer run apart c = absurd (apart k refl)

claim_reaches : (d : DesignOf) (span : Span) (k : ℕ) (answer : Answer) (run : List CycleOf) → Claim d span (Cover k) answer (Some run) → Reaches d run
claim_reaches d span k Sat run c = (c.0, c.2.run.window.some)
claim_reaches d span k Unsat run c = let no : Some run ≡ None = c.1 in cc

no_cover : (mode : Mode) (span : Span) (d : DesignOf) (place k : ℕ) → mode ≢ CoverMode → place < length (jobs_in mode span d) → name_at mode place ≡ Cover k → ⊥
no_cover Bmc span d place k apart lt is = cc
no_cover Prove span d zero k apart lt is = cc
no_cover Prove span d (suc zero) k apart lt is = cc
no_cover Prove span d (suc (suc place)) k apart lt is = omega (arith, lt)
no_cover ProveInv span d zero k apart lt is = cc
no_cover ProveInv span d (suc zero) k apart lt is = cc
no_cover ProveInv span d (suc (suc place)) k apart lt is = omega (arith, lt)
no_cover CoverMode span d place k apart lt is = apart refl

-- in bmc and prove its run breaks an assertion
pub printed_breaks : (mode : Mode) (span : Span) (d : DesignOf) (reports : List (ReportOf FindingOf)) (place : ℕ) (f : FindingOf) (run : List CycleOf) → mode ≢ CoverMode → AreReported mode span d reports
    → place < length (jobs_in mode span d) → IsPrintedFinding mode reports place f → f.run ≡ Some run → Breaks d run
printed_breaks mode span d reports place f run apart are lt is has =
    claim_breaks d span (name_at mode place) f.answer run (λ k e. no_cover mode span d place k apart lt e) (subst (λ o. Claim d span (name_at mode place) f.answer o) has (printed_claims mode span d reports place f are is))

-- in cover it reaches the statement
pub printed_reaches : (mode : Mode) (span : Span) (d : DesignOf) (reports : List (ReportOf FindingOf)) (place : ℕ) (f : FindingOf) (run : List CycleOf) → mode ≡ CoverMode → AreReported mode span d reports
    → IsPrintedFinding mode reports place f → f.run ≡ Some run → Reaches d run
printed_reaches mode span d reports place f run is_cover are is has =
    let claim = subst (λ o. Claim d span (name_at mode place) f.answer o) has (printed_claims mode span d reports place f are is) in
    let name : name_at mode place ≡ Cover place = ap (λ m. name_at m place) is_cover in
    claim_reaches d span place f.answer run (subst (λ j. Claim d span j f.answer (Some run)) name claim)

-- ---- answers

entry_same : (answers others : List (Option Answer)) → length answers ≡ length others → ((k : ℕ) (o p : Option Answer) → slice_get answers k ≡ Some o → slice_get others k ≡ Some p → o ≡ p) → answers ≡ others
entry_same [] [] size each = refl
entry_same [] (p ∷ others) size each = cc
entry_same (o ∷ answers) [] size each = cc
entry_same (o ∷ answers) (p ∷ others) size each =
    let rest : answers ≡ others = entry_same answers others (omega (arith, size)) (λ k a b x y. each (suc k) a b x y) in
    let first : o ≡ p = each 0 o p refl refl in ap (λ x. x ∷ answers) first ∙ ap (λ xs. p ∷ xs) rest

module _ (mode : Mode) (span : Span) (d : DesignOf) (reports : List (ReportOf FindingOf)) (are : AreReported mode span d reports) where
  -- findings for one job agree
  pub findings_agree : (job : JobName) (f g : FindingOf) → SettledIn job_of reports job f → SettledIn job_of reports job g → f.answer ≡ g.answer
  findings_agree job f g x y =
      let a = are.are_true x.0 f x.1 x.2 in let b = are.are_true y.0 g y.1 y.2 in
      agree_law f g a.0 b.0 (a.1 ∙ sym b.1) (x.3 ∙ sym y.3)

  one_answer : (job : JobName) (o p : Option Answer) → IsAnswer answer_of (λ f. SettledIn job_of reports job f) o → IsAnswer answer_of (λ f. SettledIn job_of reports job f) p → o ≡ p
  one_answer job None None x y = refl
  one_answer job None (Some b) x y = absurd (x y.0 y.1)
  one_answer job (Some a) None x y = absurd (y x.0 x.1)
  one_answer job (Some a) (Some b) x y = ap Some (sym x.2 ∙ findings_agree job x.0 y.0 x.1 y.1 ∙ y.2)

  pub answers_same : (n : ℕ) (answers others : List (Option Answer)) → AreCollected job_of answer_of mode n reports answers → AreCollected job_of answer_of mode n reports others → answers ≡ others
  answers_same n answers others x y = entry_same answers others (x.size ∙ sym y.size) (λ k o p at here. one_answer (name_at mode k) o p (x.entry k o at) (y.entry k p here))

-- ---- lines of runs

-- the first answer Sat is one
pub first_same : (answers : List (Option Answer)) (a b : ℕ) → IsFirstSat answers a → IsFirstSat answers b → a ≡ b
first_same answers a b x y = elim (cases_order a b) [
  | inl same ↦ same
  | inr other ↦ elim other [
    | inl below ↦ absurd (y.1 a below x.0)
    | inr past ↦ absurd (x.1 b past y.0)
  ]
]

-- the reading that stopped is one
pub one_stop : (reports : List (ReportOf FindingOf)) (answers : List (Option Answer)) (a b : ℕ) → AreInPlace reports → IsStopReading reports answers a → IsStopReading reports answers b → a ≡ b
one_stop reports answers a b places x y =
    let lane : x.lane ≡ y.lane = one_lowest _ reports x.lane y.lane x.lowest y.lowest in
    let same : x.report ≡ y.report = one_report reports x.report y.report places x.in_reports y.in_reports (x.of_lane ∙ lane ∙ sym y.of_lane) in
    let own : IsStoppedIn answers y.report x.place a = subst (λ r. IsStoppedIn answers r x.place a) same x.stopped in
    elim (cases_order x.place y.place) [
      | inl here ↦
          let e : Stopped a ≡ Stopped b = sym own.1 ∙ ap (end_at y.report) here ∙ y.stopped.1 in cc
      | inr other ↦ elim other [
        | inl below ↦ absurd (y.first x.place a below own)
        | inr past ↦ absurd (x.first y.place b past (subst (λ r. IsStoppedIn answers r y.place b) (sym same) y.stopped))
      ]
    ]

not_both : (mode : Mode) (answers : List (Option Answer)) → Decides mode answers Pass → Decides mode answers Fail → ⊥
not_both Bmc answers x y = let e : Some Sat ≡ Some Unsat = sym y.2 ∙ x.1 y.0 (Some Sat) y.1 in cc
not_both Prove answers x y = let e : Some (Some Unsat) ≡ Some (Some Sat) = sym x.0 ∙ y in cc
not_both ProveInv answers x y = x.0 y
not_both CoverMode answers x y = let e : Some Unsat ≡ Some Sat = sym y.2 ∙ x y.0 (Some Unsat) y.1 in cc

-- the verdict is one
pub one_verdict : (mode : Mode) (answers : List (Option Answer)) (v w : Option Verdict) → Decided mode answers v → Decided mode answers w → v ≡ w
one_verdict mode answers None None x y = refl
one_verdict mode answers None (Some w) x y = absurd (x w y)
one_verdict mode answers (Some v) None x y = absurd (y v x)
one_verdict mode answers (Some Pass) (Some Pass) x y = refl
one_verdict mode answers (Some Fail) (Some Fail) x y = refl
one_verdict mode answers (Some Pass) (Some Fail) x y = absurd (not_both mode answers x y)
one_verdict mode answers (Some Fail) (Some Pass) x y = absurd (not_both mode answers y x)
