-- The lines of a task exist: finding what is printed, and where.
use Rattle.std.proofs.Common.{◌≡◌, ℕ, zero, suc, ◌<◌, List, refl, ap, sym, ◌∙◌, subst, inl, inr, ◌⊎◌, length, arith}
use Rattle.std.specs.Prelude.{true, false, Option, Some, None, Contains, slice_get}
use Rattle.std.proofs.lemmas.Bool.{cases_eq, cases_lt}
use Rattle.std.proofs.lemmas.Option.{slice_get_within}
use Rattle.judge.specs.Finding.{FindingOf}
use Rattle.race_core.specs.Asking.{name_at}
use Rattle.race_core.specs.Carrying.{Carries}
use Rattle.race_core.specs.Collect.{HasFinding, HasWon, IsLowest, IsPrinting}
use Rattle.race_core.specs.Consistent.{end_at, events_at}
use Rattle.race_core.specs.Report.{ReportOf}
use Rattle.race_core.specs.declared.end.JobEnd.{JobEnd}
use Rattle.race_core.specs.declared.end.JobEnd.TheVariants.{Found, Unknown, NotServed, Bad, ReadFailed, StartFailed, HoldFailed, Skipped, CalledOff, Stopped, Memory as MemoryEnd}
use Rattle.race_core.specs.declared.event.LaneEvent.{LaneEvent}
use Rattle.race_core.specs.declared.event.LaneEvent.TheVariants as event
use Rattle.sby_terms.specs.declared.names.Answer.{Answer}
use Rattle.sby_terms.specs.declared.names.Answer.TheVariants.{Sat, Unsat}
use Rattle.sby_terms.specs.declared.names.JobName.{JobName}
use Rattle.sby_terms.specs.declared.names.JobName.TheVariants.{Base, Step, Inv, Cover}
use Rattle.sby_terms.specs.declared.names.Mode.{Mode}
use Rattle.sby_lines.specs.Printed.{HasNoFinding, HasNoStop, IsFirstStop}
use Rattle.sby_lines.specs.Told.{AreInPlace, IsFirstFinding, IsPrintedFinding, IsStopReading, IsStoppedIn, WinnersHaveFindings, job_of}
use Rattle.sby_lines.proofs.PlaceLemmas.{at_contains, contains_at}
use Rattle.sby_lines.proofs.PrintedLemmas.{first_stop, is_printed, none_printed, not_without}

-- ---- the first place

-- of the places below n the first of which P holds, or none
abbrev pub FirstBelow : (ℕ → Type 0) → ℕ → Type 0
FirstBelow P n = ((k : ℕ) × (k < n) × P k × ((j : ℕ) → j < k → P j → ⊥)) ⊎ ((k : ℕ) → k < n → P k → ⊥)

pub first_below : (P : ℕ → Type 0) → ((k : ℕ) → P k ⊎ (P k → ⊥)) → (n : ℕ) → FirstBelow P n
first_below P test zero = inr (λ k lt. absurd (omega (arith, lt)))
first_below P test (suc n) = elim (first_below P test n) [
  | inl first ↦ inl (first.0, omega (arith, first.1), first.2, first.3)
  | inr none ↦ elim (test n) [
    | inl is ↦ inl (n, omega arith, is, none)
    | inr not ↦ inr (λ k lt is. elim (cases_lt k n) [
      | inl below ↦ none k below is
      | inr past ↦ let e : k ≡ n = omega (arith, lt, past) in not (subst P e is)
    ])
  ]
]

-- what holds at a place of a list, tested at its member
abbrev At : {X : Type 0} → (X → Type 0) → List X → ℕ → Type 0
At {X} P xs k = (x : X) × (slice_get xs k ≡ Some x) × P x

test_at : {X : Type 0} (P : X → Type 0) → ((x : X) → P x ⊎ (P x → ⊥)) → (xs : List X) (k : ℕ) → At P xs k ⊎ (At P xs k → ⊥)
test_at {X} P test xs k = by (slice_get xs k) refl
  where
    by : (o : Option X) → slice_get xs k ≡ o → At P xs k ⊎ (At P xs k → ⊥)
    by None is = inr (λ h. let e : None ≡ Some h.0 = sym is ∙ h.1 in cc)
    by (Some x) is = elim (test x) [
      | inl holds ↦ inl (x, is, holds)
      | inr fails ↦ inr (λ h. let e : Some x ≡ Some h.0 = sym is ∙ h.1 in let same : h.0 ≡ x = cc in fails (subst P same h.2))
    ]

-- ---- the lowest lane

module _ (reports : List (ReportOf FindingOf)) (places : AreInPlace reports) (P : ReportOf FindingOf → Type 0) (test : (r : ReportOf FindingOf) → P r ⊎ (P r → ⊥)) where
  pub lowest_of : ((lane : ℕ) × IsLowest P reports (Some lane)) ⊎ IsLowest P reports None
  lowest_of = elim (first_below (At P reports) (test_at P test reports) (length reports)) [
    | inl first ↦
        let r = first.2.0 in
        inl (
          first.0,
          (
            (r, at_contains reports first.0 r first.2.1, places first.0 r first.2.1, first.2.2),
            λ q c has. elim (cases_lt c.0 first.0) [
              | inl below ↦ absurd (first.3 c.0 below (q, contains_at reports q c, has))
              | inr past ↦ let lane : q.lane ≡ c.0 = places c.0 q (contains_at reports q c) in omega (arith, lane, past)
            ],
          ),
        )
    | inr none ↦ inr (λ q c has. none c.0 c.1 (q, contains_at reports q c, has))
  ]

-- ---- who won, and who has a finding

is_won : (e : LaneEvent FindingOf) → (e ≡ event.Settle true) ⊎ (e ≡ event.Settle true → ⊥)
is_won (event.Settle true) = inl refl
is_won (event.Settle false) = inr (λ e. cc)
is_won (event.Read bytes progress) = inr (λ e. cc)
is_won (event.File bytes progress) = inr (λ e. cc)
is_won event.ReaderMemory = inr (λ e. cc)
is_won (event.Turns n) = inr (λ e. cc)
is_won (event.Poll p) = inr (λ e. cc)
is_won (event.Clock t) = inr (λ e. cc)
is_won (event.Look c known) = inr (λ e. cc)
is_won event.Kill = inr (λ e. cc)
is_won event.KeeperMemory = inr (λ e. cc)
is_won event.Took = inr (λ e. cc)
is_won event.Start = inr (λ e. cc)
is_won event.Finish = inr (λ e. cc)
is_won event.Gave = inr (λ e. cc)

contains_won : (es : List (LaneEvent FindingOf)) → Contains es (event.Settle true) ⊎ (Contains es (event.Settle true) → ⊥)
contains_won es = elim (first_below (At (λ e. e ≡ event.Settle true) es) (test_at (λ e. e ≡ event.Settle true) is_won es) (length es)) [
  | inl first ↦ inl (subst (Contains es) first.2.2 (at_contains es first.0 first.2.0 first.2.1))
  | inr none ↦ inr (λ c. none c.0 c.1 (event.Settle true, contains_at es (event.Settle true) c, refl))
]

pub has_won : (k : ℕ) (r : ReportOf FindingOf) → HasWon r k ⊎ (HasWon r k → ⊥)
has_won k r = contains_won (events_at r k).reader

same_job : (a b : JobName) → (a ≡ b) ⊎ (a ≡ b → ⊥)
same_job (Base m) (Base n) = elim (cases_eq m n) [ inl e ↦ inl (ap Base e) | inr apart ↦ inr (λ e. let s : m ≡ n = cc in apart s) ]
same_job (Cover m) (Cover n) = elim (cases_eq m n) [ inl e ↦ inl (ap Cover e) | inr apart ↦ inr (λ e. let s : m ≡ n = cc in apart s) ]
same_job Step Step = inl refl
same_job Inv Inv = inl refl
same_job (Base m) Step = inr (λ e. cc)
same_job (Base m) Inv = inr (λ e. cc)
same_job (Base m) (Cover n) = inr (λ e. cc)
same_job Step (Base n) = inr (λ e. cc)
same_job Step Inv = inr (λ e. cc)
same_job Step (Cover n) = inr (λ e. cc)
same_job Inv (Base n) = inr (λ e. cc)
same_job Inv Step = inr (λ e. cc)
same_job Inv (Cover n) = inr (λ e. cc)
same_job (Cover m) (Base n) = inr (λ e. cc)
same_job (Cover m) Step = inr (λ e. cc)
same_job (Cover m) Inv = inr (λ e. cc)

-- an end carries a finding for the job
abbrev For : JobName → JobEnd FindingOf → Type 0
For job e = (f : FindingOf) × Carries e f × (f.job ≡ job)

found_for : (job : JobName) (e : JobEnd FindingOf) (g : FindingOf) → ((f : FindingOf) → Carries e f → g ≡ f) → Carries e g → For job e ⊎ (For job e → ⊥)
found_for job e g only carries = elim (same_job g.job job) [
  | inl is ↦ inl (g, carries, is)
  | inr apart ↦ inr (λ h. apart (ap (λ (x : FindingOf). x.job) (only h.0 h.1) ∙ h.2))
]

is_for : (job : JobName) (e : JobEnd FindingOf) → For job e ⊎ (For job e → ⊥)
is_for job (Found g) = found_for job (Found g) g (λ f c. c) refl
is_for job (Skipped g) = found_for job (Skipped g) g (λ f c. c) refl
is_for job (CalledOff g) = found_for job (CalledOff g) g (λ f c. c) refl
is_for job Unknown = inr (λ h. h.1)
is_for job NotServed = inr (λ h. h.1)
is_for job (Bad number at) = inr (λ h. h.1)
is_for job ReadFailed = inr (λ h. h.1)
is_for job StartFailed = inr (λ h. h.1)
is_for job HoldFailed = inr (λ h. h.1)
is_for job (Stopped reading) = inr (λ h. h.1)
is_for job MemoryEnd = inr (λ h. h.1)

-- the first finding for a job, or none
pub first_finding : (ends : List (JobEnd FindingOf)) (job : JobName) → ((f : FindingOf) × IsFirstFinding ends job f) ⊎ HasNoFinding ends job
first_finding ends job = elim (first_below (At (For job) ends) (test_at (For job) (is_for job) ends) (length ends)) [
  | inl first ↦ inl (
    first.2.2.0,
    record {
      place = first.0;
      end = first.2.0;
      at = first.2.1;
      carried = first.2.2.1;
      of_job = first.2.2.2;
      none_before = λ j e f lt at c is. first.3 j lt (e, at, (f, c, is));
    },
  )
  | inr none ↦ inr (λ j e f at c is. none j (slice_get_within ends j e at) (e, at, (f, c, is)))
]

pub has_finding : (job : JobName) (r : ReportOf FindingOf) → HasFinding job_of job r ⊎ (HasFinding job_of job r → ⊥)
has_finding job r = elim (first_finding r.ends job) [
  | inl first ↦ let f = first.1 in inl (first.0, (f.end, at_contains r.ends f.place f.end f.at, f.carried), f.of_job)
  | inr none ↦ inr (λ h. none h.1.1.0 h.1.0 h.0 (contains_at r.ends h.1.0 h.1.1) h.1.2 h.2)
]

-- ---- the printed finding

module _ (mode : Mode) (reports : List (ReportOf FindingOf)) (place : ℕ) (places : AreInPlace reports) (winners : WinnersHaveFindings mode reports) where
  abbrev job : JobName
  job = name_at mode place

  printing_of : ((lane : ℕ) × IsPrinting job_of reports place job (Some lane)) ⊎ IsPrinting job_of reports place job None
  printing_of = elim (lowest_of reports places (λ r. HasWon r place) (has_won place)) [
    | inl won ↦ inl (won.0, inl (won.1, λ e. cc))
    | inr none ↦ elim (lowest_of reports places (HasFinding job_of job) (has_finding job)) [
      | inl found ↦ inl (found.0, inr (none, found.1))
      | inr without ↦ inr (inr (none, without))
    ]
  ]

  report_of : (lane : ℕ) → IsPrinting job_of reports place job (Some lane) → (r : ReportOf FindingOf) × (slice_get reports lane ≡ Some r)
  report_of lane (inl won) = let h = won.0.0 in (h.0, subst (λ k. slice_get reports k ≡ Some h.0) (sym (places h.1.0 h.0 (contains_at reports h.0 h.1)) ∙ h.2) (contains_at reports h.0 h.1))
  report_of lane (inr found) = let h = found.1.0 in (h.0, subst (λ k. slice_get reports k ≡ Some h.0) (sym (places h.1.0 h.0 (contains_at reports h.0 h.1)) ∙ h.2) (contains_at reports h.0 h.1))

  in_report : (lane : ℕ) (printing : IsPrinting job_of reports place job (Some lane)) (r : ReportOf FindingOf) → slice_get reports lane ≡ Some r → (f : FindingOf) × IsPrintedFinding mode reports place f
  in_report lane printing r at = elim (first_finding r.ends job) [
    | inl first ↦ (first.0, is_printed mode reports place job lane r refl places at first.0 printing first.1)
    | inr none ↦ absurd (not_without mode reports place job lane r refl places at winners printing none)
  ]

  -- where some report has a finding, one is printed
  pub printed_of : (r : ReportOf FindingOf) → Contains reports r → HasFinding job_of job r → (f : FindingOf) × IsPrintedFinding mode reports place f
  printed_of r c has = elim printing_of [
    | inl some ↦ let at = report_of some.0 some.1 in in_report some.0 some.1 at.0 at.1
    | inr none ↦ absurd (none_printed mode reports place job refl none r c has)
  ]

-- ---- the stop

stopped_at : (e : JobEnd FindingOf) → ((t : ℕ) × (e ≡ Stopped t)) ⊎ ((t : ℕ) → e ≡ Stopped t → ⊥)
stopped_at (Stopped t) = inl (t, refl)
stopped_at (Found f) = inr (λ t e. cc)
stopped_at (Skipped f) = inr (λ t e. cc)
stopped_at (CalledOff f) = inr (λ t e. cc)
stopped_at Unknown = inr (λ t e. cc)
stopped_at NotServed = inr (λ t e. cc)
stopped_at (Bad number at) = inr (λ t e. cc)
stopped_at ReadFailed = inr (λ t e. cc)
stopped_at StartFailed = inr (λ t e. cc)
stopped_at HoldFailed = inr (λ t e. cc)
stopped_at MemoryEnd = inr (λ t e. cc)

is_open : (o : Option (Option Answer)) → (o ≡ Some None) ⊎ (o ≡ Some None → ⊥)
is_open None = inr (λ e. cc)
is_open (Some None) = inl refl
is_open (Some (Some a)) = inr (λ e. cc)

-- the lane was stopped at this place
abbrev StopAt : List (Option Answer) → ReportOf FindingOf → ℕ → Type 0
StopAt answers r k = (t : ℕ) × IsStoppedIn answers r k t

stop_test : (answers : List (Option Answer)) (r : ReportOf FindingOf) (k : ℕ) → StopAt answers r k ⊎ (StopAt answers r k → ⊥)
stop_test answers r k = elim (is_open (slice_get answers k)) [
  | inr settled ↦ inr (λ h. settled h.1.0)
  | inl unsettled ↦ elim (stopped_at (end_at r k)) [
    | inl stop ↦ inl (stop.0, (unsettled, stop.1))
    | inr none ↦ inr (λ h. none h.0 h.1.1)
  ]
]

first_in : (answers : List (Option Answer)) (r : ReportOf FindingOf) → ((t : ℕ) × IsFirstStop answers r t) ⊎ HasNoStop answers r
first_in answers r = elim (first_below (StopAt answers r) (stop_test answers r) (length answers)) [
  | inl first ↦ inl (first.2.0, (first.0, first.2.1, λ k t lt is. first.3 k lt (t, is)))
  | inr none ↦ inr (λ k t is. none k (slice_get_within answers k None is.0) (t, is))
]

module _ (reports : List (ReportOf FindingOf)) (answers : List (Option Answer)) (places : AreInPlace reports) where
  abbrev HasStop : ReportOf FindingOf → Type 0
  HasStop r = (t : ℕ) × IsFirstStop answers r t

  has_stop : (r : ReportOf FindingOf) → HasStop r ⊎ (HasStop r → ⊥)
  has_stop r = elim (first_in answers r) [ inl is ↦ inl is | inr none ↦ inr (λ h. none h.1.0 h.0 h.1.1) ]

  -- where some lane was stopped in an unsettled job, there is a reading
  pub stop_of : (r : ReportOf FindingOf) (k t : ℕ) → Contains reports r → IsStoppedIn answers r k t → (reading : ℕ) × IsStopReading reports answers reading
  stop_of r k t c stopped = elim (first_below (At HasStop reports) (test_at HasStop has_stop reports) (length reports)) [
    | inl first ↦
        let at = first.2 in (
          at.2.0,
          first_stop reports answers first.0 at.0 at.2.0 places
              (λ i q lt here j u is. elim (first_in answers q) [ inl some ↦ first.3 i lt (q, here, some) | inr none ↦ none j u is ])
              at.1 at.2.1,
        )
    | inr none ↦ elim (first_in answers r) [
      | inl some ↦ absurd (none c.0 c.1 (r, contains_at reports r c, some))
      | inr without ↦ absurd (without k t stopped)
    ]
  ]

-- an answer is Sat or not
pub sat_test : (answers : List (Option Answer)) (k : ℕ) → (slice_get answers k ≡ Some (Some Sat)) ⊎ (slice_get answers k ≡ Some (Some Sat) → ⊥)
sat_test answers k = by (slice_get answers k)
  where
    by : (o : Option (Option Answer)) → (o ≡ Some (Some Sat)) ⊎ (o ≡ Some (Some Sat) → ⊥)
    by None = inr (λ e. cc)
    by (Some None) = inr (λ e. cc)
    by (Some (Some Sat)) = inl refl
    by (Some (Some Unsat)) = inr (λ e. cc)
