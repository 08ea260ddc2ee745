-- Reports have a status.
use Rattle.std.proofs.Common.{◌≡◌, ℕ, zero, suc, ◌<◌, List, [], ◌∷◌, ◌++◌, refl, ap, sym, ◌∙◌, subst, inl, inr, ◌⊎◌, length, get_or, arith}
use Rattle.std.specs.Prelude.{Contains, Option, Some, None, slice_get}
use Rattle.std.proofs.lemmas.List.Elements.{Contains-append_cases, Contains-append_left, Contains-append_right, Contains-push, Contains-push_cases}
use Rattle.std.proofs.lemmas.Option.{slice_get_within}
use Rattle.race_core.specs.Asking.{name_at}
use Rattle.race_core.specs.Carrying.{Carries}
use Rattle.race_core.specs.Collect.{AreCollected, CarriedIn, IsAnswer, IsStatus, SettledIn}
use Rattle.race_core.specs.Consistent.{end_at}
use Rattle.race_core.specs.Report.{ReportOf}
use Rattle.race_core.specs.Told.{Decided, told_by}
use Rattle.race_core.specs.declared.end.JobEnd.{JobEnd}
use Rattle.race_core.specs.declared.end.JobEnd.TheVariants.{Found, Unknown as UnknownEnd, NotServed, Bad, ReadFailed, StartFailed, HoldFailed, Skipped, CalledOff, Stopped as StoppedEnd, Memory as MemoryEnd}
use Rattle.sby_terms.specs.Decide.{AreAll, Decides}
use Rattle.sby_terms.specs.Status.{HasStatus}
use Rattle.sby_terms.specs.declared.names.Answer.{Answer}
use Rattle.sby_terms.specs.declared.names.Answer.TheVariants.{Sat, Unsat}
use Rattle.sby_terms.specs.declared.names.Event.{Event}
use Rattle.sby_terms.specs.declared.names.Event.TheVariants.{Quiet, Fault, Stopped, Memory as MemoryEvent}
use Rattle.sby_terms.specs.declared.names.JobName.{JobName}
use Rattle.sby_terms.specs.declared.names.JobName.TheVariants.{Base, Step, Inv, Cover}
use Rattle.sby_terms.specs.declared.names.Mode.{Mode}
use Rattle.sby_terms.specs.declared.names.Mode.TheVariants.{Bmc, Prove, ProveInv, Cover as CoverMode}
use Rattle.sby_terms.specs.declared.names.Status.{Status}
use Rattle.sby_terms.specs.declared.names.Status.TheVariants.{Pass, Fail, Unknown, Error, Timeout, Memory}
use Rattle.sby_terms.specs.declared.names.Verdict.{Verdict}
use Rattle.sby_terms.specs.declared.names.Verdict.TheVariants.{Pass as PassVerdict, Fail as FailVerdict}

-- ---- what holds or doesn't

abbrev pub Known : Type 0 → Type 0
Known P = P ⊎ (P → ⊥)

nothing : {X : Type 0} (x : X) → Contains [] x → ⊥
nothing x c = omega (arith, c.1)

at_head : {X : Type 0} (x : X) (xs : List X) → Contains (x ∷ xs) x
at_head x xs = Contains-append_left (x ∷ []) xs x (Contains-push [] x)

later : {X : Type 0} (y x : X) (xs : List X) → Contains xs x → Contains (y ∷ xs) x
later y x xs h = Contains-append_right (y ∷ []) xs x h

only : {X : Type 0} (y x : X) → Contains (y ∷ []) x → y ≡ x
only y x c = elim (Contains-push_cases [] y x c) [ inl none ↦ absurd (nothing x none) | inr same ↦ same ]

head_or_later : {X : Type 0} (y x : X) (xs : List X) → Contains (y ∷ xs) x → (y ≡ x) ⊎ Contains xs x
head_or_later y x xs c = elim (Contains-append_cases (y ∷ []) xs x c) [ inl here ↦ inl (only y x here) | inr rest ↦ inr rest ]

-- whether a list has such an element
among : {X : Type 0} (P : X → Type 0) → ((x : X) → Known (P x)) → (xs : List X) → ((x : X) × Contains xs x × P x) ⊎ ((x : X) → Contains xs x → P x → ⊥)
among P known [] = inr (λ x c h. nothing x c)
among P known (y ∷ ys) = elim (known y) [
  | inl here ↦ inl (y, at_head y ys, here)
  | inr apart ↦ elim (among P known ys) [
    | inl rest ↦ inl (rest.0, later y rest.0 ys rest.1, rest.2)
    | inr none ↦ inr (λ x c h. elim (head_or_later y x ys c) [ inl same ↦ apart (subst P (sym same) h) | inr rest ↦ none x rest h ])
  ]
]

member : {X : Type 0} (x : X) → ((y : X) → Known (y ≡ x)) → (xs : List X) → Known (Contains xs x)
member x known xs = elim (among (λ y. y ≡ x) known xs) [
  | inl found ↦ inl (subst (Contains xs) found.2 found.1)
  | inr none ↦ inr (λ c. none x c refl)
]

not_known : {P : Type 0} → Known P → Known (P → ⊥)
not_known (inl p) = inr (λ n. n p)
not_known (inr n) = inl n

same_number : (n m : ℕ) → Known (n ≡ m)
same_number zero zero = inl refl
same_number zero (suc m) = inr (λ e. omega (arith, e))
same_number (suc n) zero = inr (λ e. omega (arith, e))
same_number (suc n) (suc m) = elim (same_number n m) [ inl same ↦ inl (ap suc same) | inr apart ↦ inr (λ e. apart (omega (arith, e))) ]

same_name : (a b : JobName) → Known (a ≡ b)
same_name (Base n) (Base m) = elim (same_number n m) [ inl same ↦ inl (ap Base same) | inr apart ↦ inr (λ e. apart (let z = e in cc)) ]
same_name (Cover n) (Cover m) = elim (same_number n m) [ inl same ↦ inl (ap Cover same) | inr apart ↦ inr (λ e. apart (let z = e in cc)) ]
same_name Step Step = inl refl
same_name Inv Inv = inl refl
same_name (Base n) Inv = inr (λ e. cc)
same_name Step Inv = inr (λ e. cc)
same_name (Cover n) Inv = inr (λ e. cc)
same_name Inv (Base m) = inr (λ e. cc)
same_name Inv Step = inr (λ e. cc)
same_name Inv (Cover m) = inr (λ e. cc)
same_name (Base n) Step = inr (λ e. cc)
same_name (Base n) (Cover m) = inr (λ e. cc)
same_name Step (Base m) = inr (λ e. cc)
same_name Step (Cover m) = inr (λ e. cc)
same_name (Cover n) (Base m) = inr (λ e. cc)
same_name (Cover n) Step = inr (λ e. cc)

answered : (a : Answer) (o : Option Answer) → Known (o ≡ Some a)
answered a None = inr (λ e. cc)
answered Sat (Some Sat) = inl refl
answered Sat (Some Unsat) = inr (λ e. cc)
answered Unsat (Some Sat) = inr (λ e. cc)
answered Unsat (Some Unsat) = inl refl

entered : (a : Answer) (o : Option (Option Answer)) → Known (o ≡ Some (Some a))
entered a None = inr (λ e. cc)
entered a (Some o) = elim (answered a o) [ inl is ↦ inl (ap Some is) | inr apart ↦ inr (λ e. apart (let z = e in cc)) ]

is_event : (e : Event) (f : Event) → Known (f ≡ e)
is_event Quiet Quiet = inl refl
is_event Quiet Fault = inr (λ e. cc)
is_event Quiet Stopped = inr (λ e. cc)
is_event Quiet MemoryEvent = inr (λ e. cc)
is_event Fault Quiet = inr (λ e. cc)
is_event Fault Fault = inl refl
is_event Fault Stopped = inr (λ e. cc)
is_event Fault MemoryEvent = inr (λ e. cc)
is_event Stopped Quiet = inr (λ e. cc)
is_event Stopped Fault = inr (λ e. cc)
is_event Stopped Stopped = inl refl
is_event Stopped MemoryEvent = inr (λ e. cc)
is_event MemoryEvent Quiet = inr (λ e. cc)
is_event MemoryEvent Fault = inr (λ e. cc)
is_event MemoryEvent Stopped = inr (λ e. cc)
is_event MemoryEvent MemoryEvent = inl refl

-- ---- the verdict

all_at : (xs : List (Option Answer)) (a : Answer) → AreAll xs a → (x : Option Answer) → Contains xs x → x ≡ Some a
all_at xs a all x c = sym c.2 ∙ all c.0 x c.1

all_by : (xs : List (Option Answer)) (a : Answer) → ((x : Option Answer) → Contains xs x → (x ≡ Some a → ⊥) → ⊥) → AreAll xs a
all_by xs a none = λ k d lt. elim (answered a (get_or xs k d)) [ inl is ↦ is | inr apart ↦ absurd (none (get_or xs k d) (k, lt, get_or_same xs k d (get_or xs k d) lt) apart) ]
  where
    get_or_same : (ys : List (Option Answer)) (k : ℕ) (d e : Option Answer) → k < length ys → get_or ys k e ≡ get_or ys k d
    get_or_same [] k d e lt = absurd (omega (arith, lt))
    get_or_same (y ∷ ys) zero d e lt = refl
    get_or_same (y ∷ ys) (suc k) d e lt = get_or_same ys k d e (omega (arith, lt))

-- each answer is this one, or some is another
all_or_other : (a : Answer) (xs : List (Option Answer)) → AreAll xs a ⊎ ((x : Option Answer) × Contains xs x × (x ≡ Some a → ⊥))
all_or_other a xs = elim (among (λ x. x ≡ Some a → ⊥) (λ x. not_known (answered a x)) xs) [ inl other ↦ inr other | inr none ↦ inl (all_by xs a none) ]

bmc_passes : (xs : List (Option Answer)) → AreAll xs Unsat → (Contains xs (Some Sat) → ⊥) → (v : Option Verdict) × Decided Bmc xs v
bmc_passes [] all none = (None, λ v h. by v h)
  where
    by : (v : Verdict) → Decides Bmc [] v → ⊥
    by PassVerdict h = h.0 refl
    by FailVerdict h = nothing (Some Sat) h
bmc_passes (x ∷ xs) all none = (Some PassVerdict, ((λ e. cc), all))

pub some_verdict : (mode : Mode) (xs : List (Option Answer)) → (v : Option Verdict) × Decided mode xs v
some_verdict Bmc xs = elim (member (Some Sat) (answered Sat) xs) [
  | inl fails ↦ (Some FailVerdict, fails)
  | inr none ↦ elim (all_or_other Unsat xs) [
    | inl all ↦ bmc_passes xs all none
    | inr other ↦ (None, λ v h. by other v h none)
  ]
]
  where
    by : ((x : Option Answer) × Contains xs x × (x ≡ Some Unsat → ⊥)) → (v : Verdict) → Decides Bmc xs v → (Contains xs (Some Sat) → ⊥) → ⊥
    by other PassVerdict h none = other.2 (all_at xs Unsat h.1 other.0 other.1)
    by other FailVerdict h none = none h
some_verdict Prove xs = elim (entered Sat (slice_get xs 0)) [
  | inl fails ↦ (Some FailVerdict, fails)
  | inr apart ↦ elim (entered Unsat (slice_get xs 0)) [
    | inl base ↦ elim (entered Unsat (slice_get xs 1)) [
      | inl step ↦ (Some PassVerdict, (base, step))
      | inr unsettled ↦ (None, λ v h. no_step unsettled apart v h)
    ]
    | inr unsettled ↦ (None, λ v h. no_base unsettled apart v h)
  ]
]
  where
    no_step : (slice_get xs 1 ≡ Some (Some Unsat) → ⊥) → (slice_get xs 0 ≡ Some (Some Sat) → ⊥) → (v : Verdict) → Decides Prove xs v → ⊥
    no_step unsettled apart PassVerdict h = unsettled h.1
    no_step unsettled apart FailVerdict h = apart h

    no_base : (slice_get xs 0 ≡ Some (Some Unsat) → ⊥) → (slice_get xs 0 ≡ Some (Some Sat) → ⊥) → (v : Verdict) → Decides Prove xs v → ⊥
    no_base unsettled apart PassVerdict h = unsettled h.0
    no_base unsettled apart FailVerdict h = apart h
some_verdict ProveInv xs = elim (entered Sat (slice_get xs 0)) [
  | inl fails ↦ (Some FailVerdict, fails)
  | inr apart ↦ elim (entered Unsat (slice_get xs 1)) [
    | inl inv ↦ (Some PassVerdict, (apart, inv))
    | inr unsettled ↦ (None, λ v h. neither unsettled apart v h)
  ]
]
  where
    neither : (slice_get xs 1 ≡ Some (Some Unsat) → ⊥) → (slice_get xs 0 ≡ Some (Some Sat) → ⊥) → (v : Verdict) → Decides ProveInv xs v → ⊥
    neither unsettled apart PassVerdict h = unsettled h.1
    neither unsettled apart FailVerdict h = apart h
some_verdict CoverMode xs = elim (member (Some Unsat) (answered Unsat) xs) [
  | inl fails ↦ (Some FailVerdict, fails)
  | inr none ↦ elim (all_or_other Sat xs) [
    | inl all ↦ (Some PassVerdict, all)
    | inr other ↦ (None, λ v h. by other v h none)
  ]
]
  where
    by : ((x : Option Answer) × Contains xs x × (x ≡ Some Sat → ⊥)) → (v : Verdict) → Decides CoverMode xs v → (Contains xs (Some Unsat) → ⊥) → ⊥
    by other PassVerdict h none = other.2 (all_at xs Sat h other.0 other.1)
    by other FailVerdict h none = none h

-- ---- the status

open_status : (events : List Event) → (s : Status) × HasStatus None events s
open_status events = elim (member MemoryEvent (is_event MemoryEvent) events) [
  | inl memory ↦ (Memory, memory)
  | inr no_memory ↦ elim (member Stopped (is_event Stopped) events) [
    | inl stopped ↦ (Timeout, (no_memory, stopped))
    | inr no_stop ↦ elim (member Fault (is_event Fault) events) [
      | inl fault ↦ (Error, (no_memory, no_stop, fault))
      | inr no_fault ↦ (Unknown, (no_memory, no_stop, no_fault))
    ]
  ]
]

pub some_status : (decided : Option Verdict) (events : List Event) → (s : Status) × HasStatus decided events s
some_status (Some PassVerdict) events = (Pass, refl)
some_status (Some FailVerdict) events = (Fail, refl)
some_status None events = open_status events

-- ---- lists by their places

pub listed : {X : Type 0} (P : ℕ → X → Type 0) → ((k : ℕ) → (x : X) × P k x) → (n : ℕ) → (xs : List X) × (length xs ≡ n) × ((k : ℕ) (x : X) → slice_get xs k ≡ Some x → P k x)
listed P each zero = ([], refl, λ k x at. cc)
listed {X} P each (suc n) =
    let rest = listed (λ k. P (suc k)) (λ k. each (suc k)) n in
    let first = each 0 in (
      first.0 ∷ rest.0,
      ap suc rest.1,
      (λ k x at. by first.0 first.1 rest.0 rest.2 k x at),
    )
  where
    by : (y : X) → P 0 y → (ys : List X) → ((k : ℕ) (x : X) → slice_get ys k ≡ Some x → P (suc k) x) → (k : ℕ) (x : X) → slice_get (y ∷ ys) k ≡ Some x → P k x
    by y first ys others zero x at = let same : y ≡ x = cc in subst (P 0) same first
    by y first ys others (suc k) x at = others k x at

-- ---- the answers and the events of reports

module _ {T : Type 0} (job : T → JobName) (answer : T → Answer) where
  found_here : (name : JobName) (g : T) → Known ((f : T) × (g ≡ f) × (job f ≡ name))
  found_here name g = elim (same_name (job g) name) [
    | inl is ↦ inl (g, refl, is)
    | inr apart ↦ inr (λ h. apart (ap job h.1 ∙ h.2))
  ]

  carried : (name : JobName) (e : JobEnd T) → Known ((f : T) × Carries e f × (job f ≡ name))
  carried name (Found g) = found_here name g
  carried name (Skipped g) = found_here name g
  carried name (CalledOff g) = found_here name g
  carried name UnknownEnd = inr (λ h. absurd h.1)
  carried name NotServed = inr (λ h. absurd h.1)
  carried name (Bad number at) = inr (λ h. absurd h.1)
  carried name ReadFailed = inr (λ h. absurd h.1)
  carried name StartFailed = inr (λ h. absurd h.1)
  carried name HoldFailed = inr (λ h. absurd h.1)
  carried name (StoppedEnd t) = inr (λ h. absurd h.1)
  carried name MemoryEnd = inr (λ h. absurd h.1)

  in_report : (name : JobName) (r : ReportOf T) → Known ((f : T) × CarriedIn r.ends f × (job f ≡ name))
  in_report name r = elim (among (λ e. (f : T) × Carries e f × (job f ≡ name)) (carried name) r.ends) [
    | inl found ↦ inl (found.2.0, (found.0, found.1, found.2.1), found.2.2)
    | inr none ↦ inr (λ h. none h.1.0 h.1.1 (h.0, h.1.2, h.2))
  ]

  settled : (reports : List (ReportOf T)) (name : JobName) → (o : Option Answer) × IsAnswer answer (λ f. SettledIn job reports name f) o
  settled reports name = elim (among (λ r. (f : T) × CarriedIn r.ends f × (job f ≡ name)) (in_report name) reports) [
    | inl found ↦ (Some (answer found.2.0), (found.2.0, (found.0, found.1, found.2.1, found.2.2), refl))
    | inr none ↦ (None, (λ f h. none h.0 h.1 (f, h.2, h.3)))
  ]

  pub some_answers : (mode : Mode) (n : ℕ) (reports : List (ReportOf T)) → (answers : List (Option Answer)) × AreCollected job answer mode n reports answers
  some_answers mode n reports =
      let made = listed (λ k o. IsAnswer answer (λ f. SettledIn job reports (name_at mode k) f) o) (λ k. settled reports (name_at mode k)) n in
      (made.0, record { size = made.1; entry = made.2 })

module _ {T : Type 0} (reports : List (ReportOf T)) (answers : List (Option Answer)) where
  -- an event of an unsettled job below n
  abbrev Comes : ℕ → Event → Type 0
  Comes n e = (r : ReportOf T) × (k : ℕ) × Contains reports r × (k < n) × (slice_get answers k ≡ Some None) × (told_by (end_at r k) ≡ e)

  at_place : (k : ℕ) (rs : List (ReportOf T)) → (events : List Event) × ((e : Event) → Contains events e → (r : ReportOf T) × Contains rs r × (told_by (end_at r k) ≡ e)) × ((r : ReportOf T) → Contains rs r → Contains events (told_by (end_at r k)))
  at_place k [] = ([], (λ e c. absurd (nothing e c)), (λ r c. absurd (nothing r c)))
  at_place k (r ∷ rs) =
      let rest = at_place k rs in (
        told_by (end_at r k) ∷ rest.0,
        (λ e c. elim (head_or_later (told_by (end_at r k)) e rest.0 c) [
          | inl same ↦ (r, at_head r rs, same)
          | inr more ↦ let found = rest.1 e more in (found.0, later r found.0 rs found.1, found.2)
        ]),
        (λ q c. elim (head_or_later r q rs c) [
          | inl same ↦ subst (λ (x : ReportOf T). Contains (told_by (end_at r k) ∷ rest.0) (told_by (end_at x k))) same (at_head (told_by (end_at r k)) rest.0)
          | inr more ↦ later (told_by (end_at r k)) (told_by (end_at q k)) rest.0 (rest.2 q more)
        ]),
      )

  abbrev Gathered : ℕ → Type 0
  Gathered n = (events : List Event) × ((e : Event) → Contains events e → Comes n e) × ((r : ReportOf T) (k : ℕ) → Contains reports r → k < n → slice_get answers k ≡ Some None → Contains events (told_by (end_at r k)))

  wider : (n : ℕ) (e : Event) → Comes n e → Comes (suc n) e
  wider n e h = (h.0, h.1, h.2, omega (arith, h.3), h.4, h.5)

  last_place : (k n : ℕ) → k < suc n → (k < n) ⊎ (k ≡ n)
  last_place k n lt = elim (same_number k n) [ inl same ↦ inr same | inr apart ↦ inl (below k n lt apart) ]
    where
      below : (k n : ℕ) → k < suc n → (k ≡ n → ⊥) → k < n
      below zero zero lt apart = absurd (apart refl)
      below zero (suc n) lt apart = omega arith
      below (suc k) zero lt apart = absurd (omega (arith, lt))
      below (suc k) (suc n) lt apart = let less = below k n (omega (arith, lt)) (λ e. apart (ap suc e)) in omega (arith, less)

  same_events : (n : ℕ) → Gathered n → (o : Option (Option Answer)) → slice_get answers n ≡ o → (o ≡ Some None → ⊥) → Gathered (suc n)
  same_events n before o is apart = (
    before.0,
    (λ e c. wider n e (before.1 e c)),
    (λ r k c lt none. elim (last_place k n lt) [
      | inl less ↦ before.2 r k c less none
      | inr last ↦ absurd (apart (sym is ∙ subst (λ j. slice_get answers j ≡ Some None) last none))
    ]),
  )

  more_events : (n : ℕ) → Gathered n → slice_get answers n ≡ Some None → Gathered (suc n)
  more_events n before is =
      let here = at_place n reports in (
        before.0 ++ here.0,
        (λ e c. elim (Contains-append_cases before.0 here.0 e c) [
          | inl old ↦ wider n e (before.1 e old)
          | inr new ↦ let found = here.1 e new in (found.0, n, found.1, omega arith, is, found.2)
        ]),
        (λ r k c lt none. elim (last_place k n lt) [
          | inl less ↦ Contains-append_left before.0 here.0 (told_by (end_at r k)) (before.2 r k c less none)
          | inr last ↦ subst (λ j. Contains (before.0 ++ here.0) (told_by (end_at r j))) (sym last) (Contains-append_right before.0 here.0 (told_by (end_at r n)) (here.2 r c))
        ]),
      )

  one_more : (n : ℕ) → Gathered n → (o : Option (Option Answer)) → slice_get answers n ≡ o → Gathered (suc n)
  one_more n before None is = same_events n before None is (λ e. cc)
  one_more n before (Some (Some a)) is = same_events n before (Some (Some a)) is (λ e. cc)
  one_more n before (Some None) is = more_events n before is

  gather : (n : ℕ) → Gathered n
  gather zero = ([], (λ e c. absurd (nothing e c)), (λ r k c lt none. absurd (omega (arith, lt))))
  gather (suc n) = one_more n (gather n) (slice_get answers n) refl

-- reports have a status
pub status_exists : {T : Type 0} (job : T → JobName) (mode : Mode) (reports : List (ReportOf T)) (answers : List (Option Answer)) → (s : Status) × IsStatus job mode reports answers s
status_exists job mode reports answers =
    let verdict = some_verdict mode answers in
    let told = gather reports answers (length answers) in
    let status = some_status verdict.0 told.0 in (
      status.0,
      record {
        decided = verdict.0;
        decides = verdict.1;
        events = told.0;
        come = λ e c. let x = told.1 e c in (x.0, x.1, x.2, x.4, x.5);
        all = λ r k c none. told.2 r k c (slice_get_within answers k None none) none;
        has_status = status.1;
      },
    )
