-- What the answers of jobs decide, where some are those of others.
use Rattle.std.proofs.Common.{◌≡◌, ℕ, zero, suc, ◌<◌, ◌≤◌, true, List, [], ◌∷◌, refl, ap, ap₂, sym, ◌∙◌, subst, inl, inr, ◌⊎◌, length, eqb-true, arith}
use Rattle.std.specs.Prelude.{Option, Some, None, slice_get}
use Rattle.std.proofs.lemmas.Bool.{cases_lt, leb-true}
use Rattle.std.proofs.lemmas.List.{nil_from_length}
use Rattle.std.proofs.lemmas.Option.{get_or_from_slice_get, slice_get-get_or, slice_get_within}
use Rattle.race_core.specs.Asking.{name_at, needless_by, skipped_by}
use Rattle.sby_terms.specs.Decide.{AreAll, BaseIs, Decides, InvIs}
use Rattle.sby_terms.specs.Status.{HasStatus}
use Rattle.sby_terms.specs.declared.names.Answer.{Answer}
use Rattle.sby_terms.specs.declared.names.Answer.TheVariants.{Sat, Unsat}
use Rattle.sby_terms.specs.declared.names.Event.{Event}
use Rattle.sby_terms.specs.declared.names.JobName.{JobName}
use Rattle.sby_terms.specs.declared.names.JobName.TheVariants.{Base, Step, Inv, Cover}
use Rattle.sby_terms.specs.declared.names.Mode.{Mode}
use Rattle.sby_terms.specs.declared.names.Mode.TheVariants.{Bmc, Prove, ProveInv, Cover as CoverMode}
use Rattle.sby_terms.specs.declared.names.Status.{Status}
use Rattle.sby_terms.specs.declared.names.Status.TheVariants.{Pass, Fail, Unknown, Error, Timeout, Memory}
use Rattle.sby_terms.specs.declared.names.Verdict.{Verdict}
use Rattle.sby_terms.specs.declared.names.Verdict.TheVariants.{Pass as PassVerdict, Fail as FailVerdict}
use Rattle.sby_lines.proofs.PlaceLemmas.{at_contains, contains_at}

-- ---- findings that spare a job

-- in such a mode Sat for the job at this place decides FAIL
abbrev pub IsFailing : Mode → ℕ → Type 0
IsFailing Bmc m = Unit {0}
IsFailing Prove m = m ≡ 0
IsFailing ProveInv m = m ≡ 0
IsFailing CoverMode m = ⊥

pub fails_by : (mode : Mode) (m : ℕ) (answers : List (Option Answer)) → IsFailing mode m → slice_get answers m ≡ Some (Some Sat) → Decides mode answers FailVerdict
fails_by Bmc m answers failing at = at_contains answers m (Some Sat) at
fails_by Prove m answers failing at = subst (λ k. slice_get answers k ≡ Some (Some Sat)) failing at
fails_by ProveInv m answers failing at = subst (λ k. slice_get answers k ≡ Some (Some Sat)) failing at
fails_by CoverMode m answers failing at = absurd failing

-- an answer for this job spares the one at a place: it is for that job; or it is Sat for one by which FAIL is decided
abbrev pub Spares : Mode → ℕ → JobName → Answer → Type 0
Spares mode k job a = (job ≡ name_at mode k) ⊎ ((m : ℕ) × (m ≤ k) × (job ≡ name_at mode m) × (a ≡ Sat) × IsFailing mode m)

-- prove has two jobs, by an invariant too
abbrev pub IsPlace : Mode → ℕ → Type 0
IsPlace Bmc k = Unit {0}
IsPlace Prove k = k < 2
IsPlace ProveInv k = k < 2
IsPlace CoverMode k = Unit {0}

pub skipping_spares : (mode : Mode) (k : ℕ) (job : JobName) (a : Answer) → IsPlace mode k → skipped_by job a (name_at mode k) ≡ true → Spares mode k job a
skipping_spares Bmc k (Base m) Sat within is = inr (m, leb-true m k is, refl, refl, tt)
skipping_spares Bmc k (Base m) Unsat within is = inl (ap Base (eqb-true m k is))
skipping_spares Bmc k Step Sat within is = cc
skipping_spares Bmc k Inv Sat within is = cc
skipping_spares Bmc k Step Unsat within is = cc
skipping_spares Bmc k Inv Unsat within is = cc
skipping_spares Bmc k (Cover m) Sat within is = cc
skipping_spares Bmc k (Cover m) Unsat within is = cc
skipping_spares Prove zero (Base m) Sat within is = let none : m ≡ 0 = omega (arith, leb-true m 0 is) in inl (ap Base none)
skipping_spares Prove zero (Base m) Unsat within is = inl (ap Base (eqb-true m 0 is))
skipping_spares Prove zero Step Sat within is = cc
skipping_spares Prove zero Inv Sat within is = cc
skipping_spares Prove zero Step Unsat within is = cc
skipping_spares Prove zero Inv Unsat within is = cc
skipping_spares Prove zero (Cover m) Sat within is = cc
skipping_spares Prove zero (Cover m) Unsat within is = cc
skipping_spares Prove (suc zero) (Base m) Sat within is = inr (0, omega arith, ap Base (eqb-true m 0 is), refl, refl)
skipping_spares Prove (suc zero) (Base m) Unsat within is = cc
skipping_spares Prove (suc zero) Step a within is = inl refl
skipping_spares Prove (suc zero) Inv Sat within is = cc
skipping_spares Prove (suc zero) Inv Unsat within is = cc
skipping_spares Prove (suc zero) (Cover m) Sat within is = cc
skipping_spares Prove (suc zero) (Cover m) Unsat within is = cc
skipping_spares Prove (suc (suc k)) job a within is = absurd (omega (arith, within))
skipping_spares ProveInv zero (Base m) Sat within is = let none : m ≡ 0 = omega (arith, leb-true m 0 is) in inl (ap Base none)
skipping_spares ProveInv zero (Base m) Unsat within is = inl (ap Base (eqb-true m 0 is))
skipping_spares ProveInv zero Step Sat within is = cc
skipping_spares ProveInv zero Inv Sat within is = cc
skipping_spares ProveInv zero Step Unsat within is = cc
skipping_spares ProveInv zero Inv Unsat within is = cc
skipping_spares ProveInv zero (Cover m) Sat within is = cc
skipping_spares ProveInv zero (Cover m) Unsat within is = cc
skipping_spares ProveInv (suc zero) (Base m) Sat within is = inr (0, omega arith, ap Base (eqb-true m 0 is), refl, refl)
skipping_spares ProveInv (suc zero) (Base m) Unsat within is = cc
skipping_spares ProveInv (suc zero) Step Sat within is = cc
skipping_spares ProveInv (suc zero) Step Unsat within is = cc
skipping_spares ProveInv (suc zero) Inv a within is = inl refl
skipping_spares ProveInv (suc zero) (Cover m) Sat within is = cc
skipping_spares ProveInv (suc zero) (Cover m) Unsat within is = cc
skipping_spares ProveInv (suc (suc k)) job a within is = absurd (omega (arith, within))
skipping_spares CoverMode k (Base m) Sat within is = cc
skipping_spares CoverMode k (Base m) Unsat within is = cc
skipping_spares CoverMode k Step Sat within is = cc
skipping_spares CoverMode k Inv Sat within is = cc
skipping_spares CoverMode k Step Unsat within is = cc
skipping_spares CoverMode k Inv Unsat within is = cc
skipping_spares CoverMode k (Cover m) Sat within is = inl (ap Cover (eqb-true m k is))
skipping_spares CoverMode k (Cover m) Unsat within is = inl (ap Cover (eqb-true m k is))

pub calling_spares : (mode : Mode) (k : ℕ) (job : JobName) (a : Answer) → IsPlace mode k → needless_by job a (name_at mode k) ≡ true → Spares mode k job a
calling_spares Bmc k (Base m) Sat within is = inl (ap Base (eqb-true m k is))
calling_spares Bmc k (Base m) Unsat within is = inl (ap Base (eqb-true m k is))
calling_spares Bmc k Step Sat within is = cc
calling_spares Bmc k Inv Sat within is = cc
calling_spares Bmc k Step Unsat within is = cc
calling_spares Bmc k Inv Unsat within is = cc
calling_spares Bmc k (Cover m) Sat within is = cc
calling_spares Bmc k (Cover m) Unsat within is = cc
calling_spares Prove zero (Base m) Sat within is = inl (ap Base (eqb-true m 0 is))
calling_spares Prove zero (Base m) Unsat within is = inl (ap Base (eqb-true m 0 is))
calling_spares Prove zero Step Sat within is = cc
calling_spares Prove zero Inv Sat within is = cc
calling_spares Prove zero Step Unsat within is = cc
calling_spares Prove zero Inv Unsat within is = cc
calling_spares Prove zero (Cover m) Sat within is = cc
calling_spares Prove zero (Cover m) Unsat within is = cc
calling_spares Prove (suc zero) (Base m) Sat within is = inr (0, omega arith, ap Base (eqb-true m 0 is), refl, refl)
calling_spares Prove (suc zero) (Base m) Unsat within is = cc
calling_spares Prove (suc zero) Step a within is = inl refl
calling_spares Prove (suc zero) Inv Sat within is = cc
calling_spares Prove (suc zero) Inv Unsat within is = cc
calling_spares Prove (suc zero) (Cover m) Sat within is = cc
calling_spares Prove (suc zero) (Cover m) Unsat within is = cc
calling_spares Prove (suc (suc k)) job a within is = absurd (omega (arith, within))
calling_spares ProveInv zero (Base m) Sat within is = inl (ap Base (eqb-true m 0 is))
calling_spares ProveInv zero (Base m) Unsat within is = inl (ap Base (eqb-true m 0 is))
calling_spares ProveInv zero Step Sat within is = cc
calling_spares ProveInv zero Inv Sat within is = cc
calling_spares ProveInv zero Step Unsat within is = cc
calling_spares ProveInv zero Inv Unsat within is = cc
calling_spares ProveInv zero (Cover m) Sat within is = cc
calling_spares ProveInv zero (Cover m) Unsat within is = cc
calling_spares ProveInv (suc zero) (Base m) Sat within is = inr (0, omega arith, ap Base (eqb-true m 0 is), refl, refl)
calling_spares ProveInv (suc zero) (Base m) Unsat within is = cc
calling_spares ProveInv (suc zero) Step Sat within is = cc
calling_spares ProveInv (suc zero) Step Unsat within is = cc
calling_spares ProveInv (suc zero) Inv a within is = inl refl
calling_spares ProveInv (suc zero) (Cover m) Sat within is = cc
calling_spares ProveInv (suc zero) (Cover m) Unsat within is = cc
calling_spares ProveInv (suc (suc k)) job a within is = absurd (omega (arith, within))
calling_spares CoverMode k (Base m) Sat within is = cc
calling_spares CoverMode k (Base m) Unsat within is = cc
calling_spares CoverMode k Step Sat within is = cc
calling_spares CoverMode k Inv Sat within is = cc
calling_spares CoverMode k Step Unsat within is = cc
calling_spares CoverMode k Inv Unsat within is = cc
calling_spares CoverMode k (Cover m) Sat within is = inl (ap Cover (eqb-true m k is))
calling_spares CoverMode k (Cover m) Unsat within is = inl (ap Cover (eqb-true m k is))

-- ---- answers that others have

-- where some answers have one, others have the same
abbrev pub Keeps : List (Option Answer) → List (Option Answer) → Type 0
Keeps xs ys = (k : ℕ) (a : Answer) → slice_get xs k ≡ Some (Some a) → slice_get ys k ≡ Some (Some a)

all_at : (xs : List (Option Answer)) (a : Answer) → AreAll xs a → (k : ℕ) → k < length xs → slice_get xs k ≡ Some (Some a)
all_at xs a all k lt = slice_get-get_or xs k None lt ∙ ap Some (all k None lt)

all_by : (xs : List (Option Answer)) (a : Answer) → ((k : ℕ) → k < length xs → slice_get xs k ≡ Some (Some a)) → AreAll xs a
all_by xs a each = λ k d lt. get_or_from_slice_get xs k (Some a) d (each k lt)

-- of prove by an invariant, an answer of one list that nothing ever breaks and one of the other that something does aren't both there
abbrev pub Apart : Mode → List (Option Answer) → List (Option Answer) → Type 0
Apart Bmc xs ys = Unit {0}
Apart Prove xs ys = Unit {0}
Apart ProveInv xs ys = InvIs xs Unsat → BaseIs ys Sat → ⊥
Apart CoverMode xs ys = Unit {0}

-- then these decide what those do
pub kept_verdict : (mode : Mode) (xs ys : List (Option Answer)) (v : Verdict) → length xs ≡ length ys → Keeps xs ys → Apart mode ys ys → Decides mode xs v → Decides mode ys v
kept_verdict Bmc xs ys PassVerdict same keeps apart h =
    ((λ none. h.0 (nil_from_length xs (same ∙ ap length none))), all_by ys Unsat (λ k lt. keeps k Unsat (all_at xs Unsat h.1 k (omega (arith, same, lt)))))
kept_verdict Bmc xs ys FailVerdict same keeps apart h = at_contains ys h.0 (Some Sat) (keeps h.0 Sat (contains_at xs (Some Sat) h))
kept_verdict Prove xs ys PassVerdict same keeps apart h = (keeps 0 Unsat h.0, keeps 1 Unsat h.1)
kept_verdict Prove xs ys FailVerdict same keeps apart h = keeps 0 Sat h
kept_verdict ProveInv xs ys PassVerdict same keeps apart h = let inv = keeps 1 Unsat h.1 in ((λ base. apart inv base), inv)
kept_verdict ProveInv xs ys FailVerdict same keeps apart h = keeps 0 Sat h
kept_verdict CoverMode xs ys PassVerdict same keeps apart h = all_by ys Sat (λ k lt. keeps k Sat (all_at xs Sat h k (omega (arith, same, lt))))
kept_verdict CoverMode xs ys FailVerdict same keeps apart h = at_contains ys h.0 (Some Unsat) (keeps h.0 Unsat (contains_at xs (Some Unsat) h))

-- PASS and FAIL don't come of answers that agree
pub pass_apart : (mode : Mode) (xs ys : List (Option Answer)) → length xs ≡ length ys → ((k : ℕ) (a b : Answer) → slice_get xs k ≡ Some (Some a) → slice_get ys k ≡ Some (Some b) → a ≡ b)
    → Apart mode xs ys → Decides mode xs PassVerdict → Decides mode ys FailVerdict → ⊥
pass_apart Bmc xs ys same agree apart pass fail =
    let no : Unsat ≡ Sat = agree fail.0 Unsat Sat (all_at xs Unsat pass.1 fail.0 (omega (arith, same, fail.1))) (contains_at ys (Some Sat) fail) in cc
pass_apart Prove xs ys same agree apart pass fail = let no : Unsat ≡ Sat = agree 0 Unsat Sat pass.0 fail in cc
pass_apart ProveInv xs ys same agree apart pass fail = apart pass.1 fail
pass_apart CoverMode xs ys same agree apart pass fail =
    let no : Sat ≡ Unsat = agree fail.0 Sat Unsat (all_at xs Sat pass fail.0 (omega (arith, same, fail.1))) (contains_at ys (Some Unsat) fail) in cc

one_answer : (o : Option (Option Answer)) (a b : Answer) → o ≡ Some (Some a) → o ≡ Some (Some b) → a ≡ b
one_answer o a b x y = let same : ◌≡◌ {A = Option (Option Answer)} (Some (Some a)) (Some (Some b)) = sym x ∙ y in cc

-- where each answer is kept, or something else holds, all are kept, or that holds
module _ (Else : Type 0) (xs ys : List (Option Answer)) (each : (k : ℕ) (a : Answer) → slice_get xs k ≡ Some (Some a) → (slice_get ys k ≡ Some (Some a)) ⊎ Else) where
  kept_here : (k : ℕ) (o : Option (Option Answer)) → slice_get xs k ≡ o → ((a : Answer) → slice_get xs k ≡ Some (Some a) → slice_get ys k ≡ Some (Some a)) ⊎ Else
  kept_here k None at = inl (λ a is. let no : ◌≡◌ {A = Option (Option Answer)} None (Some (Some a)) = sym at ∙ is in cc)
  kept_here k (Some None) at = inl (λ a is. let no : ◌≡◌ {A = Option (Option Answer)} (Some None) (Some (Some a)) = sym at ∙ is in cc)
  kept_here k (Some (Some a)) at = elim (each k a at) [
    | inl own ↦ inl (λ b is. own ∙ ap (λ x. Some (Some x)) (one_answer (slice_get xs k) a b at is))
    | inr other ↦ inr other
  ]

  kept_below : (n : ℕ) → ((k : ℕ) (a : Answer) → k < n → slice_get xs k ≡ Some (Some a) → slice_get ys k ≡ Some (Some a)) ⊎ Else
  kept_below zero = inl (λ k a lt is. absurd (omega (arith, lt)))
  kept_below (suc n) = elim (kept_below n) [
    | inl below ↦ elim (kept_here n (slice_get xs n) refl) [
      | inl own ↦ inl (λ k a lt is. elim (cases_lt k n) [
        | inl less ↦ below k a less is
        | inr more ↦ let same : n ≡ k = omega (arith, lt, more) in subst (λ j. slice_get ys j ≡ Some (Some a)) same (own a (subst (λ j. slice_get xs j ≡ Some (Some a)) (sym same) is))
      ])
      | inr other ↦ inr other
    ]
    | inr other ↦ inr other
  ]

  pub kept_or_else : Keeps xs ys ⊎ Else
  kept_or_else = elim (kept_below (length xs)) [
    | inl all ↦ inl (λ k a is. all k a (slice_get_within xs k (Some a) is) is)
    | inr other ↦ inr other
  ]

-- where each answer is kept, or the others decide FAIL
module _ (mode : Mode) (xs ys : List (Option Answer)) (each : (k : ℕ) (a : Answer) → slice_get xs k ≡ Some (Some a) → (slice_get ys k ≡ Some (Some a)) ⊎ Decides mode ys FailVerdict) where
  pub kept_or_failed : Keeps xs ys ⊎ Decides mode ys FailVerdict
  kept_or_failed = kept_or_else (Decides mode ys FailVerdict) xs ys each

  verdict_or_failed : (v : Verdict) → length xs ≡ length ys → ((k : ℕ) (a b : Answer) → slice_get xs k ≡ Some (Some a) → slice_get ys k ≡ Some (Some b) → a ≡ b)
      → Apart mode xs ys → Decides mode xs v → Decides mode ys FailVerdict → Decides mode ys v
  verdict_or_failed PassVerdict same agree apart h fails = absurd (pass_apart mode xs ys same agree apart h fails)
  verdict_or_failed FailVerdict same agree apart h fails = fails

  -- the verdict of those is that of these
  pub verdict_kept : (v : Verdict) → length xs ≡ length ys → ((k : ℕ) (a b : Answer) → slice_get xs k ≡ Some (Some a) → slice_get ys k ≡ Some (Some b) → a ≡ b)
      → Apart mode xs ys → Apart mode ys ys → Decides mode xs v → Decides mode ys v
  verdict_kept v same agree apart own h = elim kept_or_failed [
    | inl keeps ↦ kept_verdict mode xs ys v same keeps own h
    | inr fails ↦ verdict_or_failed v same agree apart h fails
  ]

-- ---- the same answers

head_same : (x y : Option Answer) → ((a : Answer) → x ≡ Some a → y ≡ Some a) → ((a : Answer) → y ≡ Some a → x ≡ Some a) → x ≡ y
head_same None None forth back = refl
head_same None (Some b) forth back = back b refl
head_same (Some a) y forth back = sym (forth a refl)

inside : (x : Option Answer) (a : Answer) → Some x ≡ Some (Some a) → x ≡ Some a
inside x a is = cc

pub same_answers : (xs ys : List (Option Answer)) → length xs ≡ length ys → Keeps xs ys → Keeps ys xs → xs ≡ ys
same_answers [] [] size forth back = refl
same_answers [] (y ∷ ys) size forth back = cc
same_answers (x ∷ xs) [] size forth back = cc
same_answers (x ∷ xs) (y ∷ ys) size forth back =
    ap₂ (λ (z : Option Answer) (zs : List (Option Answer)). z ∷ zs) (head_same x y (λ a is. inside y a (forth 0 a (ap Some is))) (λ a is. inside x a (back 0 a (ap Some is))))
    (same_answers xs ys (omega (arith, size)) (λ k a is. forth (suc k) a is) (λ k a is. back (suc k) a is))

-- ---- the status

-- a verdict has one status
pub one_closed : (v : Verdict) (events others : List Event) (s t : Status) → HasStatus (Some v) events s → HasStatus (Some v) others t → s ≡ t
one_closed v events others Pass Pass h k = refl
one_closed v events others Pass Fail h k = let no : PassVerdict ≡ FailVerdict = sym h ∙ k in cc
one_closed v events others Pass Unknown h k = absurd k
one_closed v events others Pass Error h k = absurd k
one_closed v events others Pass Timeout h k = absurd k
one_closed v events others Pass Memory h k = absurd k
one_closed v events others Fail Pass h k = let no : FailVerdict ≡ PassVerdict = sym h ∙ k in cc
one_closed v events others Fail Fail h k = refl
one_closed v events others Fail Unknown h k = absurd k
one_closed v events others Fail Error h k = absurd k
one_closed v events others Fail Timeout h k = absurd k
one_closed v events others Fail Memory h k = absurd k
one_closed v events others Unknown t h k = absurd h
one_closed v events others Error t h k = absurd h
one_closed v events others Timeout t h k = absurd h
one_closed v events others Memory t h k = absurd h

-- events have one status
pub one_open : (events : List Event) (s t : Status) → HasStatus None events s → HasStatus None events t → s ≡ t
one_open events Pass t h k = absurd h
one_open events Fail t h k = absurd h
one_open events Memory Pass h k = absurd k
one_open events Memory Fail h k = absurd k
one_open events Memory Memory h k = refl
one_open events Memory Timeout h k = absurd (k.0 h)
one_open events Memory Error h k = absurd (k.0 h)
one_open events Memory Unknown h k = absurd (k.0 h)
one_open events Timeout Pass h k = absurd k
one_open events Timeout Fail h k = absurd k
one_open events Timeout Memory h k = absurd (h.0 k)
one_open events Timeout Timeout h k = refl
one_open events Timeout Error h k = absurd (k.1 h.1)
one_open events Timeout Unknown h k = absurd (k.1 h.1)
one_open events Error Pass h k = absurd k
one_open events Error Fail h k = absurd k
one_open events Error Memory h k = absurd (h.0 k)
one_open events Error Timeout h k = absurd (h.1 k.1)
one_open events Error Error h k = refl
one_open events Error Unknown h k = absurd (k.2 h.2)
one_open events Unknown Pass h k = absurd k
one_open events Unknown Fail h k = absurd k
one_open events Unknown Memory h k = absurd (h.0 k)
one_open events Unknown Timeout h k = absurd (h.1 k.1)
one_open events Unknown Error h k = absurd (h.2 k.2)
one_open events Unknown Unknown h k = refl
