-- What the ends of one more job say.
use Rattle.race_core.specs.Told.{told_by}
use Rattle.std.proofs.Common.{◌≡◌, ℕ, ◌+◌, ◌*◌, ◌<◌, ◌≤◌, length, length-append, List, [], ◌∷◌, ◌++◌, map, Option, Some, None, sym, ap, ◌∙◌, subst, inl, inr, arith}
use Rattle.std.specs.Prelude.{Contains, slice_get}
use Rattle.std.proofs.lemmas.Bool.{cases_eq}
use Rattle.std.proofs.lemmas.List.{length-map}
use Rattle.std.proofs.Math.Nat.{mul-le-mul_right}
use Rattle.std.proofs.lemmas.List.Elements.{Contains-append_left, Contains-append_right, Contains-append_cases}
use Rattle.race_core.proofs.Lowest.{one-same, one-is}
use Rattle.sby_terms.specs.declared.names.Answer.{Answer}
use Rattle.sby_terms.specs.declared.names.Event.{Event}
use Rattle.race_core.specs.Report.{ReportOf}
use Rattle.race_core.specs.Consistent.{end_at}
use Rattle.race_core.specs.Collect.{AreTold}

none-in : {X : Type 0} (x : X) → Contains [] x → ⊥
none-in x c = absurd (omega (arith, c.1))

in-map : {X Y : Type 0} (f : X → Y) (xs : List X) (x : X) → Contains xs x → Contains (map f xs) (f x)
in-map f [] x c = absurd (none-in x c)
in-map f (z ∷ xs) x c = elim (Contains-append_cases (z ∷ []) xs x c) [
  | inl e ↦ subst (λ y. Contains (map f (z ∷ xs)) (f y)) (one-same z x e) (Contains-append_left (f z ∷ []) (map f xs) (f z) (one-is (f z)))
  | inr t ↦ Contains-append_right (f z ∷ []) (map f xs) (f x) (in-map f xs x t)
]

of-map : {X Y : Type 0} (f : X → Y) (xs : List X) (y : Y) → Contains (map f xs) y → (x : X) × Contains xs x × (f x ≡ y)
of-map f [] y c = absurd (none-in y c)
of-map f (z ∷ xs) y c = elim (Contains-append_cases (f z ∷ []) (map f xs) y c) [
  | inl e ↦ (z, Contains-append_left (z ∷ []) xs z (one-is z), one-same (f z) y e)
  | inr t ↦ let o = of-map f xs y t in (o.0, Contains-append_right (z ∷ []) xs o.0 o.1, o.2)
]

pub told-more : {T : Type 0} (reports : List (ReportOf T)) (answers : List (Option Answer)) (n : ℕ) (es fs : List Event) → AreTold reports answers n es → slice_get answers n ≡ Some None
    → fs ≡ es ++ map (λ r. told_by (end_at r n)) reports → AreTold reports answers (n + 1) fs
told-more {T} reports answers n es fs t at is = subst (λ xs. AreTold reports answers (n + 1) xs) (sym is) (record {
  come = λ e c. elim (Contains-append_cases es (map (λ r. told_by (end_at r n)) reports) e c) [
    | inl old ↦ let x = t.come e old in (x.0, x.1, x.2, omega (arith, x.3), x.4, x.5)
    | inr new ↦ let x = of-map (λ (r : ReportOf T). told_by (end_at r n)) reports e new in (x.0, n, x.1, omega arith, at, x.2)
  ];
  all = λ r k c lt none. elim (cases_eq k n) [
    | inl same ↦ Contains-append_right es (map (λ r. told_by (end_at r n)) reports) (told_by (end_at r k))
        (subst (λ (m : ℕ). Contains (map (λ r. told_by (end_at r n)) reports) (told_by (end_at r m))) (sym same) (in-map (λ (r : ReportOf T). told_by (end_at r n)) reports r c))
    | inr other ↦ Contains-append_left es (map (λ r. told_by (end_at r n)) reports) (told_by (end_at r k)) (t.all r k c (omega arith) none)
  ];
})

pub told-skip : {T : Type 0} (reports : List (ReportOf T)) (answers : List (Option Answer)) (n : ℕ) (es : List Event) → AreTold reports answers n es → (slice_get answers n ≡ Some None → ⊥) → AreTold reports answers (n + 1) es
told-skip reports answers n es t settled = record {
  come = λ e c. let x = t.come e c in (x.0, x.1, x.2, omega (arith, x.3), x.4, x.5);
  all = λ r k c lt none. elim (cases_eq k n) [
    | inl same ↦ absurd (settled (ap (λ (m : ℕ). slice_get answers m) (sym same) ∙ none))
    | inr other ↦ t.all r k c (omega arith) none
  ];
}

-- a job more says at most one event a report
pub few-next : (n l a : ℕ) → a ≤ n * l → a + l ≤ (n + 1) * l
few-next n l a few = let e : (n + 1) * l ≡ n * l + l = grind arith in omega (arith, few, e)

pub few-same : (n l a : ℕ) → a ≤ n * l → a ≤ (n + 1) * l
few-same n l a few = let next = few-next n l a few in omega (arith, next)

-- there is room for the events of a job below the last
pub room-left : (n all l a room : ℕ) → a ≤ n * l → n < all → all * l ≤ room → a + l ≤ room
room-left n all l a room few lt fits =
    let next = few-next n l a few in
    let most : (n + 1) * l ≤ all * l = mul-le-mul_right l (omega (arith, lt)) in
    omega (arith, next, most, fits)

pub added-few : {T : Type 0} (reports : List (ReportOf T)) (n : ℕ) (es fs : List Event) → length es ≤ n * length reports → fs ≡ es ++ map (λ r. told_by (end_at r n)) reports
    → length fs ≤ (n + 1) * length reports
added-few reports n es fs few is =
    let next = few-next n (length reports) (length es) few in
    let size : length fs ≡ length es + length reports = ap length is ∙ length-append es (map (λ r. told_by (end_at r n)) reports) ∙ ap (λ k. length es + k) (length-map reports (λ r. told_by (end_at r n))) in
    omega (arith, next, size)
