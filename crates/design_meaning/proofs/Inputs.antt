-- Each bit of a wire is given a value, or is an input.
use Rattle.std.proofs.Common.{◌≡◌, ◌⊎◌, inl, inr, ℕ, zero, suc, ◌+◌, ◌<◌, Bool, true, false, cond, not, ◌&&◌, ◌||◌, eqb, List, [], ◌∷◌, ◌++◌, map, length, get_or, Some, Contains, refl, ap, sym, subst, ◌∙◌, arith}
use Rattle.std.specs.Prelude.{slice_get}
use Rattle.std.specs.List.{filter, flat_map, list_any, enumerate_from, range_with_len}
use Rattle.std.proofs.lemmas.Bool.{eqb-true, eq-eqb}
use Rattle.std.proofs.lemmas.List.Elements.{Contains-append_left, Contains-append_right, Contains-append_cases}
use Rattle.design_core.specs.Shape.{WireOf, DesignOf}
use Rattle.design_meaning.specs.States.{given, input_bits, is_wire_bit, open_bits}
use Rattle.design_signals.specs.declared.sig_bit.SigBit.{SigBit}
use Rattle.design_signals.specs.declared.sig_bit.SigBit.TheVariants.{Wire, Const, Free}

-- ---- members of lists

here : {X : Type 0} (x : X) (xs : List X) → Contains (x ∷ xs) x
here x xs = (0, omega arith, refl)

there : {X : Type 0} (y : X) (xs : List X) (x : X) → Contains xs x → Contains (y ∷ xs) x
there y xs x h = let lt = h.1 in (suc h.0, omega (arith, lt), h.2)

cases_at : {X : Type 0} (y : X) (xs : List X) (x : X) (k : ℕ) → k < length (y ∷ xs) → get_or (y ∷ xs) k x ≡ x → (y ≡ x) ⊎ Contains xs x
cases_at y xs x zero lt e = inl e
cases_at y xs x (suc k) lt e = inr (k, omega (arith, lt), e)

member : {X : Type 0} (y : X) (xs : List X) (x : X) → Contains (y ∷ xs) x → (y ≡ x) ⊎ Contains xs x
member y xs x h = cases_at y xs x h.0 h.1 h.2

nothing : {X : Type 0} (x : X) → Contains [] x → ⊥
nothing x h = let lt = h.1 in absurd (omega (arith, lt))

in_map : {X Y : Type 0} (f : X → Y) (xs : List X) (x : X) → Contains xs x → Contains (map f xs) (f x)
in_map f [] x h = absurd (nothing x h)
in_map {Y = Y} f (y ∷ xs) x h = elim (member y xs x h) as (λ _. Contains (f y ∷ map f xs) (f x)) [
  | inl e ↦ let P : Y → Type 0 = λ z. Contains (f y ∷ map f xs) z in subst P (ap f e) (here (f y) (map f xs))
  | inr later ↦ there (f y) (map f xs) (f x) (in_map f xs x later)
]

from_map : {X Y : Type 0} (f : X → Y) (xs : List X) (y : Y) → Contains (map f xs) y → (x : X) × Contains xs x × (f x ≡ y)
from_map f [] y h = absurd (nothing y h)
from_map {X = X} f (x ∷ xs) y h = elim (member (f x) (map f xs) y h) as (λ _. (z : X) × Contains (x ∷ xs) z × (f z ≡ y)) [
  | inl e ↦ (x, here x xs, e)
  | inr later ↦ let r = from_map f xs y later in (r.0, there x xs r.0 r.1, r.2)
]

in_flat_map : {X Y : Type 0} (f : X → List Y) (xs : List X) (x : X) (y : Y) → Contains xs x → Contains (f x) y → Contains (flat_map f xs) y
in_flat_map f [] x y h k = absurd (nothing x h)
in_flat_map {X = X} f (z ∷ xs) x y h k = elim (member z xs x h) as (λ _. Contains (f z ++ flat_map f xs) y) [
  | inl e ↦ let P : X → Type 0 = λ a. Contains (f a) y in Contains-append_left (f z) (flat_map f xs) y (subst P (sym e) k)
  | inr later ↦ Contains-append_right (f z) (flat_map f xs) y (in_flat_map f xs x y later k)
]

from_flat_map : {X Y : Type 0} (f : X → List Y) (xs : List X) (y : Y) → Contains (flat_map f xs) y → (x : X) × Contains xs x × Contains (f x) y
from_flat_map f [] y h = absurd (nothing y h)
from_flat_map {X = X} f (x ∷ xs) y h = elim (Contains-append_cases (f x) (flat_map f xs) y h) as (λ _. (z : X) × Contains (x ∷ xs) z × Contains (f z) y) [
  | inl first ↦ (x, here x xs, first)
  | inr later ↦ let r = from_flat_map f xs y later in (r.0, there x xs r.0 r.1, r.2)
]

module _ {X : Type 0} (test : X → Bool) where
  in_filter : (xs : List X) (x : X) → Contains xs x → test x ≡ true → Contains (filter test xs) x
  in_filter [] x h t = absurd (nothing x h)
  in_filter (y ∷ ys) x h t = elim (member y ys x h) as (λ _. Contains (cond (test y) (y ∷ filter test ys) (filter test ys)) x) [
    | inl e ↦
        let passes : test y ≡ true = ap test e ∙ t in
        let P : X → Type 0 = λ z. Contains (y ∷ filter test ys) z in
        let Q : List X → Type 0 = λ l. Contains l x in
        subst Q (sym (ap (λ (b : Bool). cond b (y ∷ filter test ys) (filter test ys)) passes)) (subst P e (here y (filter test ys)))
    | inr later ↦ either (test y) (in_filter ys x later t)
  ]
    where
      either : (b : Bool) → Contains (filter test ys) x → Contains (cond b (y ∷ filter test ys) (filter test ys)) x
      either true k = there y (filter test ys) x k
      either false k = k

  from_filter : (xs : List X) (x : X) → Contains (filter test xs) x → test x ≡ true
  from_filter [] x h = absurd (nothing x h)
  from_filter (y ∷ ys) x h = by (test y) refl h (λ k. from_filter ys x k)
    where
      by : (b : Bool) → test y ≡ b → Contains (cond b (y ∷ filter test ys) (filter test ys)) x → (Contains (filter test ys) x → test x ≡ true) → test x ≡ true
      by true e k rest = elim (member y (filter test ys) x k) as (λ _. test x ≡ true) [
        | inl same ↦ ap test (sym same) ∙ e
        | inr later ↦ rest later
      ]
      by false e k rest = rest k

in_range : (a n i : ℕ) → i < n → Contains (range_with_len a n) (a + i)
in_range a zero i h = absurd (omega arith)
in_range a (suc n) zero h = let P : ℕ → Type 0 = λ k. Contains (range_with_len a (suc n)) k in let at : a ≡ a + 0 = omega arith in subst P at (here a (range_with_len (a + 1) n))
in_range a (suc n) (suc i) h =
    let P : ℕ → Type 0 = λ k. Contains (range_with_len a (suc n)) k in
    let at : a + 1 + i ≡ a + suc i = omega arith in
    subst P at (there a (range_with_len (a + 1) n) (a + 1 + i) (in_range (a + 1) n i (omega arith)))

in_enumerate : {X : Type 0} (n : ℕ) (xs : List X) (i : ℕ) (x : X) → slice_get xs i ≡ Some x → Contains (enumerate_from n xs) (n + i, x)
in_enumerate n [] i x h = absurd cc
in_enumerate {X = X} n (y ∷ xs) zero x h =
    let same : y ≡ x = cc in
    let at : n ≡ n + 0 = omega arith in
    let P : ℕ → Type 0 = λ k. Contains (enumerate_from n (y ∷ xs)) (k, x) in
    let Q : X → Type 0 = λ z. Contains (enumerate_from n (y ∷ xs)) (n, z) in
    subst P at (subst Q same (here (n, y) (enumerate_from (n + 1) xs)))
in_enumerate n (y ∷ xs) (suc i) x h =
    let at : n + 1 + i ≡ n + suc i = omega arith in
    let P : ℕ → Type 0 = λ k. Contains (enumerate_from n (y ∷ xs)) (k, x) in
    subst P at (there (n, y) (enumerate_from (n + 1) xs) (n + 1 + i, x) (in_enumerate (n + 1) xs i x h))

-- ---- bits

both : (a b : Bool) → (a && b) ≡ true → (a ≡ true) × (b ≡ true)
both true true h = (refl, refl)
both true false h = absurd cc
both false b h = absurd cc

one_of : (a b : Bool) → (a || b) ≡ true → (a ≡ true) ⊎ (b ≡ true)
one_of true b h = inl refl
one_of false b h = inr h

same_bit : (w b : ℕ) (y : SigBit) → is_wire_bit w b y ≡ true → y ≡ Wire w b
same_bit w b (Wire x c) h =
    let parts = both (eqb w x) (eqb b c) h in
    ap (λ (k : ℕ). Wire k c) (sym (eqb-true w x parts.0)) ∙ ap (λ (k : ℕ). Wire w k) (sym (eqb-true b c parts.1))
same_bit w b (Const x) h = absurd cc
same_bit w b (Free n) h = absurd cc

is_itself : (w b : ℕ) → is_wire_bit w b (Wire w b) ≡ true
is_itself w b = ap (λ (t : Bool). t && eqb b b) (eq-eqb w w refl) ∙ eq-eqb b b refl

found : (w b : ℕ) (xs : List SigBit) → list_any (is_wire_bit w b) xs ≡ true → Contains xs (Wire w b)
found w b [] h = absurd cc
found w b (y ∷ ys) h = elim (one_of (is_wire_bit w b y) (list_any (is_wire_bit w b) ys) h) as (λ _. Contains (y ∷ ys) (Wire w b)) [
  | inl e ↦ let P : SigBit → Type 0 = λ z. Contains (y ∷ ys) z in subst P (same_bit w b y e) (here y ys)
  | inr later ↦ there y ys (Wire w b) (found w b ys later)
]

finds : (w b : ℕ) (xs : List SigBit) → Contains xs (Wire w b) → list_any (is_wire_bit w b) xs ≡ true
finds w b [] h = absurd (nothing (Wire w b) h)
finds w b (y ∷ ys) h = elim (member y ys (Wire w b) h) as (λ _. (is_wire_bit w b y || list_any (is_wire_bit w b) ys) ≡ true) [
  | inl e ↦ ap (λ (t : Bool). t || list_any (is_wire_bit w b) ys) (ap (is_wire_bit w b) e ∙ is_itself w b)
  | inr later ↦ or_true (is_wire_bit w b y) (finds w b ys later)
]
  where
    or_true : (a : Bool) → list_any (is_wire_bit w b) ys ≡ true → (a || list_any (is_wire_bit w b) ys) ≡ true
    or_true true k = refl
    or_true false k = k

module _ (d : DesignOf) where
  open_here : (w b : ℕ) (x : WireOf) → slice_get d.wires w ≡ Some x → b < x.width → list_any (is_wire_bit w b) (given d) ≡ false → Contains (input_bits d) (Wire w b)
  open_here w b x at lt none =
      let test : ℕ → Bool = λ k. not (list_any (is_wire_bit w k) (given d)) in
      let kept : Contains (filter test (range_with_len 0 x.width)) b =
      in_filter test (range_with_len 0 x.width) b (let P : ℕ → Type 0 = λ k. Contains (range_with_len 0 x.width) k in let e : 0 + b ≡ b = omega arith in subst P e (in_range 0 x.width b lt)) (ap not none) in
      let bit : Contains (open_bits d (w, x)) (Wire w b) = in_map (λ k. Wire w k) (filter test (range_with_len 0 x.width)) b kept in
      let there_is : Contains (enumerate_from 0 d.wires) (w, x) =
      let P : ℕ → Type 0 = λ k. Contains (enumerate_from 0 d.wires) (k, x) in let e : 0 + w ≡ w = omega arith in subst P e (in_enumerate 0 d.wires w x at) in
      Contains-append_left (flat_map (open_bits d) (enumerate_from 0 d.wires)) (map (λ n. Free n) (range_with_len 0 d.free)) (Wire w b)
      (in_flat_map (open_bits d) (enumerate_from 0 d.wires) (w, x) (Wire w b) there_is bit)

  pub given_or_input : (w b : ℕ) (x : WireOf) → slice_get d.wires w ≡ Some x → b < x.width → Contains (given d) (Wire w b) ⊎ Contains (input_bits d) (Wire w b)
  given_or_input w b x at lt = by (list_any (is_wire_bit w b) (given d)) refl
    where
      by : (t : Bool) → list_any (is_wire_bit w b) (given d) ≡ t → Contains (given d) (Wire w b) ⊎ Contains (input_bits d) (Wire w b)
      by true e = inl (found w b (given d) e)
      by false e = inr (open_here w b x at lt e)

  free_is_none : (w b n : ℕ) → ◌≡◌ {A = SigBit} (Free n) (Wire w b) → ⊥
  free_is_none w b n e = cc

  not_open : (w b i k : ℕ) → Contains (given d) (Wire w b) → ◌≡◌ {A = SigBit} (Wire i k) (Wire w b) → not (list_any (is_wire_bit i k) (given d)) ≡ true → ⊥
  not_open w b i k g e t =
      let there_is : Contains (given d) (Wire i k) = let P : SigBit → Type 0 = λ z. Contains (given d) z in subst P (sym e) g in
      let no : ◌≡◌ {A = Bool} false true = ap not (sym (finds i k (given d) there_is)) ∙ t in
      cc

  in_wire : (w b : ℕ) → Contains (given d) (Wire w b) → (e : ℕ × WireOf) → Contains (open_bits d e) (Wire w b) → ⊥
  in_wire w b g (i, x) h =
      let test : ℕ → Bool = λ k. not (list_any (is_wire_bit i k) (given d)) in
      let r = from_map (λ k. Wire i k) (filter test (range_with_len 0 x.width)) (Wire w b) h in
      not_open w b i r.0 g r.2 (from_filter test (range_with_len 0 x.width) r.0 r.1)

  pub not_both : (w b : ℕ) → Contains (given d) (Wire w b) → Contains (input_bits d) (Wire w b) → ⊥
  not_both w b g h =
      elim (Contains-append_cases (flat_map (open_bits d) (enumerate_from 0 d.wires)) (map (λ n. Free n) (range_with_len 0 d.free)) (Wire w b) h) as (λ _. ⊥) [
        | inl wires ↦ let r = from_flat_map (open_bits d) (enumerate_from 0 d.wires) (Wire w b) wires in in_wire w b g r.0 r.2
        | inr frees ↦ let r = from_map (λ n. Free n) (range_with_len 0 d.free) (Wire w b) frees in free_is_none w b r.0 r.2
      ]
