-- Marks as they are set, one loop's turn after the other.
use Rattle.std.proofs.Common.{◌≡◌, ◌⊎◌, inl, inr, ℕ, zero, suc, ◌+◌, ◌<◌, ◌≤◌, ◌∙◌, List, ◌∷◌, Bool, true, false, length, set, replicate, Option, Some, refl, ap, sym, subst, arith, length-set}
use Rattle.std.specs.Prelude.{slice_get}
use Rattle.std.proofs.lemmas.Bool.{cases_lt, cases_eq}
use Rattle.std.proofs.lemmas.Option.{slice_get_within}
use Rattle.digraph.proofs.Lists.{get-set-same, get-set-other, get-at}
use Rattle.design_core.specs.Shape.{WireOf, CellOf, DesignOf}
use Rattle.design_core.specs.Asked.{output_of}
use Rattle.design_core.specs.Table.{role_of}
use Rattle.design_meaning.specs.Meaning.{IsInit, is_register}
use Rattle.design_core.specs.Places.{place_of, offset}
use Rattle.design_graph.specs.Edges.{Marks, IsPlaceIn}
use Rattle.design_core.proofs.Lists.{one_at}
use Rattle.design_signals.specs.declared.sig_bit.SigBit.{SigBit}
use Rattle.design_graph.proofs.EdgeSteps.{IsPlaceIn-front, IsPlaceIn-later, IsPlaceIn-cases}

pub Marks-none : (m : List Bool) (Q : ℕ → Type 0) → ((p : ℕ) → Q p → ⊥) → Marks m Q m
Marks-none m Q none = record { size = refl; kept = λ p h. h; added = λ p q. absurd (none p q); only = λ p h. inl h }

pub Marks-as : (m n : List Bool) (Q T : ℕ → Type 0) → Marks m Q n → ((p : ℕ) → Q p → T p) → ((p : ℕ) → T p → Q p) → Marks m T n
Marks-as m n Q T s to from = record {
  size = s.size;
  kept = s.kept;
  added = λ p t. s.added p (from p t);
  only = λ p h. elim (s.only p h) as (λ _. (slice_get m p ≡ Some true) ⊎ T p) [ inl old ↦ inl old | inr q ↦ inr (to p q) ];
}

pub Marks-more : (m n o : List Bool) (Q R T : ℕ → Type 0) → Marks m Q n → Marks n R o → ((p : ℕ) → Q p → T p) → ((p : ℕ) → R p → T p) → ((p : ℕ) → T p → Q p ⊎ R p) → Marks m T o
Marks-more m n o Q R T s r to-q to-r from = record {
  size = r.size ∙ s.size;
  kept = λ p h. r.kept p (s.kept p h);
  added = λ p t. elim (from p t) as (λ _. slice_get o p ≡ Some true) [ inl q ↦ r.kept p (s.added p q) | inr x ↦ r.added p x ];
  only = λ p h. elim (r.only p h) as (λ _. (slice_get m p ≡ Some true) ⊎ T p) [
    | inr x ↦ inr (to-r p x)
    | inl old ↦ elim (s.only p old) as (λ _. (slice_get m p ≡ Some true) ⊎ T p) [ inl older ↦ inl older | inr q ↦ inr (to-q p q) ]
  ];
}

pub Marks-set : (m : List Bool) (q : ℕ) → q < length m → Marks m (λ p. p ≡ q) (set m q true)
Marks-set m q lt = record {
  size = length-set m q true;
  kept = λ p h. elim (cases_eq p q) as (λ _. slice_get (set m q true) p ≡ Some true) [
    | inl same ↦ ap (λ (x : ℕ). slice_get (set m q true) x) same ∙ set-at
    | inr other ↦ get-set-other m q p true other ∙ h
  ];
  added = λ p same. ap (λ (x : ℕ). slice_get (set m q true) x) same ∙ set-at;
  only = λ p h. elim (cases_eq p q) as (λ _. (slice_get m p ≡ Some true) ⊎ (p ≡ q)) [
    | inl same ↦ inr same
    | inr other ↦ inl (sym (get-set-other m q p true other) ∙ h)
  ];
}
  where
    set-at : slice_get (set m q true) q ≡ Some true
    set-at = let there = get-at m q lt in get-set-same m q true there.0 there.1

pub replicate-unmarked : (n p : ℕ) → slice_get (replicate n false) p ≡ Some true → ⊥
replicate-unmarked zero p h = cc
replicate-unmarked (suc n) zero h = cc
replicate-unmarked (suc n) (suc p) h = replicate-unmarked n p h

module _ {X : Type 0} (xs : List X) (Q : ℕ → X → ℕ → Type 0) where
  abbrev pub Before : ℕ → ℕ → Type 0
  Before i p = (k : ℕ) × (x : X) × (k < i) × (slice_get xs k ≡ Some x) × Q k x p

  pub Before-start : (m : List Bool) → Marks m (Before 0) m
  Before-start m = Marks-none m (Before 0) (λ p h. absurd (omega (arith, h.2)))

  pub Before-next : (m n o : List Bool) (i : ℕ) (x : X) → slice_get xs i ≡ Some x → Marks m (Before i) n → Marks n (Q i x) o → Marks m (Before (i + 1)) o
  Before-next m n o i x at first then =
      Marks-more m n o (Before i) (Q i x) (Before (i + 1)) first then
      (λ p u. (u.0, u.1, omega (arith, u.2), u.3, u.4)) (λ p r. (i, x, omega arith, at, r))
      (λ p u. elim (cases_lt u.0 i) as (λ _. Before i p ⊎ Q i x p) [
        | inl before ↦ inl (u.0, u.1, before, u.3, u.4)
        | inr behind ↦
            let e : u.0 ≡ i = omega (arith, u.2) in
            let there : slice_get xs i ≡ Some u.1 = subst (λ (n : ℕ). slice_get xs n ≡ Some u.1) e u.3 in
            let same : u.1 ≡ x = one_at xs i u.1 x there at in
            inr (subst (λ (n : ℕ). Q n x p) e (subst (λ (y : X). Q u.0 y p) same u.4))
      ])

  pub Before-end : (m n : List Bool) (i : ℕ) (T : ℕ → Type 0) → length xs ≤ i → Marks m (Before i) n
      → ((k : ℕ) (x : X) (p : ℕ) → slice_get xs k ≡ Some x → Q k x p → T p)
      → ((p : ℕ) → T p → (k : ℕ) × (x : X) × (slice_get xs k ≡ Some x) × Q k x p) → Marks m T n
  Before-end m n i T most e to from =
      Marks-as m n (Before i) T e (λ p u. to u.0 u.1 p u.3 u.4)
      (λ p t. let r = from p t in (r.0, r.1, omega (arith, slice_get_within xs r.0 r.1 r.2), r.2, r.3))

abbrev pub RegistersBefore : DesignOf → List CellOf → ℕ → ℕ → Type 0
RegistersBefore d cells i p = Before cells (λ k c p. (is_register (role_of c.kind) ≡ true) × IsPlaceIn d (output_of c) p) i p

-- digit number b of an attribute marks the net at `first` + b
abbrev pub DigitAt : ℕ → List ℕ → Bool → ℕ → Option Bool → ℕ → Type 0
DigitAt first leaders digit b x l = (x ≡ Some digit) × (slice_get leaders (first + b) ≡ Some l)

abbrev pub InitBefore : ℕ → List ℕ → List (Option Bool) → Bool → ℕ → ℕ → Type 0
InitBefore first leaders digits digit i l = Before digits (DigitAt first leaders digit) i l

abbrev pub InitAt : ℕ → List ℕ → Bool → ℕ → List (Option Bool) → ℕ → Type 0
InitAt first leaders digit k digits l = (b : ℕ) × (slice_get digits b ≡ Some (Some digit)) × (slice_get leaders (first + b) ≡ Some l)

abbrev pub InitsBefore : ℕ → List ℕ → List (List (Option Bool)) → Bool → ℕ → ℕ → Type 0
InitsBefore first leaders inits digit i l = Before inits (InitAt first leaders digit) i l

abbrev pub WireAt : DesignOf → List ℕ → Bool → ℕ → WireOf → ℕ → Type 0
WireAt d leaders digit w x l = (b : ℕ) × IsInit d w b digit × (slice_get leaders (offset d w + b) ≡ Some l)

abbrev pub WiresBefore : DesignOf → List ℕ → Bool → ℕ → ℕ → Type 0
WiresBefore d leaders digit i l = Before d.wires (WireAt d leaders digit) i l

-- a bit's place, and those of the bits that are left
pub marks-step : (d : DesignOf) (x : SigBit) (xs : List SigBit) (m n o : List Bool) (at : ℕ) → at ≡ place_of d x → Marks m (λ p. p ≡ at) n → Marks n (IsPlaceIn d xs) o
    → Marks m (IsPlaceIn d (x ∷ xs)) o
marks-step d x xs m n o at e first then =
    Marks-more m n o (λ p. p ≡ at) (IsPlaceIn d xs) (IsPlaceIn d (x ∷ xs)) first then (λ p h. IsPlaceIn-front d x xs p (h ∙ e)) (λ p h. IsPlaceIn-later d x xs p h)
    (λ p t. elim (IsPlaceIn-cases d x xs p t) as (λ _. (p ≡ at) ⊎ IsPlaceIn d xs p) [ inl here ↦ inl (here ∙ sym e) | inr later ↦ inr later ])
