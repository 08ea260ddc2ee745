-- Edges as they are added, one loop's turn after the other.
use Rattle.std.proofs.Common.{◌≡◌, ◌⊎◌, inl, inr, ℕ, zero, suc, ◌+◌, ◌<◌, ◌≤◌, List, [], ◌∷◌, ◌++◌, ◌↔◌, take, length, get_or, Some, All, Bool, true, false, cond, refl, ap, subst, sym, ◌∙◌, arith}
use Rattle.std.specs.Prelude.{slice_get}
use Rattle.std.proofs.lemmas.Bool.{cases_lt}
use Rattle.std.proofs.lemmas.Option.{slice_get_within}
use Rattle.std.proofs.lemmas.List.Elements.{All-head, All-tail}
use Rattle.std.proofs.Math.Seq.{take-append_seam}
use Rattle.digraph.specs.Graph.{Graph, HasEdge, Extends}
use Rattle.digraph.proofs.Growing.{Extends-more, Extends-as, Extends-same}
use Rattle.design_core.specs.Places.{place_of, places}
use Rattle.design_core.specs.Ports.{signal_at}
use Rattle.design_core.specs.Shape.{CellOf, ConnectOf, DesignOf}
use Rattle.design_core.specs.Table.{ports_read}
use Rattle.design_core.specs.declared.digit.Digit.{Digit}
use Rattle.design_core.specs.declared.digit.Digit.TheVariants.{Free as FreeDigit}
use Rattle.design_core.proofs.Lists.{one_at}
use Rattle.design_graph.specs.Edges.{IsPair, IsPlaceIn, IsDown, IsUp, IsCellEdge, IsCellsEdge, IsNetGraph, IsRestGraph}
use Rattle.design_signals.specs.declared.sig_bit.SigBit.{SigBit}
use Rattle.design_signals.specs.declared.sig_bit.SigBit.TheVariants.{Free}

-- what holds of an element before i, or of the one there, is what holds of one before the next
module _ {X : Type 0} (xs : List X) (Q : ℕ → X → ℕ → ℕ → Type 0) where
  abbrev pub Upto : ℕ → ℕ → ℕ → Type 0
  Upto i p q = (k : ℕ) × (x : X) × (k < i) × (slice_get xs k ≡ Some x) × Q k x p q

  pub Upto-start : (g : Graph) → Extends g (Upto 0) g
  Upto-start g = Extends-same g (Upto 0) (λ a b h. absurd (omega (arith, h.2)))

  pub Upto-next : (g h k : Graph) (i : ℕ) (x : X) → slice_get xs i ≡ Some x → Extends g (Upto i) h → Extends h (Q i x) k → Extends g (Upto (i + 1)) k
  Upto-next g h k i x at first then =
      Extends-more g h k (Upto i) (Q i x) (Upto (i + 1)) first then
      (λ p q u. (u.0, u.1, omega (arith, u.2), u.3, u.4)) (λ p q r. (i, x, omega arith, at, r))
      (λ p q u. elim (cases_lt u.0 i) as (λ _. Upto i p q ⊎ Q i x p q) [
        | inl before ↦ inl (u.0, u.1, before, u.3, u.4)
        | inr behind ↦
            let e : u.0 ≡ i = omega (arith, u.2) in
            let there : slice_get xs i ≡ Some u.1 = subst (λ (n : ℕ). slice_get xs n ≡ Some u.1) e u.3 in
            let same : u.1 ≡ x = one_at xs i u.1 x there at in
            inr (subst (λ (n : ℕ). Q n x p q) e (subst (λ (y : X). Q u.0 y p q) same u.4))
      ])

  pub Upto-end : (g h : Graph) (i : ℕ) (T : ℕ → ℕ → Type 0) → length xs ≤ i → Extends g (Upto i) h
      → ((k : ℕ) (x : X) (p q : ℕ) → slice_get xs k ≡ Some x → Q k x p q → T p q)
      → ((p q : ℕ) → T p q → (k : ℕ) × (x : X) × (slice_get xs k ≡ Some x) × Q k x p q) → Extends g T h
  Upto-end g h i T most e to from =
      Extends-as g h (Upto i) T e (λ p q u. to u.0 u.1 p q u.3 u.4)
      (λ p q t. let r = from p q t in (r.0, r.1, omega (arith, slice_get_within xs r.0 r.1 r.2), r.2, r.3))

-- the edges of a connect, down from what it drives or up to it
abbrev pub IsSidePair : DesignOf → Bool → ConnectOf → ℕ → ℕ → Type 0
IsSidePair d up j p q = IsPair d (cond up j.right j.left) (cond up j.left j.right) p q

abbrev pub SidesUpto : DesignOf → Bool → List ConnectOf → ℕ → ℕ → ℕ → Type 0
SidesUpto d up connects i p q = Upto connects (λ k j p q. IsSidePair d up j p q) i p q

pub Sides-end : (d : DesignOf) (up : Bool) (connects : List ConnectOf) (g h : Graph) (i : ℕ) → length connects ≤ i → Extends g (SidesUpto d up connects i) h
    → Extends g (cond up (IsUp d connects) (IsDown d connects)) h
Sides-end d true connects g h i most e = Upto-end connects (λ k j p q. IsSidePair d true j p q) g h i (IsUp d connects) most e (λ k j p q at s. (k, j, at, s)) (λ p q t. t)
Sides-end d false connects g h i most e = Upto-end connects (λ k j p q. IsSidePair d false j p q) g h i (IsDown d connects) most e (λ k j p q at s. (k, j, at, s)) (λ p q t. t)

-- the ports before place i
abbrev pub PortsUpto : DesignOf → CellOf → ℕ → ℕ → ℕ → ℕ → Type 0
PortsUpto d c node i p q = Upto (ports_read c.kind) (λ k name p q. (p ≡ node) × IsPlaceIn d (signal_at c.ports name) q) i p q

-- a digit's place, where it is free
abbrev pub IsFreePlace : DesignOf → Digit → ℕ → Type 0
IsFreePlace d x q = (n : ℕ) × (x ≡ FreeDigit n) × (q ≡ place_of d (Free n))

abbrev pub DigitsUpto : DesignOf → List Digit → ℕ → ℕ → ℕ → ℕ → Type 0
DigitsUpto d digits node i p q = Upto digits (λ k x p q. (p ≡ node) × IsFreePlace d x q) i p q

abbrev pub CellsUpto : DesignOf → List CellOf → ℕ → ℕ → ℕ → Type 0
CellsUpto d cells i p q = Upto cells (λ k c p q. IsCellEdge d c (places d + k) p q) i p q

pub written-back : {X : Type 0} (n : ℕ) (xs ys : List X) → n ≡ length xs → take n (xs ++ ys) ≡ xs
written-back n xs ys e = ap (λ (k : ℕ). take k (xs ++ ys)) e ∙ take-append_seam xs ys

module _ (d : DesignOf) (g h k : Graph) (none : (a b : ℕ) → HasEdge g a b → ⊥) (down : Extends g (IsDown d d.connects) h) where
  edges-built : (S : ℕ → ℕ → Type 0) → Extends h S k → (p q : ℕ) → HasEdge k p q ↔ (IsDown d d.connects p q ⊎ S p q)
  edges-built S then p q = (
    λ e. elim (then.only p q e) as (λ _. IsDown d d.connects p q ⊎ S p q) [
      | inr s ↦ inr s
      | inl old ↦ elim (down.only p q old) as (λ _. IsDown d d.connects p q ⊎ S p q) [ inl older ↦ absurd (none p q older) | inr r ↦ inl r ]
    ],
    λ u. elim u as (λ _. HasEdge k p q) [ inl r ↦ then.kept p q (down.added p q r) | inr s ↦ then.added p q s ],
  )

  pub IsNetGraph-built : length g ≡ places d → Extends h (IsUp d d.connects) k → IsNetGraph d k
  IsNetGraph-built size up = record { size = up.size ∙ (down.size ∙ size); edges = edges-built (IsUp d d.connects) up }

  pub IsRestGraph-built : length g ≡ places d + length d.cells → Extends h (IsCellsEdge d d.cells) k → IsRestGraph d k
  IsRestGraph-built size cells = record { size = cells.size ∙ (down.size ∙ size); edges = edges-built (IsCellsEdge d d.cells) cells }

-- ---- bits that are left

pub IsPlaceIn-front : (d : DesignOf) (x : SigBit) (xs : List SigBit) (p : ℕ) → p ≡ place_of d x → IsPlaceIn d (x ∷ xs) p
IsPlaceIn-front d x xs p e = (x, (0, omega arith, refl), e)

pub IsPlaceIn-later : (d : DesignOf) (x : SigBit) (xs : List SigBit) (p : ℕ) → IsPlaceIn d xs p → IsPlaceIn d (x ∷ xs) p
IsPlaceIn-later d x xs p h = let has = h.1 in (h.0, (suc has.0, omega (arith, has.1), has.2), h.2)

pub IsPlaceIn-cases : (d : DesignOf) (x : SigBit) (xs : List SigBit) (p : ℕ) → IsPlaceIn d (x ∷ xs) p → (p ≡ place_of d x) ⊎ IsPlaceIn d xs p
IsPlaceIn-cases d x xs p h = by h.1.0 h.1.1 h.1.2
  where
    by : (k : ℕ) → k < length (x ∷ xs) → get_or (x ∷ xs) k h.0 ≡ h.0 → (p ≡ place_of d x) ⊎ IsPlaceIn d xs p
    by zero lt e = inl (h.2 ∙ ap (λ (a : SigBit). place_of d a) (sym e))
    by (suc k) lt e = inr (h.0, (k, omega (arith, lt), e), h.2)

pub IsPlaceIn-none : (d : DesignOf) (p : ℕ) → IsPlaceIn d [] p → ⊥
IsPlaceIn-none d p h = let lt = h.1.1 in absurd (omega (arith, lt))

module _ (d : DesignOf) (a b : SigBit) (xs ys : List SigBit) where
  pub IsPair-front : (p q : ℕ) → p ≡ place_of d a → q ≡ place_of d b → IsPair d (a ∷ xs) (b ∷ ys) p q
  IsPair-front p q e f = (0, a, b, refl, refl, e, f)

  pub IsPair-later : (p q : ℕ) → IsPair d xs ys p q → IsPair d (a ∷ xs) (b ∷ ys) p q
  IsPair-later p q h = (suc h.0, h.1, h.2, h.3, h.4, h.5, h.6)

  pub IsPair-cases : (p q : ℕ) → IsPair d (a ∷ xs) (b ∷ ys) p q → ((p ≡ place_of d a) × (q ≡ place_of d b)) ⊎ IsPair d xs ys p q
  IsPair-cases p q h = by h.0 h.3 h.4
    where
      by : (k : ℕ) → slice_get (a ∷ xs) k ≡ Some h.1 → slice_get (b ∷ ys) k ≡ Some h.2 → ((p ≡ place_of d a) × (q ≡ place_of d b)) ⊎ IsPair d xs ys p q
      by zero e f =
          let same : a ≡ h.1 = cc in
          let other : b ≡ h.2 = cc in
          inl (h.5 ∙ ap (λ (x : SigBit). place_of d x) (sym same), h.6 ∙ ap (λ (x : SigBit). place_of d x) (sym other))
      by (suc k) e f = inr (k, h.1, h.2, e, f, h.5, h.6)

pub IsPair-none : (d : DesignOf) (xs : List SigBit) (p q : ℕ) → IsPair d [] xs p q → ⊥
IsPair-none d xs p q h = let e = h.3 in cc

pub IsPair-ended : (d : DesignOf) (xs : List SigBit) (p q : ℕ) → IsPair d xs [] p q → ⊥
IsPair-ended d xs p q h = let e = h.4 in cc

-- an edge from or to a bit, and those of the bits that are left
module _ (d : DesignOf) (x : SigBit) (xs : List SigBit) (g h k : Graph) where
  pub to-step : (node at : ℕ) → at ≡ place_of d x → Extends g (λ p q. (p ≡ at) × (q ≡ node)) h → Extends h (λ p q. IsPlaceIn d xs p × (q ≡ node)) k
      → Extends g (λ p q. IsPlaceIn d (x ∷ xs) p × (q ≡ node)) k
  to-step node at e first then =
      Extends-more g h k (λ p q. (p ≡ at) × (q ≡ node)) (λ p q. IsPlaceIn d xs p × (q ≡ node)) (λ p q. IsPlaceIn d (x ∷ xs) p × (q ≡ node)) first then
      (λ p q r. (IsPlaceIn-front d x xs p (r.0 ∙ e), r.1)) (λ p q s. (IsPlaceIn-later d x xs p s.0, s.1))
      (λ p q t. elim (IsPlaceIn-cases d x xs p t.0) as (λ _. ((p ≡ at) × (q ≡ node)) ⊎ (IsPlaceIn d xs p × (q ≡ node))) [
        | inl here ↦ inl (here ∙ sym e, t.1)
        | inr later ↦ inr (later, t.1)
      ])

  pub from-step : (node at : ℕ) → at ≡ place_of d x → Extends g (λ p q. (p ≡ node) × (q ≡ at)) h → Extends h (λ p q. (p ≡ node) × IsPlaceIn d xs q) k
      → Extends g (λ p q. (p ≡ node) × IsPlaceIn d (x ∷ xs) q) k
  from-step node at e first then =
      Extends-more g h k (λ p q. (p ≡ node) × (q ≡ at)) (λ p q. (p ≡ node) × IsPlaceIn d xs q) (λ p q. (p ≡ node) × IsPlaceIn d (x ∷ xs) q) first then
      (λ p q r. (r.0, IsPlaceIn-front d x xs q (r.1 ∙ e))) (λ p q s. (s.0, IsPlaceIn-later d x xs q s.1))
      (λ p q t. elim (IsPlaceIn-cases d x xs q t.1) as (λ _. ((p ≡ node) × (q ≡ at)) ⊎ ((p ≡ node) × IsPlaceIn d xs q)) [
        | inl here ↦ inl (t.0, here ∙ sym e)
        | inr later ↦ inr (t.0, later)
      ])

  pub pair-step : (y : SigBit) (ys : List SigBit) (at to : ℕ) → at ≡ place_of d x → to ≡ place_of d y → Extends g (λ p q. (p ≡ at) × (q ≡ to)) h → Extends h (IsPair d xs ys) k
      → Extends g (IsPair d (x ∷ xs) (y ∷ ys)) k
  pair-step y ys at to e f first then =
      Extends-more g h k (λ p q. (p ≡ at) × (q ≡ to)) (IsPair d xs ys) (IsPair d (x ∷ xs) (y ∷ ys)) first then
      (λ p q r. IsPair-front d x y xs ys p q (r.0 ∙ e) (r.1 ∙ f)) (λ p q s. IsPair-later d x y xs ys p q s)
      (λ p q t. elim (IsPair-cases d x y xs ys p q t) as (λ _. ((p ≡ at) × (q ≡ to)) ⊎ IsPair d xs ys p q) [
        | inl here ↦ inl (here.0 ∙ sym e, here.1 ∙ sym f)
        | inr later ↦ inr later
      ])

pub digit-step : (d : DesignOf) (g h : Graph) (node at : ℕ) (x : Digit) (n : ℕ) → x ≡ FreeDigit n → at ≡ place_of d (Free n) → Extends g (λ p q. (p ≡ node) × (q ≡ at)) h
    → Extends g (λ p q. (p ≡ node) × IsFreePlace d x q) h
digit-step d g h node at x n is e first =
    Extends-as g h (λ p q. (p ≡ node) × (q ≡ at)) (λ p q. (p ≡ node) × IsFreePlace d x q) first
    (λ p q r. (r.0, (n, is, r.1 ∙ e)))
    (λ p q t. (t.0, t.1.2 ∙ (ap (λ (m : ℕ). place_of d (Free m)) (same t.1.0 (sym t.1.1 ∙ is)) ∙ sym e)))
  where
    same : (m : ℕ) → FreeDigit m ≡ FreeDigit n → m ≡ n
    same m f = cc

-- of bits that are left, the first and the others
pub left-head : (P : SigBit → Type 0) (left : List SigBit) (x : SigBit) (xs : List SigBit) → left ≡ x ∷ xs → All P left → P x
left-head P left x xs e h = All-head P x xs (subst (λ (l : List SigBit). All P l) e h)

pub left-tail : (P : SigBit → Type 0) (left : List SigBit) (x : SigBit) (xs : List SigBit) → left ≡ x ∷ xs → All P left → All P xs
left-tail P left x xs e h = All-tail P x xs (subst (λ (l : List SigBit). All P l) e h)
