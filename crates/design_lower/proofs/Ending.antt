-- Edges to the bits that have a start digit, as they are added.
use Rattle.std.proofs.Common.{◌≡◌, ◌↔◌, ℕ, zero, suc, ◌+◌, Bool, true, false, cond, List, [], ◌∷◌, Option, Some, None, Contains, refl, ap, sym, subst, ◌∙◌, arith}
use Rattle.std.specs.Prelude.{slice_get}
use Rattle.design_core.specs.Places.{offset}
use Rattle.design_core.specs.Shape.{WireOf, DesignOf}
use Rattle.design_graph.proofs.EdgeSteps.{Upto}
use Rattle.design_meaning.specs.Meaning.{IsInit}
use Rattle.design_core.proofs.Lists.{place-from_Contains}
use Rattle.design_signals.specs.declared.sig_bit.SigBit.{SigBit}
use Rattle.design_lower.specs.Progress.{IsDigitEnd, IsDigitsOf}

-- the edge to a digit's bit, where it is this digit
abbrev pub DigitEdge : ℕ → Bool → ℕ → ℕ → Option Bool → ℕ → ℕ → Type 0
DigitEdge first digit root k y p q = (p ≡ root) × ((y ≡ Some digit) × (q ≡ first + k))

abbrev pub InitUpto : ℕ → List (Option Bool) → Bool → ℕ → ℕ → ℕ → ℕ → Type 0
InitUpto first digits digit root i p q = Upto digits (DigitEdge first digit root) i p q

-- the edges to the bits to which one attribute gives the digit
abbrev pub InitEdge : ℕ → Bool → ℕ → ℕ → List (Option Bool) → ℕ → ℕ → Type 0
InitEdge first digit root k digits p q = (p ≡ root) × ((b : ℕ) × (slice_get digits b ≡ Some (Some digit)) × (q ≡ first + b))

abbrev pub InitsUpto : ℕ → List (List (Option Bool)) → Bool → ℕ → ℕ → ℕ → ℕ → Type 0
InitsUpto first inits digit root i p q = Upto inits (InitEdge first digit root) i p q

-- the edges to the bits of a wire
abbrev pub WireEdge : DesignOf → Bool → ℕ → ℕ → WireOf → ℕ → ℕ → Type 0
WireEdge d digit root w x p q = (p ≡ root) × ((b : ℕ) × IsInit d w b digit × (q ≡ offset d w + b))

abbrev pub WiresUpto : DesignOf → Bool → ℕ → ℕ → ℕ → ℕ → Type 0
WiresUpto d digit root i p q = Upto d.wires (WireEdge d digit root) i p q

-- ---- digits beside bits

none-at : (d : DesignOf) (x : Bool) → IsDigitsOf d x [] []
none-at d x = record { size = refl; each = λ k y. (λ h. absurd cc, λ h. let a = h.1 in absurd (nothing k a.0 a.1)) }
  where
    nothing : (k : ℕ) (a : SigBit) → slice_get [] k ≡ Some a → ⊥
    nothing k a e = cc

module _ (d : DesignOf) (x : Bool) (bit : SigBit) (bits : List SigBit) (digits : List (Option Bool)) (here : Bool) (is : (here ≡ true) ↔ IsDigitEnd d x bit) (rest : IsDigitsOf d x bits digits) where
  pub digits-front : IsDigitsOf d x (bit ∷ bits) (cond here (Some x) None ∷ digits)
  digits-front = record { size = ap suc rest.size; each = by }
    where
      first : (b : Bool) → here ≡ b → (y : Bool) → (Some (cond b (Some x) None) ≡ Some (Some y)) ↔ ((y ≡ x) × ((a : SigBit) × (Some bit ≡ Some a) × IsDigitEnd d x a))
      first true e y = (
        λ h. let same : x ≡ y = cc in (sym same, (bit, refl, is.0 e)),
        λ h. ap (λ (z : Bool). Some (Some z)) (sym h.0),
      )
      first false e y = (
        λ h. absurd cc,
        λ h.
            let a = h.1 in
            let same : bit ≡ a.0 = one a.1 in
            let yes : here ≡ true = is.1 (subst (λ (z : SigBit). IsDigitEnd d x z) (sym same) a.2) in
            absurd cc,
      )
        where
          one : {z : SigBit} → Some bit ≡ Some z → bit ≡ z
          one g = cc

      by : (k : ℕ) (y : Bool) → (slice_get (cond here (Some x) None ∷ digits) k ≡ Some (Some y)) ↔ ((y ≡ x) × ((a : SigBit) × (slice_get (bit ∷ bits) k ≡ Some a) × IsDigitEnd d x a))
      by zero y = first here refl y
      by (suc k) y = rest.each k y

pub digits-none : (d : DesignOf) (x : Bool) (bits : List SigBit) → bits ≡ [] → IsDigitsOf d x bits []
digits-none d x bits e = subst (λ (l : List SigBit). IsDigitsOf d x l []) (sym e) (none-at d x)

-- the lists of the digits 0 and 1 give the digits that count
module _ (d : DesignOf) (bits : List SigBit) (zeros ones : List (Option Bool)) (low : IsDigitsOf d false bits zeros) (high : IsDigitsOf d true bits ones) where
  pub both-digits : (k : ℕ) (x : Bool)
      → ((digits : List (Option Bool)) × Contains (zeros ∷ ones ∷ []) digits × (slice_get digits k ≡ Some (Some x))) ↔ ((a : SigBit) × (slice_get bits k ≡ Some a) × IsDigitEnd d x a)
  both-digits k x = (λ h. let p = place-from_Contains (zeros ∷ ones ∷ []) h.0 h.1 in from p.0 h.0 p.1 h.2, to x)
    where
      from : (j : ℕ) (digits : List (Option Bool)) → slice_get (zeros ∷ ones ∷ []) j ≡ Some digits → slice_get digits k ≡ Some (Some x) → (a : SigBit) × (slice_get bits k ≡ Some a) × IsDigitEnd d x a
      from zero digits e h =
          let same : zeros ≡ digits = cc in
          let r = (low.each k x).0 (ap (λ (l : List (Option Bool)). slice_get l k) same ∙ h) in
          subst (λ (y : Bool). (a : SigBit) × (slice_get bits k ≡ Some a) × IsDigitEnd d y a) (sym r.0) r.1
      from (suc zero) digits e h =
          let same : ones ≡ digits = cc in
          let r = (high.each k x).0 (ap (λ (l : List (Option Bool)). slice_get l k) same ∙ h) in
          subst (λ (y : Bool). (a : SigBit) × (slice_get bits k ≡ Some a) × IsDigitEnd d y a) (sym r.0) r.1
      from (suc (suc j)) digits e h = absurd cc

      to : (y : Bool) → (a : SigBit) × (slice_get bits k ≡ Some a) × IsDigitEnd d y a → (digits : List (Option Bool)) × Contains (zeros ∷ ones ∷ []) digits × (slice_get digits k ≡ Some (Some y))
      to false h = (zeros, (0, omega arith, refl), (low.each k false).1 (refl, h))
      to true h = (ones, (1, omega arith, refl), (high.each k true).1 (refl, h))
