-- The places of a bit of a connect where they are kept.
use Rattle.std.proofs.Common.{◌≡◌, ◌⊎◌, inl, inr, ℕ, ◌+◌, ◌<◌, List, [], ◌∷◌, length, get_or, Option, Some, refl, ap, sym, subst, ◌∙◌, arith}
use Rattle.std.specs.Prelude.{slice_get}
use Rattle.std.proofs.lemmas.Option.{get_or_from_slice_get, slice_get_within}
use Rattle.design_check.specs.Faults.{IsFlat, Whole}
use Rattle.design_check.specs.declared.fault.FaultKind.TheVariants.{PortWidth}
use Rattle.design_check.proofs.Statements.{cases_same}
use Rattle.design_core.specs.Places.{place_of}
use Rattle.design_core.specs.Shape.{ConnectOf, DesignOf}
use Rattle.design_graph.specs.Order.{IsDriver}
use Rattle.design_graph.specs.declared.driver.Driver.TheVariants.{Connect}
use Rattle.design_graph.specs.declared.item.Item.TheVariants.{Connect as ConnectItem}
use Rattle.design_signals.specs.declared.sig_bit.SigBit.{SigBit}
use Rattle.model_core.proofs.Lists.{at_place}
use Rattle.model_core.specs.declared.op.Op.TheVariants as op
use Rattle.word_model.specs.Built.{ArePairs}
use Rattle.word_model.specs.Nodes.{IsNodeOf}
use Rattle.word_model.proofs.Listing.{pair-at, sides-at}
use Rattle.word_model.proofs.Making.{node}

even : (d : DesignOf) → IsFlat d → (i : ℕ) (j : ConnectOf) → slice_get d.connects i ≡ Some j → length j.left ≡ length j.right
even d flat i j at = by (cases_same (length j.left) (length j.right))
  where
    by : (length j.left ≡ length j.right) ⊎ (length j.left ≡ length j.right → ⊥) → length j.left ≡ length j.right
    by (inl same) = same
    by (inr other) = absurd (flat PortWidth (Whole (ConnectItem i)) (inr (i, j, refl, at, other)))

module _ (d : DesignOf) (flat : IsFlat d) (first : List ℕ) (pairs : List (ℕ × ℕ)) (are : ArePairs d first pairs) (i k : ℕ) (is : IsDriver d (Connect i k)) where
  pub bits : (a : SigBit) × (b : SigBit) × (slice_get is.0.left k ≡ Some a) × (slice_get is.0.right k ≡ Some b)
  bits =
      let e = even d flat i is.0 is.1 in
      let lt = is.2 in
      let a = at_place is.0.left k lt in
      let b = at_place is.0.right k (omega (arith, lt, e)) in
      (a.0, b.0, a.1, b.1)

  pub pair-there : slice_get pairs (get_or first i 0 + k) ≡ Some (place_of d bits.0, place_of d bits.1)
  pair-there =
      let within : i < length d.connects = slice_get_within d.connects i is.0 is.1 in
      subst (λ (l : List (ℕ × ℕ)). slice_get l (get_or first i 0 + k) ≡ Some (place_of d bits.0, place_of d bits.1)) (sym are.all)
      (sides-at d d.connects i k is.0 (place_of d bits.0, place_of d bits.1) is.1 (pair-at d is.0.left is.0.right k bits.0 bits.1 bits.2 bits.3) (get_or first i 0 + k)
      (ap (λ (n : ℕ). n + k) (are.each i within)))

  pub pair-within : get_or first i 0 + k < length pairs
  pair-within = slice_get_within pairs (get_or first i 0 + k) (place_of d bits.0, place_of d bits.1) pair-there

  pub pair-node : (p : ℕ × ℕ) → p ≡ get_or pairs (get_or first i 0 + k) p → IsNodeOf d (Connect i k) (node op.Copy (p.1 ∷ []) [] [] (p.0 ∷ []))
  pair-node p e =
      let same : p ≡ (place_of d bits.0, place_of d bits.1) = e ∙ get_or_from_slice_get pairs (get_or first i 0 + k) (place_of d bits.0, place_of d bits.1) p pair-there in
      (is.0, bits.0, bits.1, is.1, bits.2, bits.3, ap (λ (q : ℕ × ℕ). node op.Copy (q.1 ∷ []) [] [] (q.0 ∷ [])) same)

  pub pair-read : IsNodeOf d (Connect i k) (node op.Copy ((get_or pairs (get_or first i 0 + k) (0, 0)).1 ∷ []) [] [] ((get_or pairs (get_or first i 0 + k) (0, 0)).0 ∷ []))
  pair-read =
      pair-node (get_or pairs (get_or first i 0 + k) (0, 0))
      (get_or_from_slice_get pairs (get_or first i 0 + k) (place_of d bits.0, place_of d bits.1) (0, 0) pair-there
      ∙ sym (get_or_from_slice_get pairs (get_or first i 0 + k) (place_of d bits.0, place_of d bits.1) (get_or pairs (get_or first i 0 + k) (0, 0)) pair-there))
