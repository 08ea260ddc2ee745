-- Which state bits of a model have literals in the pair of its slice.
use Rattle.std.proofs.Common.{◌≡◌, ℕ, List, Option, Some, None, sym, ap, ◌∙◌, subst}
use Rattle.std.specs.Prelude.{◌↔◌, Contains, slice_get}
use Rattle.std.specs.List.{filter}
use Rattle.model_core.specs.Served.{IsModel}
use Rattle.model_core.specs.Shape.{ModelOf, states}
use Rattle.model_cone.specs.Cone.{IsInCone}
use Rattle.model_cone.specs.Slice.{IsSliceOf}
use Rattle.model_cone.specs.declared.asked.Asked.{Asked}
use Rattle.model_cone.proofs.Slicing.{slice-states}
use Rattle.bit_net.specs.Net.{NetOf}
use Rattle.bit_net.proofs.Lists.{filter_in, in_filter}
use Rattle.frame_net.specs.NetOf.{IsNetOf}
use Rattle.pair_form.specs.Pair.{bit_at}
use Rattle.net_pair.specs.Numbers.{HaveStates}
use Rattle.net_pair.specs.Pairing.{pair_of}
use Rattle.net_pair.proofs.Seeing.{literals}

pub in_cone : (m s : ModelOf) (asked : Asked) (n : NetOf) (places : List ℕ) (bits : List (Option ℕ)) → IsModel s → IsSliceOf m asked s → IsNetOf s n → HaveStates (states s) places bits →
    (i place : ℕ) → slice_get places i ≡ Some place → Contains (states m) place → (bit_at (pair_of n bits) i ≡ None) ↔ (IsInCone m asked place → ⊥)
in_cone m s asked n places bits is slice of have i place at state =
    let kept : states s ≡ filter slice.keep (states m) = ap states slice.is ∙ slice-states slice.keep m in
    let (none, all) = literals s n is of places bits have i place at in (
      λ h inside. none h (subst (λ (ps : List ℕ). Contains ps place) (sym kept) (in_filter slice.keep (states m) place state ((slice.cone place).1 inside))),
      λ outside. all (λ c. outside ((slice.cone place).0 (filter_in slice.keep (states m) place (subst (λ (ps : List ℕ). Contains ps place) kept c)).1)),
    )
