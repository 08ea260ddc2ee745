-- Wires by their names.
use Rattle.std.proofs.Common.{◌≡◌, ℕ, suc, ◌<◌, ◌≤◌, ◌^◌, List, [], ◌∷◌, length, refl, ap, arith}
use Rattle.std.specs.List.{sum_by, AllByRecursion}
use Rattle.std.proofs.lemmas.List.Sums.{sum_by-cons}
use Rattle.std.proofs.lemmas.List.Elements.{recursion_from_All}
use Rattle.design_core.specs.Shape.{WireOf, DesignOf, IsDesign}
use Rattle.rtlil_constant.specs.Constants.{Word}
use Rattle.design_reader.specs.Grammar.{wire_names}

-- each wire has a bit
module _ (width : WireOf → ℕ) where
  each_counts : (wires : List WireOf) → AllByRecursion (λ w. 0 < width w) wires → length wires ≤ sum_by width wires
  each_counts [] h = omega arith
  each_counts (w ∷ wires) h = omega (arith, sum_by-cons width w wires, each_counts wires h.1, h.0)

pub few_wires : (d : DesignOf) → IsDesign d → length d.wires ≤ 2 ^ 21
few_wires d h =
    let each = recursion_from_All (λ (w : WireOf). 0 < w.width) d.wires (λ k x lt. (h.wires k x lt).0) in
    omega (arith, each_counts (λ w. w.width) d.wires each, h.bits)

names_long : (wires : List WireOf) → length (wire_names wires) ≡ length wires
names_long [] = refl
names_long (w ∷ wires) = ap suc (names_long wires)

-- a place among the names is one among the wires
pub place_within : (names : List Word) (wires : List WireOf) (place : ℕ) → names ≡ wire_names wires → place < length names → place < length wires
place_within names wires place e h = omega (arith, h, ap (λ (x : List Word). length x) e, names_long wires)
