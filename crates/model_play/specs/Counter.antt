-- A counter of two bits with an enable and a reset, for the tests.
use Rattle.std.specs.Prelude.{true, false, Some, [], ◌∷◌}
use Rattle.cell_table.specs.declared.kind.Binary.TheVariants.{Add}
use Rattle.cell_table.specs.declared.kind.Reduce.TheVariants.{And}
use Rattle.model_core.specs.Shape.{ModelOf}
use Rattle.model_core.specs.declared.op.Op.TheVariants as op

-- the places: 0, 1, the count's two bits, the enable, the reset, the count and one, and whether the count is 3
abbrev pub counter : ModelOf
counter = record {
  size = 9;
  zero = 0;
  nodes = record { op = op.Binary Add false; a = 2 ∷ 3 ∷ []; b = 1 ∷ []; s = []; y = 6 ∷ 7 ∷ [] }
      ∷ record { op = op.Reduce And; a = 2 ∷ 3 ∷ []; b = []; s = []; y = 8 ∷ [] } ∷ [];
  registers = record {
    q = 2 ∷ 3 ∷ [];
    d = 6 ∷ 7 ∷ [];
    value = 0 ∷ 0 ∷ [];
    enable = record { place = 4; level = true };
    reset = record { place = 5; level = true };
    reset_first = true;
  } ∷ [];
  starts = Some false ∷ Some false ∷ [];
  inputs = 4 ∷ 5 ∷ [];
  asserts = record { a = 0; en = 8 } ∷ [];
  assumes = [];
  covers = record { a = 8; en = 1 } ∷ [];
}
