-- The cells that go bit by bit.
use Rattle.std.specs.Prelude.{Bool, ◌&&◌, ◌||◌}
use Rattle.cell_table.specs.Cells.{either_one, same_bit}
use Rattle.cell_table.specs.declared.kind.Binary.{Binary}
use Rattle.cell_table.specs.declared.kind.Binary.TheVariants.{And, Or, Xor, Xnor, Add, Sub, Mul}

abbrev pub IsBitwise : Binary → Type 0
IsBitwise And = Unit {0}
IsBitwise Or = Unit {0}
IsBitwise Xor = Unit {0}
IsBitwise Xnor = Unit {0}
IsBitwise Add = ⊥
IsBitwise Sub = ⊥
IsBitwise Mul = ⊥

-- what such a cell gives of two bits; of the others nothing is asked
abbrev pub bit_fn : Binary → Bool → Bool → Bool
bit_fn And a b = a && b
bit_fn Or a b = a || b
bit_fn Xor a b = either_one a b
bit_fn Xnor a b = same_bit a b
bit_fn Add a b = a
bit_fn Sub a b = a
bit_fn Mul a b = a
