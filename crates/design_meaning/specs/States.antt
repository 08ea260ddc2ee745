-- What a design keeps from cycle to cycle, and what is free in each cycle, in file order.
use Rattle.std.specs.Prelude.{ℕ, Bool, false, not, eqb, ◌&&◌, List, [], ◌++◌, length, map}
use Rattle.std.specs.List.{filter, flat_map, list_any, enumerate_from, range_with_len}
use Rattle.design_core.specs.Asked.{output_of}
use Rattle.design_core.specs.Shape.{WireOf, CellOf, DesignOf}
use Rattle.design_core.specs.Table.{role_of}
use Rattle.design_core.specs.declared.table.Role.{Role}
use Rattle.design_core.specs.declared.table.Role.TheVariants.{Combinational, Register, AsyncResetRegister, Constant, Initial, Source, Statement, Unsupported}
use Rattle.design_signals.specs.declared.sig_bit.SigBit.{SigBit}
use Rattle.design_signals.specs.declared.sig_bit.SigBit.TheVariants.{Wire, Const, Free}
use Rattle.design_meaning.specs.Meaning.{Valuation, bit_in}

-- a state bit: a bit of a signal, or bit k of the row that the cell at place i keeps
pub data StateBit : Type 0 where
  Signal : SigBit → StateBit
  Kept : ℕ → ℕ → StateBit

abbrev pub state_in : Valuation → StateBit → Bool
state_in v (Signal b) = bit_in v b
state_in v (Kept i k) = v.kept i k

-- the state bits of a cell, by its role: its output's, or those of the row that it keeps
abbrev pub state_of_role : Role → List StateBit → List StateBit → List StateBit
state_of_role Combinational output kept = []
state_of_role Register output kept = output
state_of_role AsyncResetRegister output kept = kept
state_of_role Constant output kept = output
state_of_role Initial output kept = output
state_of_role Source output kept = []
state_of_role Statement output kept = []
state_of_role Unsupported output kept = []

abbrev pub state_of : ℕ × CellOf → List StateBit
state_of (i, c) = state_of_role (role_of c.kind) (map (λ b. Signal b) (output_of c)) (map (λ k. Kept i k) (range_with_len 0 (length (output_of c))))

-- all state bits: of registers, of stored rows, of `$anyconst` and of `$initstate`, cell by cell
abbrev pub state_bits : DesignOf → List StateBit
state_bits d = flat_map state_of (enumerate_from 0 d.cells)

-- what a cell gives its output in each cycle: all of it, but for `$anyseq`
abbrev pub given_of_role : Role → List SigBit → List SigBit
given_of_role Combinational output = output
given_of_role Register output = output
given_of_role AsyncResetRegister output = output
given_of_role Constant output = output
given_of_role Initial output = output
given_of_role Source output = []
given_of_role Statement output = []
given_of_role Unsupported output = []

-- the bits that a cell or a connect gives a value
abbrev pub given : DesignOf → List SigBit
given d = flat_map (λ c. given_of_role (role_of c.kind) (output_of c)) d.cells ++ flat_map (λ j. j.left) d.connects

-- the bit is bit b of wire w
abbrev pub is_wire_bit : ℕ → ℕ → SigBit → Bool
is_wire_bit w b (Wire x c) = eqb w x && eqb b c
is_wire_bit w b (Const x) = false
is_wire_bit w b (Free n) = false

-- the bits of a wire that nothing gives a value
abbrev pub open_bits : DesignOf → ℕ × WireOf → List SigBit
open_bits d (w, x) = map (λ b. Wire w b) (filter (λ b. not (list_any (is_wire_bit w b) (given d))) (range_with_len 0 x.width))

-- all input bits: wires' bits that nothing gives a value, the outputs of `$anyseq` among them, and the free bits by their numbers
abbrev pub input_bits : DesignOf → List SigBit
input_bits d = flat_map (open_bits d) (enumerate_from 0 d.wires) ++ map (λ n. Free n) (range_with_len 0 d.free)
