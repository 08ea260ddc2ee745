-- State bits as they are listed, and marks of the bits that are given a value.
use Rattle.std.specs.Prelude.{◌≡◌, ◌↔◌, ℕ, Bool, true, false, List, Some, length, slice_get, Contains}
use Rattle.design_core.specs.Places.{place_of, places}
use Rattle.design_core.specs.Asked.{output_of}
use Rattle.design_core.specs.Shape.{CellOf, ConnectOf, DesignOf, IsDeclared}
use Rattle.design_core.specs.Table.{role_of}
use Rattle.design_core.specs.declared.table.Role.{Role}
use Rattle.design_core.specs.declared.table.Role.TheVariants.{Combinational, Register, AsyncResetRegister, Constant, Initial, Source, Statement, Unsupported}
use Rattle.design_graph.specs.Edges.{IsPlaceIn}
use Rattle.design_meaning.specs.States.{StateBit as StateBitOf, Signal as SignalOf, Kept as KeptOf, given}
use Rattle.design_signals.specs.declared.sig_bit.SigBit.{SigBit}
use Rattle.design_states.specs.declared.state_bits.StateBit.{StateBit}
use Rattle.design_states.specs.declared.state_bits.StateBit.TheVariants.{Signal, Kept}

-- a listed state bit is one of the definition
abbrev pub state_bit : StateBit → StateBitOf
state_bit (Signal b) = SignalOf b
state_bit (Kept i k) = KeptOf i k

-- a cell of the role gives its output a value
abbrev pub is_given : Role → Bool
is_given Combinational = true
is_given Register = true
is_given AsyncResetRegister = true
is_given Constant = true
is_given Initial = true
is_given Source = false
is_given Statement = false
is_given Unsupported = false

-- p is the place of a bit to which a cell, or a connect, gives a value
abbrev pub IsCellGiven : DesignOf → ℕ → Type 0
IsCellGiven d p = (i : ℕ) × (c : CellOf) × (slice_get d.cells i ≡ Some c) × (is_given (role_of c.kind) ≡ true) × IsPlaceIn d (output_of c) p

abbrev pub IsConnectGiven : DesignOf → ℕ → Type 0
IsConnectGiven d p = (k : ℕ) × (j : ConnectOf) × (slice_get d.connects k ≡ Some j) × IsPlaceIn d j.left p

-- at the places of bits those are marked that are given a value
pub record IsGivenMarks (d : DesignOf) (marks : List Bool) : Type 0 where
  pub size : length marks ≡ places d
  pub given_bits : (a : SigBit) → IsDeclared d.wires d.free a → (slice_get marks (place_of d a) ≡ Some true) ↔ Contains (given d) a
