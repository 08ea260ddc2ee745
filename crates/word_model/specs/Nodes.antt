-- The node of each driver within a cycle.
use Rattle.std.specs.Prelude.{◌≡◌, ℕ, cond, List, [], ◌∷◌, length, Some, slice_get}
use Rattle.design_check.specs.Faults.{flag}
use Rattle.design_core.specs.Asked.{number_at, output_of}
use Rattle.design_core.specs.Ports.{signal_at}
use Rattle.design_core.specs.Shape.{CellOf, ConnectOf, DesignOf}
use Rattle.design_core.specs.Table.{role_of}
use Rattle.design_core.specs.Places.{place_of}
use Rattle.design_core.specs.declared.names.ParameterName.TheVariants.{ASigned, BSigned, Offset, ArstPolarity, ArstValue}
use Rattle.design_core.specs.declared.names.PortName.TheVariants.{A, B, S, Arst}
use Rattle.design_core.specs.declared.table.Role.{Role}
use Rattle.design_core.specs.declared.table.Role.TheVariants.{Combinational, Register, AsyncResetRegister, Constant, Initial, Source, Statement, Unsupported}
use Rattle.design_graph.specs.declared.driver.Driver.{Driver}
use Rattle.design_graph.specs.declared.driver.Driver.TheVariants.{Cell, Connect}
use Rattle.design_meaning.specs.Meaning.{IsCell}
use Rattle.design_signals.specs.declared.sig_bit.SigBit.{SigBit}
use Rattle.model_core.specs.Shape.{NodeOf}
use Rattle.model_core.specs.declared.op.Op.{Op}
use Rattle.model_core.specs.declared.op.Op.TheVariants as op
use Rattle.word_model.specs.Kinds.{op_of_kind}
use Rattle.word_model.specs.Layout.{signal_places, parameter_places, kept_places}

abbrev pub op_of : CellOf → Op
op_of c = op_of_kind c.kind (flag c ASigned) (flag c BSigned) (number_at c.parameters Offset)

-- a combinational cell: what its type does with the rows at its ports
abbrev pub cell_node : DesignOf → CellOf → NodeOf
cell_node d c = record {
  op = op_of c;
  a = signal_places d (signal_at c.ports A);
  b = signal_places d (signal_at c.ports B);
  s = signal_places d (signal_at c.ports S);
  y = signal_places d (output_of c);
}

-- a register with an asynchronous reset: its stored row or its reset value, by ARST and its polarity
abbrev pub reset_node : DesignOf → ℕ → CellOf → NodeOf
reset_node d i c = record {
  op = op.Mux;
  a = cond (flag c ArstPolarity) (kept_places d i (length (output_of c))) (parameter_places d c ArstValue);
  b = cond (flag c ArstPolarity) (parameter_places d c ArstValue) (kept_places d i (length (output_of c)));
  s = signal_places d (signal_at c.ports Arst);
  y = signal_places d (output_of c);
}

-- one bit of a connect
abbrev pub copy_node : DesignOf → SigBit → SigBit → NodeOf
copy_node d left right = record { op = op.Copy; a = place_of d right ∷ []; b = []; s = []; y = place_of d left ∷ [] }

abbrev pub IsNodeOfRole : Role → DesignOf → ℕ → CellOf → NodeOf → Type 0
IsNodeOfRole Combinational d i c n = n ≡ cell_node d c
IsNodeOfRole Register d i c n = ⊥
IsNodeOfRole AsyncResetRegister d i c n = n ≡ reset_node d i c
IsNodeOfRole Constant d i c n = ⊥
IsNodeOfRole Initial d i c n = ⊥
IsNodeOfRole Source d i c n = ⊥
IsNodeOfRole Statement d i c n = ⊥
IsNodeOfRole Unsupported d i c n = ⊥

-- the node is the driver's
abbrev pub IsNodeOf : DesignOf → Driver → NodeOf → Type 0
IsNodeOf d (Cell i) n = (c : CellOf) × IsCell d i c × IsNodeOfRole (role_of c.kind) d i c n
IsNodeOf d (Connect i k) n =
    (j : ConnectOf) × (left : SigBit) × (right : SigBit)
    × (slice_get d.connects i ≡ Some j) × (slice_get j.left k ≡ Some left) × (slice_get j.right k ≡ Some right) × (n ≡ copy_node d left right)

-- the nodes of the first N drivers, in their order
pub record AreNodes (d : DesignOf) (order : List Driver) (count : ℕ) (nodes : List NodeOf) : Type 0 where
  pub size : length nodes ≡ count
  pub each : (k : ℕ) (r : Driver) (n : NodeOf) → slice_get order k ≡ Some r → slice_get nodes k ≡ Some n → IsNodeOf d r n
