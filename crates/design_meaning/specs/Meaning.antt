-- The meaning of a design: relations on whole valuations, with no order in which anything is computed.
use Rattle.std.specs.Prelude.{◌≡◌, ℕ, zero, suc, ◌<◌, Bool, true, false, cond, not, ◌||◌, List, [], ◌∷◌, length, map, Option, Some, None, slice_get, Contains, IsTrue}
use Rattle.std.specs.List.{filter, range_with_len}
use Rattle.sby_bits.specs.Rows.{Row}
use Rattle.cell_table.specs.declared.kind.Kind.{Kind}
use Rattle.cell_table.specs.declared.kind.Kind.TheVariants.{Unary as UnaryCell, Binary as BinaryCell, Reduce as ReduceCell, Logic as LogicCell, Compare as CompareCell, ShiftLeft, ShiftRight, ShiftSign, ShiftAny, Divide as DivideCell, Mux, Pmux, Bmux, Slice, Concat, Ff, Dff, Dffe, Sdff, Sdffe, Sdffce, Adff, Adffe, Statement as StatementCell, Any as AnyCell, InitState, LeftOut as LeftOutCell, Unknown}
use Rattle.cell_table.specs.declared.kind.Statement.TheVariants.{Assert, Assume, Cover}
use Rattle.design_signals.specs.declared.sig_bit.SigBit.{SigBit}
use Rattle.design_signals.specs.declared.sig_bit.SigBit.TheVariants.{Wire, Const, Free}
use Rattle.design_core.specs.Asked.{output_of}
use Rattle.design_core.specs.Cells.{Parameters, Ports, is_set, cell_fn, next_fn, is_reset, reset_value}
use Rattle.design_core.specs.Ports.{signal_at, digits_at}
use Rattle.design_core.specs.Shape.{WireOf, CellOf, ConnectOf, DesignOf}
use Rattle.design_core.specs.Table.{role_of}
use Rattle.design_core.specs.declared.digit.Digit.{Digit}
use Rattle.design_core.specs.declared.digit.Digit.TheVariants.{Const as ConstDigit, Free as FreeDigit, Marker}
use Rattle.design_core.specs.declared.names.PortName.TheVariants.{A, En}
use Rattle.design_core.specs.declared.table.Role.{Role}
use Rattle.design_core.specs.declared.table.Role.TheVariants.{Combinational, Register, AsyncResetRegister, Constant, Initial, Source, Statement, Unsupported}

-- What the wires, the free bits and the stored rows have in one cycle: a bit for each bit of each wire, for each free number, and for
-- each bit that the register with an asynchronous reset at a place of the file's cells keeps.
pub record Valuation : Type 0 where
  pub wire : ℕ → ℕ → Bool
  pub free : ℕ → Bool
  pub kept : ℕ → ℕ → Bool

abbrev pub bit_in : Valuation → SigBit → Bool
bit_in v (Wire w b) = v.wire w b
bit_in v (Const b) = b
bit_in v (Free n) = v.free n

abbrev pub row_in : Valuation → List SigBit → Row
row_in v signal = map (bit_in v) signal

-- a parameter's digit; its x, z and - are free bits
abbrev pub digit_in : Valuation → Digit → Bool
digit_in v (ConstDigit b) = b
digit_in v (FreeDigit n) = v.free n
digit_in v Marker = false

abbrev pub digits_in : Valuation → Option (List Digit) → Row
digits_in v None = []
digits_in v (Some digits) = map (digit_in v) digits

-- what the parameters, and the ports, of a cell have in v
abbrev pub parameters_in : Valuation → CellOf → Parameters
parameters_in v c name = digits_in v (digits_at c.parameters name)

abbrev pub ports_in : Valuation → CellOf → Ports
ports_in v c name = row_in v (signal_at c.ports name)

-- the cell stands at place i of the file's cells
abbrev pub IsCell : DesignOf → ℕ → CellOf → Type 0
IsCell d i c = slice_get d.cells i ≡ Some c

-- the row that the cell at place i keeps beside the wires: one bit for each bit of Q
abbrev pub kept_row : Valuation → ℕ → CellOf → Row
kept_row v i c = map (v.kept i) (range_with_len 0 (length (output_of c)))

-- a register with an asynchronous reset shows its reset value while it is reset, else the row that it keeps
abbrev pub shown_row : Valuation → ℕ → CellOf → Row
shown_row v i c = cond (is_reset AsyncResetRegister (parameters_in v c) (ports_in v c)) (reset_value AsyncResetRegister (parameters_in v c)) (kept_row v i c)

-- v is a cycle of the design: each combinational cell gives what its kind gives of its inputs, each register with an asynchronous
-- reset shows its row, and the sides of each connect are equal. Nothing else is asked: a bit that nothing drives is free.
pub record Frame (d : DesignOf) (v : Valuation) : Type 0 where
  pub cells : (i : ℕ) (c : CellOf) → IsCell d i c → role_of c.kind ≡ Combinational → row_in v (output_of c) ≡ cell_fn c.kind (parameters_in v c) (ports_in v c)
  pub resets : (i : ℕ) (c : CellOf) → IsCell d i c → role_of c.kind ≡ AsyncResetRegister → row_in v (output_of c) ≡ shown_row v i c
  pub connects : (i : ℕ) (j : ConnectOf) → slice_get d.connects i ≡ Some j → row_in v j.left ≡ row_in v j.right

-- a connect drives bit b from bit a
abbrev pub IsConnected : DesignOf → SigBit → SigBit → Type 0
IsConnected d b a =
    (i : ℕ) × (j : ConnectOf) × (k : ℕ) × (slice_get d.connects i ≡ Some j) × (slice_get j.left k ≡ Some b) × (slice_get j.right k ≡ Some a)

-- a chain of n connects drives bit b from bit a
abbrev pub Chain : DesignOf → ℕ → SigBit → SigBit → Type 0
Chain d zero b a = b ≡ a
Chain d (suc n) b a = (m : SigBit) × IsConnected d b m × Chain d n m a

-- the cell is a register
abbrev pub is_register : Role → Bool
is_register Combinational = false
is_register Register = true
is_register AsyncResetRegister = true
is_register Constant = false
is_register Initial = false
is_register Source = false
is_register Statement = false
is_register Unsupported = false

-- bit k of the output of the register at place i is a
abbrev pub IsRegisterBit : DesignOf → ℕ → ℕ → SigBit → Type 0
IsRegisterBit d i k a = (c : CellOf) × IsCell d i c × (is_register (role_of c.kind) ≡ true) × (slice_get (output_of c) k ≡ Some a)

-- an `\init` attribute of wire w gives bit b the digit x
abbrev pub IsInit : DesignOf → ℕ → ℕ → Bool → Type 0
IsInit d w b x = (wire : WireOf) × (digits : List _) × (slice_get d.wires w ≡ Some wire) × Contains wire.inits digits × (slice_get digits b ≡ Some (Some x))

-- a start digit that counts: the digit x of a bit whose chain of connects ends at bit k of the register at place i
abbrev pub IsStart : DesignOf → ℕ → ℕ → Bool → Type 0
IsStart d i k x = (a : SigBit) × (w : ℕ) × (b : ℕ) × (n : ℕ) × IsRegisterBit d i k a × IsInit d w b x × Chain d n (Wire w b) a

-- what a cell holds from one cycle to the next: a register the row at Q, or the row that it keeps; `$anyconst` and `$initstate` the
-- row at Y; the others nothing
abbrev pub row_of_role : Role → Row → Row → Row
row_of_role Combinational output kept = []
row_of_role Register output kept = output
row_of_role AsyncResetRegister output kept = kept
row_of_role Constant output kept = output
row_of_role Initial output kept = output
row_of_role Source output kept = []
row_of_role Statement output kept = []
row_of_role Unsupported output kept = []

abbrev pub held_row : Valuation → ℕ → CellOf → Row
held_row v i c = row_of_role (role_of c.kind) (row_in v (output_of c)) (kept_row v i c)

-- v can be the first cycle: each start digit that counts is the value of the bit that its register holds, and each `$initstate` is 1
pub record Starts (d : DesignOf) (v : Valuation) : Type 0 where
  pub digits : (i k : ℕ) (c : CellOf) (x : Bool) → IsCell d i c → IsStart d i k x → slice_get (held_row v i c) k ≡ Some x
  pub initial : (i : ℕ) (c : CellOf) → IsCell d i c → role_of c.kind ≡ Initial → held_row v i c ≡ true ∷ []

-- w can come right after v: each cell holds in w what its line of the table gives from v
abbrev pub Follows : DesignOf → Valuation → Valuation → Type 0
Follows d v w = (i : ℕ) (c : CellOf) → IsCell d i c → held_row w i c ≡ next_fn c.kind (parameters_in v c) (ports_in v c) (held_row v i c)

-- n neighbouring cycles, at least one, from any state
pub record Window (d : DesignOf) (n : ℕ) (vs : ℕ → Valuation) : Type 0 where
  pub some : 0 < n
  pub frames : (t : ℕ) → t < n → Frame d (vs t)
  pub follows : (t : ℕ) → suc t < n → Follows d (vs t) (vs (suc t))

-- n neighbouring cycles from a start
pub record Run (d : DesignOf) (n : ℕ) (vs : ℕ → Valuation) : Type 0 where
  pub window : Window d n vs
  pub starts : Starts d (vs 0)

-- the assertions, assumptions and cover statements, in file order
abbrev pub is_assert : Kind → Bool
is_assert (UnaryCell k) = false
is_assert (BinaryCell k) = false
is_assert (ReduceCell k) = false
is_assert (LogicCell k) = false
is_assert (CompareCell k) = false
is_assert ShiftLeft = false
is_assert ShiftRight = false
is_assert ShiftSign = false
is_assert ShiftAny = false
is_assert (DivideCell k) = false
is_assert Mux = false
is_assert Pmux = false
is_assert Bmux = false
is_assert Slice = false
is_assert Concat = false
is_assert Ff = false
is_assert Dff = false
is_assert Dffe = false
is_assert Sdff = false
is_assert Sdffe = false
is_assert Sdffce = false
is_assert Adff = false
is_assert Adffe = false
is_assert (StatementCell Assert) = true
is_assert (StatementCell Assume) = false
is_assert (StatementCell Cover) = false
is_assert (AnyCell k) = false
is_assert InitState = false
is_assert (LeftOutCell k) = false
is_assert Unknown = false

abbrev pub is_assume : Kind → Bool
is_assume (UnaryCell k) = false
is_assume (BinaryCell k) = false
is_assume (ReduceCell k) = false
is_assume (LogicCell k) = false
is_assume (CompareCell k) = false
is_assume ShiftLeft = false
is_assume ShiftRight = false
is_assume ShiftSign = false
is_assume ShiftAny = false
is_assume (DivideCell k) = false
is_assume Mux = false
is_assume Pmux = false
is_assume Bmux = false
is_assume Slice = false
is_assume Concat = false
is_assume Ff = false
is_assume Dff = false
is_assume Dffe = false
is_assume Sdff = false
is_assume Sdffe = false
is_assume Sdffce = false
is_assume Adff = false
is_assume Adffe = false
is_assume (StatementCell Assert) = false
is_assume (StatementCell Assume) = true
is_assume (StatementCell Cover) = false
is_assume (AnyCell k) = false
is_assume InitState = false
is_assume (LeftOutCell k) = false
is_assume Unknown = false

abbrev pub is_cover : Kind → Bool
is_cover (UnaryCell k) = false
is_cover (BinaryCell k) = false
is_cover (ReduceCell k) = false
is_cover (LogicCell k) = false
is_cover (CompareCell k) = false
is_cover ShiftLeft = false
is_cover ShiftRight = false
is_cover ShiftSign = false
is_cover ShiftAny = false
is_cover (DivideCell k) = false
is_cover Mux = false
is_cover Pmux = false
is_cover Bmux = false
is_cover Slice = false
is_cover Concat = false
is_cover Ff = false
is_cover Dff = false
is_cover Dffe = false
is_cover Sdff = false
is_cover Sdffe = false
is_cover Sdffce = false
is_cover Adff = false
is_cover Adffe = false
is_cover (StatementCell Assert) = false
is_cover (StatementCell Assume) = false
is_cover (StatementCell Cover) = true
is_cover (AnyCell k) = false
is_cover InitState = false
is_cover (LeftOutCell k) = false
is_cover Unknown = false

abbrev pub asserts : DesignOf → List CellOf
asserts d = filter (λ c. is_assert c.kind) d.cells

abbrev pub assumes : DesignOf → List CellOf
assumes d = filter (λ c. is_assume c.kind) d.cells

abbrev pub covers : DesignOf → List CellOf
covers d = filter (λ c. is_cover c.kind) d.cells

-- a statement's A and EN in v
abbrev pub says : Valuation → CellOf → Bool
says v c = is_set (ports_in v c A)

abbrev pub is_enabled : Valuation → CellOf → Bool
is_enabled v c = is_set (ports_in v c En)

-- each assumption has EN 0 or A 1
abbrev pub Assumed : DesignOf → Valuation → Type 0
Assumed d v = (i : ℕ) (c : CellOf) → slice_get (assumes d) i ≡ Some c → IsTrue (not (is_enabled v c) || says v c)

-- assertion a, counted from 0, has EN 1 and A 0
abbrev pub Broken : DesignOf → Valuation → ℕ → Type 0
Broken d v a = (c : CellOf) × (slice_get (asserts d) a ≡ Some c) × (is_enabled v c ≡ true) × (says v c ≡ false)

-- cover statement k, counted from 0, has EN 1 and A 1
abbrev pub Reached : DesignOf → Valuation → ℕ → Type 0
Reached d v k = (c : CellOf) × (slice_get (covers d) k ≡ Some c) × (is_enabled v c ≡ true) × (says v c ≡ true)
