-- The meaning of a model: relations on whole cycles.
use Rattle.std.specs.Prelude.{◌≡◌, ℕ, suc, ◌<◌, Bool, true, false, cond, not, ◌||◌, List, length, map, max, Some, slice_get, IsTrue}
use Rattle.std.specs.List.{flat_map}
use Rattle.sby_bits.specs.Rows.{Row, num, value}
use Rattle.cell_table.specs.Cells.{unary_fn, binary_fn, is_reduced, is_logic, is_compared, left_shift_fn, right_shift_fn, sign_shift_fn, any_shift_fn, divide_fn, mux_fn, pmux_fn, bmux_fn, slice_fn, bit_row, same_bit}
use Rattle.std.specs.Prelude.{eqb, ◌++◌}
use Rattle.model_core.specs.Shape.{NodeOf, RegisterOf, ModelOf, states}
use Rattle.model_core.specs.declared.model.Control.{Control}
use Rattle.model_core.specs.declared.model.Statement.{Statement}
use Rattle.model_core.specs.declared.op.Op.{Op}
use Rattle.model_core.specs.declared.op.Op.TheVariants as op

-- what each place has in one cycle
abbrev pub Cycle : Type 0
Cycle = ℕ → Bool

abbrev pub row_at : Cycle → List ℕ → Row
row_at c places = map c places

-- a row of one bit as that bit
abbrev pub is_set : Row → Bool
is_set r = not (eqb (num r) 0)

-- the row at Y, of this many bits, by the rows at A, B and S: one line for each line of the table of combinational cells
abbrev pub node_fn : Op → ℕ → Row → Row → Row → Row
node_fn op.Copy y a b s = a
node_fn (op.Unary k signed) y a b s = unary_fn k y (value signed a)
node_fn (op.Binary k signed) y a b s = binary_fn k y (value signed a) (value signed b)
node_fn (op.Reduce k) y a b s = bit_row y (is_reduced k a)
node_fn (op.Logic k) y a b s = bit_row y (is_logic k a b)
node_fn (op.Compare k signed) y a b s = bit_row y (is_compared k (max (length a) (length b)) (value signed a) (value signed b))
node_fn (op.ShiftLeft signed) y a b s = left_shift_fn y (value signed a) (num b)
node_fn (op.ShiftRight signed) y a b s = right_shift_fn y (max (length a) y) (value signed a) (num b)
node_fn (op.ShiftSign signed) y a b s = sign_shift_fn y (value signed a) (num b)
node_fn (op.ShiftAny signed by_signed) y a b s = any_shift_fn y (max (length a) y) (value signed a) (value by_signed b)
node_fn (op.Divide k signed) y a b s = divide_fn k y (value signed a) (value signed b)
node_fn op.Mux y a b s = mux_fn a b (is_set s)
node_fn op.Pmux y a b s = pmux_fn y a b s
node_fn op.Bmux y a b s = bmux_fn y a s
node_fn (op.Slice offset) y a b s = slice_fn y offset a
node_fn op.Concat y a b s = a ++ b

-- the row that a node gives in c
abbrev pub row_of_node : Cycle → NodeOf → Row
row_of_node c n = node_fn n.op (length n.y) (row_at c n.a) (row_at c n.b) (row_at c n.s)

-- c is a cycle of the model: the constants are 0 and 1, and each node gives its output what it does with its operands
pub record Frame (m : ModelOf) (c : Cycle) : Type 0 where
  pub zero : c m.zero ≡ false
  pub one : c (suc m.zero) ≡ true
  pub nodes : (i : ℕ) (n : NodeOf) → slice_get m.nodes i ≡ Some n → row_at c n.y ≡ row_of_node c n

-- the control bit has its level
abbrev pub is_active : Cycle → Control → Bool
is_active c control = same_bit (c control.place) control.level

-- what a register keeps for the next cycle
abbrev pub next_row : Cycle → RegisterOf → Row
next_row c r = cond r.reset_first
    (cond (is_active c r.reset) (row_at c r.value) (cond (is_active c r.enable) (row_at c r.d) (row_at c r.q)))
    (cond (is_active c r.enable) (cond (is_active c r.reset) (row_at c r.value) (row_at c r.d)) (row_at c r.q))

-- what all state bits have in the next cycle
abbrev pub next_states : ModelOf → Cycle → Row
next_states m c = flat_map (next_row c) m.registers

-- e can come right after c
abbrev pub Follows : ModelOf → Cycle → Cycle → Type 0
Follows m c e = (i : ℕ) (r : RegisterOf) → slice_get m.registers i ≡ Some r → row_at e r.q ≡ next_row c r

-- c can be the first cycle: each state bit that has a start digit has it
abbrev pub Starts : ModelOf → Cycle → Type 0
Starts m c = (k p : ℕ) (x : Bool) → slice_get (states m) k ≡ Some p → slice_get m.starts k ≡ Some (Some x) → c p ≡ x

-- n neighbouring cycles, at least one, from any state
pub record Window (m : ModelOf) (n : ℕ) (cs : ℕ → Cycle) : Type 0 where
  pub some : 0 < n
  pub frames : (t : ℕ) → t < n → Frame m (cs t)
  pub follows : (t : ℕ) → suc t < n → Follows m (cs t) (cs (suc t))

-- n neighbouring cycles from a start
pub record Run (m : ModelOf) (n : ℕ) (cs : ℕ → Cycle) : Type 0 where
  pub window : Window m n cs
  pub starts : Starts m (cs 0)

-- each assumption has EN 0 or A 1
abbrev pub Assumed : ModelOf → Cycle → Type 0
Assumed m c = (i : ℕ) (s : Statement) → slice_get m.assumes i ≡ Some s → IsTrue (not (c s.en) || c s.a)

-- assertion k, counted from 0, has EN 1 and A 0
abbrev pub Broken : ModelOf → Cycle → ℕ → Type 0
Broken m c k = (s : Statement) × (slice_get m.asserts k ≡ Some s) × (c s.en ≡ true) × (c s.a ≡ false)

-- cover statement k, counted from 0, has EN 1 and A 1
abbrev pub Reached : ModelOf → Cycle → ℕ → Type 0
Reached m c k = (s : Statement) × (slice_get m.covers k ≡ Some s) × (c s.en ≡ true) × (c s.a ≡ true)
