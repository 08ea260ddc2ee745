-- The most variables that the parts of a frame take.
use Rattle.std.specs.Prelude.{ℕ, ◌+◌, ◌*◌, length}
use Rattle.std.specs.List.{sum_by}
use Rattle.gate_words.specs.Words.{unary_gates, binary_gates, square}
use Rattle.model_core.specs.Shape.{NodeOf, ModelOf}
use Rattle.model_core.specs.declared.op.Op.{Op}
use Rattle.model_core.specs.declared.op.Op.TheVariants as op

-- the gates of a node, by the widths at A, B and Y
abbrev pub op_gates : Op → ℕ → ℕ → ℕ → ℕ
op_gates op.Copy a b y = 0
op_gates (op.Unary k signed) a b y = unary_gates k y
op_gates (op.Binary k signed) a b y = binary_gates k (a + b + y)
op_gates (op.Reduce k) a b y = a
op_gates (op.Logic k) a b y = a + b + 1
op_gates (op.Compare k signed) a b y = 2 * (a + b)
op_gates (op.ShiftLeft signed) a b y = square (a + b + y)
op_gates (op.ShiftRight signed) a b y = square (a + b + y)
op_gates (op.ShiftSign signed) a b y = square (a + b + y)
op_gates (op.ShiftAny signed by_signed) a b y = square (a + b + y)
op_gates (op.Divide k signed) a b y = square (a + b + y)
op_gates op.Mux a b y = a
op_gates op.Pmux a b y = b
op_gates op.Bmux a b y = a
op_gates (op.Slice offset) a b y = 0
op_gates op.Concat a b y = 0

abbrev pub node_gates : NodeOf → ℕ
node_gates n = op_gates n.op (length n.a) (length n.b) (length n.y)

-- the inputs and the gates of a frame's nodes
abbrev pub frame_vars : ModelOf → ℕ
frame_vars m = length m.inputs + sum_by node_gates m.nodes

-- the gates of what the state bits have next: two choices for each
abbrev pub next_gates : ModelOf → ℕ
next_gates m = sum_by (λ r. 2 * length r.q) m.registers
