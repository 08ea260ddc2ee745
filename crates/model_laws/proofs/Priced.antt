-- What a cell adds to a frame is at most its cost.
use Rattle.std.proofs.Common.{◌≡◌, ℕ, ◌+◌, ◌*◌, ◌≤◌, Bool, true, false, cond, List, [], ◌∷◌, length, Some, refl, arith}
use Rattle.std.specs.List.{find, sum_by}
use Rattle.std.proofs.lemmas.List.Sums.{sum_by-cons}
use Rattle.std.proofs.lemmas.Nat.{mul-le}
use Rattle.cell_table.specs.declared.kind.Unary.TheVariants.{Not, Pos, Neg}
use Rattle.cell_table.specs.declared.kind.Binary.TheVariants.{And, Or, Xor, Xnor, Add, Sub, Mul}
use Rattle.cell_table.specs.declared.kind.Any.TheVariants.{Const as AnyConst, Seq as AnySeq}
use Rattle.cell_table.specs.declared.kind.Statement.TheVariants.{Assert, Assume, Cover}
use Rattle.cell_table.specs.declared.kind.Kind.{Kind}
use Rattle.cell_table.specs.declared.kind.Kind.TheVariants.{Unary as UnaryCell, Binary as BinaryCell, Reduce as ReduceCell, Logic as LogicCell, Compare as CompareCell, ShiftLeft, ShiftRight, ShiftSign, ShiftAny, Divide as DivideCell, Mux, Pmux, Bmux, Slice, Concat, Ff, Dff, Dffe, Sdff, Sdffe, Sdffce, Adff, Adffe, Statement as StatementCell, Any as AnyCell, InitState, LeftOut as LeftOutCell, Unknown}
use Rattle.design_core.specs.Ports.{is_port, signal_at, signal_in}
use Rattle.design_core.specs.Shape.{CellOf}
use Rattle.design_core.specs.Table.{role_of}
use Rattle.design_core.specs.declared.names.PortName.{PortName}
use Rattle.design_core.specs.declared.names.PortName.TheVariants.{A, B, S, En, Y, Clk, D, Q, Srst, Arst}
use Rattle.design_core.specs.declared.parts.Port.{Port}
use Rattle.design_core.specs.declared.table.Role.{Role}
use Rattle.design_core.specs.declared.table.Role.TheVariants.{Combinational, Register, AsyncResetRegister, Constant, Initial, Source, Statement, Unsupported}
use Rattle.design_meaning.specs.Meaning.{is_assert, is_assume, is_cover}
use Rattle.frame_gates.specs.Costs.{op_gates}
use Rattle.model_laws.specs.Cost.{is_square, port_bits}
use Rattle.word_model.specs.Kinds.{op_of_kind}

-- ---- widths of ports

one-port : (ports : List Port) (name : PortName) → length (signal_at ports name) ≤ sum_by (λ p. length p.signal) ports
one-port [] name = omega arith
one-port (p ∷ ports) name = by (is_port p.name name) (one-port ports name)
  where
    by : (b : Bool) → length (signal_at ports name) ≤ sum_by (λ q. length q.signal) ports
        → length (signal_in (cond b (Some p) (find (λ (q : Port). is_port q.name name) ports))) ≤ sum_by (λ q. length q.signal) (p ∷ ports)
    by true rest = omega (arith, sum_by-cons (λ q. length q.signal) p ports)
    by false rest = omega (arith, sum_by-cons (λ q. length q.signal) p ports, rest)

three-ports : (ports : List Port) → length (signal_at ports A) + length (signal_at ports B) + length (signal_at ports Y) ≤ sum_by (λ p. length p.signal) ports
three-ports [] = omega arith
three-ports (p ∷ ports) = by p.name (three-ports ports)
  where
    by : (n : PortName) → length (signal_at ports A) + length (signal_at ports B) + length (signal_at ports Y) ≤ sum_by (λ q. length q.signal) ports
        → length (signal_in (cond (is_port n A) (Some p) (find (λ (q : Port). is_port q.name A) ports))) + length (signal_in (cond (is_port n B) (Some p) (find (λ (q : Port). is_port q.name B) ports)))
        + length (signal_in (cond (is_port n Y) (Some p) (find (λ (q : Port). is_port q.name Y) ports))) ≤ sum_by (λ q. length q.signal) (p ∷ ports)
    by A rest = omega (arith, sum_by-cons (λ q. length q.signal) p ports, rest)
    by B rest = omega (arith, sum_by-cons (λ q. length q.signal) p ports, rest)
    by S rest = omega (arith, sum_by-cons (λ q. length q.signal) p ports, rest)
    by En rest = omega (arith, sum_by-cons (λ q. length q.signal) p ports, rest)
    by Y rest = omega (arith, sum_by-cons (λ q. length q.signal) p ports, rest)
    by Clk rest = omega (arith, sum_by-cons (λ q. length q.signal) p ports, rest)
    by D rest = omega (arith, sum_by-cons (λ q. length q.signal) p ports, rest)
    by Q rest = omega (arith, sum_by-cons (λ q. length q.signal) p ports, rest)
    by Srst rest = omega (arith, sum_by-cons (λ q. length q.signal) p ports, rest)
    by Arst rest = omega (arith, sum_by-cons (λ q. length q.signal) p ports, rest)

-- no port is wider than all together, nor are A, B and Y
pub port-most : (c : CellOf) (name : PortName) → length (signal_at c.ports name) ≤ port_bits c
port-most c name = one-port c.ports name

pub operands-most : (c : CellOf) → length (signal_at c.ports A) + length (signal_at c.ports B) + length (signal_at c.ports Y) ≤ port_bits c
operands-most c = three-ports c.ports

-- ---- gates

squares : (m n : ℕ) → m ≤ n → m * m ≤ n * n
squares m n h = mul-le m m n n h h

-- the gates of a combinational cell's node, by the widths at A, B and Y and that of all ports
pub node-most : (k : Kind) (sa sb : Bool) (offset a b y bits : ℕ) → role_of k ≡ Combinational → 1 ≤ a → a + b + y ≤ bits
    → op_gates (op_of_kind k sa sb offset) a b y ≤ cond (is_square k) (16 * (bits * bits)) (16 * bits)
node-most (UnaryCell Not) sa sb offset a b y bits r some h = omega (arith, h)
node-most (UnaryCell Pos) sa sb offset a b y bits r some h = omega (arith, h)
node-most (UnaryCell Neg) sa sb offset a b y bits r some h = omega (arith, h)
node-most (BinaryCell And) sa sb offset a b y bits r some h = omega (arith, h)
node-most (BinaryCell Or) sa sb offset a b y bits r some h = omega (arith, h)
node-most (BinaryCell Xor) sa sb offset a b y bits r some h = omega (arith, h)
node-most (BinaryCell Xnor) sa sb offset a b y bits r some h = omega (arith, h)
node-most (BinaryCell Add) sa sb offset a b y bits r some h = omega (arith, h)
node-most (BinaryCell Sub) sa sb offset a b y bits r some h = omega (arith, h)
node-most (BinaryCell Mul) sa sb offset a b y bits r some h = omega (arith, squares (a + b + y) bits h)
node-most (ReduceCell k) sa sb offset a b y bits r some h = omega (arith, h)
node-most (LogicCell k) sa sb offset a b y bits r some h = omega (arith, h)
node-most (CompareCell k) sa sb offset a b y bits r some h = omega (arith, h)
node-most ShiftLeft sa sb offset a b y bits r some h = omega (arith, squares (a + b + y) bits h)
node-most ShiftRight sa sb offset a b y bits r some h = omega (arith, squares (a + b + y) bits h)
node-most ShiftSign sa sb offset a b y bits r some h = omega (arith, squares (a + b + y) bits h)
node-most ShiftAny sa sb offset a b y bits r some h = omega (arith, squares (a + b + y) bits h)
node-most (DivideCell k) sa sb offset a b y bits r some h = omega (arith, squares (a + b + y) bits h)
node-most Mux sa sb offset a b y bits r some h = omega (arith, h)
node-most Pmux sa sb offset a b y bits r some h = omega (arith, h)
node-most Bmux sa sb offset a b y bits r some h = omega (arith, h)
node-most Slice sa sb offset a b y bits r some h = omega (arith, h)
node-most Concat sa sb offset a b y bits r some h = omega (arith, h)
node-most Ff sa sb offset a b y bits r some h = absurd cc
node-most Dff sa sb offset a b y bits r some h = absurd cc
node-most Dffe sa sb offset a b y bits r some h = absurd cc
node-most Sdff sa sb offset a b y bits r some h = absurd cc
node-most Sdffe sa sb offset a b y bits r some h = absurd cc
node-most Sdffce sa sb offset a b y bits r some h = absurd cc
node-most Adff sa sb offset a b y bits r some h = absurd cc
node-most Adffe sa sb offset a b y bits r some h = absurd cc
node-most (StatementCell Assert) sa sb offset a b y bits r some h = absurd cc
node-most (StatementCell Assume) sa sb offset a b y bits r some h = absurd cc
node-most (StatementCell Cover) sa sb offset a b y bits r some h = absurd cc
node-most (AnyCell AnyConst) sa sb offset a b y bits r some h = absurd cc
node-most (AnyCell AnySeq) sa sb offset a b y bits r some h = absurd cc
node-most InitState sa sb offset a b y bits r some h = absurd cc
node-most (LeftOutCell k) sa sb offset a b y bits r some h = absurd cc
node-most Unknown sa sb offset a b y bits r some h = absurd cc

-- the state bits of a cell, and the gates of its node, by its role, its cost and the width of its output
abbrev pub state_width : Role → ℕ → ℕ
state_width Combinational out = 0
state_width Register out = out
state_width AsyncResetRegister out = out
state_width Constant out = out
state_width Initial out = out
state_width Source out = 0
state_width Statement out = 0
state_width Unsupported out = 0

abbrev pub gates_within : Role → ℕ → ℕ → ℕ
gates_within Combinational cost out = cost
gates_within Register cost out = 0
gates_within AsyncResetRegister cost out = out
gates_within Constant cost out = 0
gates_within Initial cost out = 0
gates_within Source cost out = 0
gates_within Statement cost out = 0
gates_within Unsupported cost out = 0

abbrev pub one_if : Bool → ℕ
one_if b = cond b 1 0

-- what a cell of a type adds
pub kind-most : (k : Kind) (out bits : ℕ) → out ≤ bits → (role_of k ≡ Statement → 1 ≤ bits)
    → 3 * state_width (role_of k) out + gates_within (role_of k) (cond (is_square k) (16 * (bits * bits)) (16 * bits)) out + 2 * one_if (is_assert k) + 2 * one_if (is_assume k) + one_if (is_cover k)
    ≤ cond (is_square k) (16 * (bits * bits)) (16 * bits)
kind-most (UnaryCell Not) out bits h some = omega (arith, h)
kind-most (UnaryCell Pos) out bits h some = omega (arith, h)
kind-most (UnaryCell Neg) out bits h some = omega (arith, h)
kind-most (BinaryCell And) out bits h some = omega (arith, h)
kind-most (BinaryCell Or) out bits h some = omega (arith, h)
kind-most (BinaryCell Xor) out bits h some = omega (arith, h)
kind-most (BinaryCell Xnor) out bits h some = omega (arith, h)
kind-most (BinaryCell Add) out bits h some = omega (arith, h)
kind-most (BinaryCell Sub) out bits h some = omega (arith, h)
kind-most (BinaryCell Mul) out bits h some = omega (arith, h)
kind-most (ReduceCell k) out bits h some = omega (arith, h)
kind-most (LogicCell k) out bits h some = omega (arith, h)
kind-most (CompareCell k) out bits h some = omega (arith, h)
kind-most ShiftLeft out bits h some = omega (arith, h)
kind-most ShiftRight out bits h some = omega (arith, h)
kind-most ShiftSign out bits h some = omega (arith, h)
kind-most ShiftAny out bits h some = omega (arith, h)
kind-most (DivideCell k) out bits h some = omega (arith, h)
kind-most Mux out bits h some = omega (arith, h)
kind-most Pmux out bits h some = omega (arith, h)
kind-most Bmux out bits h some = omega (arith, h)
kind-most Slice out bits h some = omega (arith, h)
kind-most Concat out bits h some = omega (arith, h)
kind-most Ff out bits h some = omega (arith, h)
kind-most Dff out bits h some = omega (arith, h)
kind-most Dffe out bits h some = omega (arith, h)
kind-most Sdff out bits h some = omega (arith, h)
kind-most Sdffe out bits h some = omega (arith, h)
kind-most Sdffce out bits h some = omega (arith, h)
kind-most Adff out bits h some = omega (arith, h)
kind-most Adffe out bits h some = omega (arith, h)
kind-most (StatementCell Assert) out bits h some = omega (arith, h, some refl)
kind-most (StatementCell Assume) out bits h some = omega (arith, h, some refl)
kind-most (StatementCell Cover) out bits h some = omega (arith, h, some refl)
kind-most (AnyCell AnyConst) out bits h some = omega (arith, h)
kind-most (AnyCell AnySeq) out bits h some = omega (arith, h)
kind-most InitState out bits h some = omega (arith, h)
kind-most (LeftOutCell k) out bits h some = omega (arith, h)
kind-most Unknown out bits h some = omega (arith, h)
