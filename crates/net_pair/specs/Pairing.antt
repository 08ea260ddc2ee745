-- The pair of a net: two neighbouring cycles as the gates of one net, and the literals that speak of them.
use Rattle.std.specs.Prelude.{ℕ, suc, ◌+◌, ◌*◌, max, Bool, true, false, cond, eqb, ltb, List, [], ◌∷◌, ◌++◌, length, map, Option, Some, None, slice_get}
use Rattle.cnf_form.specs.Cnf.{LitOf, negate}
use Rattle.gate_graph.specs.declared.gate.Gate.{Gate}
use Rattle.gate_graph.specs.declared.gate.Gate.TheVariants.{And, Xor, Mux, Maj}
use Rattle.gate_graph.specs.Kept.{clauses_from, lit_of, signed}
use Rattle.bit_net.specs.Net.{NetOf, gate_var, node_at, state_var, vars}
use Rattle.bit_net.specs.Reaching.{entries}
use Rattle.bit_net.specs.declared.node.State.{State}
use Rattle.bit_net.specs.declared.node.Node.{Node}
use Rattle.bit_net.specs.declared.node.Node.TheVariants as node
use Rattle.pair_form.specs.Pair.{PairOf}
use Rattle.pair_form.specs.declared.pair.BitLits.{BitLits}
use Rattle.pair_form.specs.declared.pair.Frame.{Frame}
use Rattle.pair_form.specs.declared.pair.Frame.TheVariants.{First, Second}

-- the literal of a variable that stands this much higher
abbrev pub raised : ℕ → LitOf → LitOf
raised by l = record { var = l.var + by; negated = l.negated }

-- A literal of the net in the first cycle. The inputs of the second stand between those of the first and the gates.
abbrev pub now : NetOf → LitOf → LitOf
now n l = cond (ltb l.var (gate_var n 0)) l (raised n.inputs l)

-- And in the second, by what its variable is: a state is what it takes in the first.
abbrev pub later_by : NetOf → Node → LitOf → LitOf
later_by n (node.State s) l = signed l.negated (now n s.next)
later_by n node.Input l = raised n.inputs l
later_by n (node.Gate g) l = raised (n.inputs + length n.gates) l

abbrev pub later : NetOf → LitOf → LitOf
later n l = cond (eqb l.var 1) l (later_by n (node_at n l.var) l)

abbrev pub lit_at : NetOf → Frame → LitOf → LitOf
lit_at n First l = now n l
lit_at n Second l = later n l

-- a gate of the net in a cycle
abbrev pub gate_at : NetOf → Frame → Gate → Gate
gate_at n t (And a b) = And (lit_at n t a) (lit_at n t b)
gate_at n t (Xor a b) = Xor (lit_at n t a) (lit_at n t b)
gate_at n t (Mux s a b) = Mux (lit_at n t s) (lit_at n t a) (lit_at n t b)
gate_at n t (Maj a b c) = Maj (lit_at n t a) (lit_at n t b) (lit_at n t c)

abbrev pub gates_at : NetOf → Frame → List Gate
gates_at n t = map (gate_at n t) n.gates

-- the literals that the states, from state k on, have the start digits that they have
abbrev pub digit_of : ℕ → Option Bool → List LitOf
digit_of k None = []
digit_of k (Some b) = lit_of (state_var k) b ∷ []

abbrev pub digits : ℕ → List State → List LitOf
digits k [] = []
digits k (s ∷ states) = digit_of k s.start ++ digits (suc k) states

-- the gates that say whether literals are all true: each is of one of them, and of the result of those before it; the first has variable v
abbrev pub chain : ℕ → LitOf → List LitOf → List Gate
chain v before [] = []
chain v before (l ∷ ls) = And before l ∷ chain (suc v) (lit_of v true) ls

-- the literal that says so
abbrev pub all_of : ℕ → LitOf → List LitOf → LitOf
all_of v before [] = before
all_of v before (l ∷ ls) = all_of (suc v) (lit_of v true) ls

-- how many variables come before the gates of a cycle, and before those of the start
abbrev pub before_gates : NetOf → Frame → ℕ
before_gates n First = 1 + length n.states + 2 * n.inputs
before_gates n Second = 1 + length n.states + 2 * n.inputs + length n.gates

abbrev pub before_start : NetOf → ℕ
before_start n = 1 + length n.states + 2 * n.inputs + 2 * length n.gates

abbrev pub start_gates : NetOf → List Gate
start_gates n = chain (suc (before_start n)) (lit_of 1 true) (digits 0 n.states)

abbrev pub start_lit : NetOf → LitOf
start_lit n = all_of (suc (before_start n)) (lit_of 1 true) (digits 0 n.states)

-- the gates of the first cycle, of the second, and of the start, over the states and inputs of the first and the inputs of the second
abbrev pub both : NetOf → NetOf
both n = record {
  states = [];
  inputs = length n.states + 2 * n.inputs;
  gates = gates_at n First ++ (gates_at n Second ++ start_gates n);
  asserted = None;
  assumed = lit_of 1 true;
  covers = [];
}

-- where nothing is asserted, nothing is broken
abbrev pub bad_by : NetOf → Option LitOf → LitOf
bad_by n None = lit_of 1 false
bad_by n (Some l) = negate (now n l)

-- the literals of state k, if there is one
abbrev pub state_lits : NetOf → ℕ → Option State → Option BitLits
state_lits n k None = None
state_lits n k (Some s) = Some (record { first = lit_of (state_var k) true; second = now n s.next })

abbrev pub bit_by : NetOf → Option ℕ → Option BitLits
bit_by n None = None
bit_by n (Some k) = state_lits n k (slice_get n.states k)

-- how many variables the formula has: the number of each state bit is one, so that clauses over these are clauses over variables
abbrev pub pair_vars : NetOf → List (Option ℕ) → ℕ
pair_vars n bits = max (vars (both n)) (length bits)

-- how many variables there have to be for it: one is left over for who asks what the formula admits
abbrev pub made : NetOf → List (Option ℕ) → ℕ
made n bits = 1 + pair_vars n bits

-- The pair of a net, where each number of a state bit has a state or none: the gates of both cycles, and that the first is assumed.
abbrev pub pair_of : NetOf → List (Option ℕ) → PairOf
pair_of n bits = record {
  formula = record { vars = pair_vars n bits; clauses = clauses_from (entries (both n)) ++ (now n n.assumed ∷ []) ∷ [] };
  start = start_lit n;
  next = later n n.assumed;
  bad = bad_by n n.asserted;
  bits = map (bit_by n) bits;
}
