-- A net: the gates of one cycle over its states and inputs; each state has the literal that it takes in the next cycle.
use Rattle.std.specs.Prelude.{◌≡◌, ℕ, suc, ◌+◌, ◌-◌, ◌<◌, ◌≤◌, Bool, true, List, length, Option, Some, None, All, slice_get, cond, ltb}
use Rattle.cnf_form.specs.Cnf.{LitOf, Assignment, LitWithin, lit_in}
use Rattle.cnf_form.specs.declared.literal.TheConstants.{MAX_VARS}
use Rattle.gate_graph.specs.declared.gate.Gate.{Gate}
use Rattle.gate_graph.specs.Folding.{bit, operands}
use Rattle.gate_graph.specs.Kept.{OthersWithin}
use Rattle.bit_net.specs.declared.node.State.{State}
use Rattle.bit_net.specs.declared.node.Node.{Node}
use Rattle.bit_net.specs.declared.node.Node.TheVariants as node

-- The variables are numbered from 1: that which is true, the states, the inputs, and the gates.
pub record NetOf : Type 0 where
  pub states : List State
  -- how many inputs there are
  pub inputs : ℕ
  pub gates : List Gate
  -- true where no assertion is broken, if there is an assertion
  pub asserted : Option LitOf
  -- true where all assumptions hold
  pub assumed : LitOf
  -- each true where its cover statement is reached
  pub covers : List LitOf

-- the variable of state k, of input k and of gate k, counted from 0
abbrev pub state_var : ℕ → ℕ
state_var k = suc (suc k)

abbrev pub input_var : NetOf → ℕ → ℕ
input_var n k = 2 + length n.states + k

abbrev pub gate_var : NetOf → ℕ → ℕ
gate_var n k = 2 + length n.states + n.inputs + k

-- how many variables there are
abbrev pub vars : NetOf → ℕ
vars n = 1 + length n.states + n.inputs + length n.gates

-- a gate reads only variables before it, and each literal is of a variable
pub record IsNet (n : NetOf) : Type 0 where
  pub limit : vars n ≤ MAX_VARS
  pub gates : (k : ℕ) (g : Gate) → slice_get n.gates k ≡ Some g → OthersWithin (gate_var n k - 1) (operands g)
  pub next : (k : ℕ) (s : State) → slice_get n.states k ≡ Some s → LitWithin (vars n) s.next
  pub asserted : (l : LitOf) → n.asserted ≡ Some l → LitWithin (vars n) l
  pub assumed : LitWithin (vars n) n.assumed
  pub covers : All (LitWithin (vars n)) n.covers

abbrev pub state_node : Option State → Node
state_node (Some s) = node.State s
state_node None = node.Input

abbrev pub gate_node : Option Gate → Node
gate_node (Some g) = node.Gate g
gate_node None = node.Input

-- what a variable from 2 on is
abbrev pub node_at : NetOf → ℕ → Node
node_at n v = cond (ltb v (input_var n 0)) (state_node (slice_get n.states (v - 2))) (cond (ltb v (gate_var n 0)) node.Input (gate_node (slice_get n.gates (v - gate_var n 0))))

-- x has the values of one cycle
pub record Frame (n : NetOf) (x : Assignment) : Type 0 where
  pub truth : x 1 ≡ true
  pub gates : (k : ℕ) (g : Gate) → slice_get n.gates k ≡ Some g → x (gate_var n k) ≡ bit g x

-- y can come right after x
abbrev pub Follows : NetOf → Assignment → Assignment → Type 0
Follows n x y = (k : ℕ) (s : State) → slice_get n.states k ≡ Some s → y (state_var k) ≡ lit_in x s.next

-- x can be the first cycle: each state that has a start digit has it
abbrev pub Starts : NetOf → Assignment → Type 0
Starts n x = (k : ℕ) (s : State) (b : Bool) → slice_get n.states k ≡ Some s → s.start ≡ Some b → x (state_var k) ≡ b

-- this many neighbouring cycles from any state
pub record Window (n : NetOf) (count : ℕ) (xs : ℕ → Assignment) : Type 0 where
  pub frames : (t : ℕ) → t < count → Frame n (xs t)
  pub follows : (t : ℕ) → suc t < count → Follows n (xs t) (xs (suc t))

-- this many neighbouring cycles from a start
pub record Run (n : NetOf) (count : ℕ) (xs : ℕ → Assignment) : Type 0 where
  pub window : Window n count xs
  pub starts : 0 < count → Starts n (xs 0)
