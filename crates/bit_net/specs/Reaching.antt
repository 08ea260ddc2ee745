-- On which variables literals rest, by register steps.
use Rattle.std.specs.Prelude.{◌≡◌, Some, slice_get, Contains, ℕ, zero, suc, ◌+◌, ◌-◌, Bool, true, false, not, cond, ltb, ◌&&◌, ◌||◌, List, [], ◌∷◌, length, eqb}
use Rattle.std.specs.List.{filter, flat_map, list_any}
use Rattle.cnf_form.specs.Cnf.{LitOf}
use Rattle.gate_graph.specs.declared.gate.Gate.{Gate}
use Rattle.gate_graph.specs.Folding.{operands}
use Rattle.gate_graph.specs.Kept.{lit_of}
use Rattle.bit_net.specs.Net.{NetOf, gate_var, node_at, state_var}
use Rattle.bit_net.specs.declared.node.State.{State}
use Rattle.bit_net.specs.declared.node.Node.{Node}
use Rattle.bit_net.specs.declared.node.Node.TheVariants as node

-- the variable is that of one of the literals
abbrev pub is_one_of : List LitOf → ℕ → Bool
is_one_of lits v = list_any (λ l. eqb l.var v) lits

-- this many numbers from the first on
abbrev pub numbers : ℕ → ℕ → List ℕ
numbers first zero = []
numbers first (suc count) = first ∷ numbers (suc first) count

-- gates with their literals, whose variables go up from the first
abbrev pub numbered : ℕ → List Gate → List (Gate × LitOf)
numbered first [] = []
numbered first (g ∷ gates) = (g, lit_of first true) ∷ numbered (suc first) gates

-- a net's gates with their literals
abbrev pub entries : NetOf → List (Gate × LitOf)
entries n = numbered (gate_var n 0) n.gates

-- the variables for which the test passes, and those on which they rest by these gates: read from the last gate to the first
abbrev pub spread : List (Gate × LitOf) → (ℕ → Bool) → ℕ → Bool
spread [] test v = test v
spread (e ∷ es) test v = spread es test v || (spread es test e.1.var && is_one_of (operands e.0) v)

-- what states take next, from state k on, for which the test passes
abbrev pub taken : ℕ → List State → (ℕ → Bool) → ℕ → Bool
taken k [] test v = false
taken k (s ∷ states) test v = (test (state_var k) && eqb s.next.var v) || taken (suc k) states test v

abbrev pub next_of : Node → List LitOf
next_of (node.State s) = s.next ∷ []
next_of node.Input = []
next_of (node.Gate g) = []

-- what literals rest on within this many register steps: those of `now`, and one step back those of `before` too
abbrev pub reached : NetOf → List LitOf → List LitOf → ℕ → ℕ → Bool
reached n now before zero = spread (entries n) (is_one_of now)
reached n now before (suc d) = spread (entries n) (λ v. reached n now before d v || (taken 0 n.states (reached n now before d) v || is_one_of before v))

-- The test passes for the literals, and where it passes for a gate, for what the gate reads, and where for a state, one step further for what
-- the state takes next.
pub record IsReach (n : NetOf) (now before : List LitOf) (test : ℕ → ℕ → Bool) : Type 0 where
  pub asked : (d : ℕ) (l : LitOf) → Contains now l → test d l.var ≡ true
  pub asked_before : (d : ℕ) (l : LitOf) → Contains before l → test (suc d) l.var ≡ true
  pub gates : (d k : ℕ) (g : Gate) (o : LitOf) → slice_get n.gates k ≡ Some g → test d (gate_var n k) ≡ true → Contains (operands g) o → test d o.var ≡ true
  pub states : (d k : ℕ) (s : State) → slice_get n.states k ≡ Some s → test d (state_var k) ≡ true → test (suc d) s.next.var ≡ true
  pub further : (d v : ℕ) → test d v ≡ true → test (suc d) v ≡ true

-- the same by fewer register steps than that
abbrev pub nearer : NetOf → List LitOf → List LitOf → ℕ → ℕ → Bool
nearer n now before zero v = false
nearer n now before (suc d) v = reached n now before d v

-- the variable is reached by this many register steps, and by no fewer
abbrev pub is_at : NetOf → List LitOf → List LitOf → ℕ → ℕ → Bool
is_at n now before d v = reached n now before d v && not (nearer n now before d v)

-- the variables of a level, in rising order, without that which is true
abbrev pub level : NetOf → List LitOf → List LitOf → ℕ → List ℕ
level n now before d = filter (is_at n now before d) (numbers 2 (length n.states + n.inputs + length n.gates))

-- the variables of the first levels, one level after the other
abbrev pub levels : NetOf → List LitOf → List LitOf → ℕ → List ℕ
levels n now before count = flat_map (level n now before) (numbers 0 count)

-- what states among these variables take next
abbrev pub nexts : NetOf → List ℕ → List LitOf
nexts n vs = flat_map (λ v. next_of (node_at n v)) vs

-- Of `count` cycles each needs what its last literals rest on within the cycles that are left. Up to the cycle `first` the literals `asks`
-- are asked for alone, from there on `goals` too: before it, these count by what they rest on through a register.
abbrev pub early_before : NetOf → List LitOf → List ℕ
early_before n goals = level n goals [] 0

abbrev pub is_needed : NetOf → List LitOf → List LitOf → ℕ → ℕ → ℕ → ℕ → Bool
is_needed n goals asks first count t v =
    cond (ltb t first) (nearer n asks (nexts n (early_before n goals)) (count - t) v) (nearer n goals [] (count - t) v)
