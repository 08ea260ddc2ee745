-- The search for the variables on which literals rest.
use Rattle.std.specs.Prelude.{◌≡◌, ◌⊎◌, ◌↔◌, ℕ, zero, suc, ◌<◌, ◌≤◌, Bool, true, false, ◌||◌, List, [], map, length, ◌++◌, take, Some, All, Contains, slice_get, slice_index_or, count_by, eqb}
use Rattle.std.specs.List.{IsDistinct}
use Rattle.cnf_form.specs.Cnf.{LitOf}
use Rattle.gate_graph.specs.declared.gate.Gate.{Gate}
use Rattle.gate_graph.specs.Folding.{operands}
use Rattle.bit_net.specs.Net.{NetOf, gate_var, state_var}
use Rattle.bit_net.specs.Reaching.{is_one_of, levels, nearer, reached, taken}
use Rattle.bit_net.specs.declared.node.State.{State}
use Rattle.bit_net.specs.declared.node.Node.{Node}
use Rattle.bit_net.specs.declared.node.Node.TheVariants as node

-- whether a variable has a mark
abbrev pub marked : List Bool → ℕ → Bool
marked marks v = slice_index_or marks v false

-- each variable that was found has a mark, and no other
pub record IsSearch (seen : List Bool) (found : List ℕ) : Type 0 where
  pub count : length found ≡ count_by (λ (b : Bool). b) seen
  pub within : All (λ v. (1 < v) × (v < length seen)) found
  pub marks : (v : ℕ) → marked seen v ≡ true → Contains found v
  pub all : (v : ℕ) → Contains found v → marked seen v ≡ true
  pub distinct : IsDistinct eqb found

-- the variables that are read within a cycle
abbrev pub read_by : Node → List ℕ
read_by (node.State s) = []
read_by node.Input = []
read_by (node.Gate g) = map (λ o. o.var) (operands g)

-- of these variables each has been found, but for that which is true, and no others besides those that had been
pub record Visits (vs old new : List ℕ) : Type 0 where
  pub front : (more : List ℕ) × (new ≡ old ++ more)
  pub has : (v : ℕ) → Contains vs v → 1 < v → Contains new v
  pub only : (v : ℕ) → Contains new v → Contains old v ⊎ Contains vs v

-- what the gates among the first `count` of these variables read has been found
abbrev pub IsClosedTo : NetOf → List ℕ → ℕ → Type 0
IsClosedTo n found count = (k : ℕ) (g : Gate) (o : LitOf) → slice_get n.gates k ≡ Some g → Contains (take count found) (gate_var n k) → Contains (operands g) o → 1 < o.var → Contains found o.var

-- where the test passes for a gate, it passes for what the gate reads
abbrev pub HoldsBelow : NetOf → (ℕ → Bool) → Type 0
HoldsBelow n test = (k : ℕ) (g : Gate) (o : LitOf) → slice_get n.gates k ≡ Some g → test (gate_var n k) ≡ true → Contains (operands g) o → 1 < o.var → test o.var ≡ true

-- all that the variables rest on by gates has been found, and nothing else
pub record Descends (n : NetOf) (old new : List ℕ) : Type 0 where
  pub front : (more : List ℕ) × (new ≡ old ++ more)
  pub closed : IsClosedTo n new (length new)
  pub least : (test : ℕ → Bool) → HoldsBelow n test → ((v : ℕ) → Contains old v → test v ≡ true) → (v : ℕ) → Contains new v → test v ≡ true

-- what the states among these variables take next has been found, and nothing else
pub record Takes (n : NetOf) (vs old new : List ℕ) : Type 0 where
  pub front : (more : List ℕ) × (new ≡ old ++ more)
  pub has : (k : ℕ) (s : State) → slice_get n.states k ≡ Some s → Contains vs (state_var k) → 1 < s.next.var → Contains new s.next.var
  pub only : (v : ℕ) → Contains new v → Contains old v ⊎ ((k : ℕ) × (s : State) × (slice_get n.states k ≡ Some s) × Contains vs (state_var k) × (s.next.var ≡ v))

-- what level d begins with
abbrev pub begun : NetOf → List LitOf → List LitOf → ℕ → ℕ → Bool
begun n now before zero v = is_one_of now v
begun n now before (suc d) v = reached n now before d v || (taken 0 n.states (reached n now before d) v || is_one_of before v)

-- The first `end` variables are those of the first d levels, and after them stands what level d begins with.
pub record AtLevel (n : NetOf) (now before : List LitOf) (found : List ℕ) (end d : ℕ) : Type 0 where
  pub inside : end ≤ length found
  pub done : take end found ≡ levels n now before d
  pub closed : IsClosedTo n found end
  pub nearer : (v : ℕ) → Contains (take end found) v ↔ ((1 < v) × (nearer n now before d v ≡ true))
  pub begun : (v : ℕ) → 1 < v → Contains found v ↔ (begun n now before d v ≡ true)
