-- What is done for some cycles of a net: steps over a table that has a literal for each variable of the net.
use Rattle.std.specs.Prelude.{ℕ, zero, suc, ◌-◌, Bool, true, false, cond, ltb, List, [], ◌∷◌, ◌++◌, Option, Some, None}
use Rattle.std.specs.List.{flat_map}
use Rattle.cnf_form.specs.Cnf.{LitOf}
use Rattle.gate_graph.specs.declared.gate.Gate.{Gate}
use Rattle.bit_net.specs.Net.{NetOf, node_at}
use Rattle.bit_net.specs.Reaching.{early_before, levels, nexts, numbers}
use Rattle.bit_net.specs.declared.node.Node.{Node}
use Rattle.bit_net.specs.declared.node.Node.TheVariants as node
use Rattle.net_unroll.specs.declared.asking.Cycles.{Cycles}

pub data Step : Type 0 where
  -- in this cycle, this variable is a new input
  Input : ℕ → ℕ → Step
  -- the variable is this constant
  Constant : ℕ → Bool → Step
  -- the variable is this gate over the table's literals
  Copy : ℕ → Gate → Step
  -- each variable has the table's literal of this one, as the table was before the first of them
  Move : List (ℕ × LitOf) → Step
  -- the table's literal of this one is assumed
  Assume : LitOf → Step
  -- that of this one is not met
  Pass : LitOf → Step
  -- that of this one, met here first, ends what solves the job
  End : LitOf → Step

-- the variables that cycle t needs, level by level
abbrev pub needed : NetOf → LitOf → Cycles → ℕ → List ℕ
needed n goal c t =
    let goals = goal ∷ n.assumed ∷ [] in
    cond (ltb t c.first) (levels n (n.assumed ∷ []) (nexts n (early_before n goals)) (c.count - t)) (levels n goals [] (c.count - t))

-- a variable in the first cycle
abbrev pub state_step : Bool → ℕ → Option Bool → Step
state_step true v (Some b) = Constant v b
state_step true v None = Input 0 v
state_step false v d = Input 0 v

abbrev pub first_steps : Bool → ℕ → Node → List Step
first_steps start v (node.State s) = state_step start v s.start ∷ []
first_steps start v node.Input = Input 0 v ∷ []
first_steps start v (node.Gate g) = Copy v g ∷ []

-- a variable in a later one, but for states, which are moved first
abbrev pub later_steps : ℕ → ℕ → Node → List Step
later_steps t v (node.State s) = []
later_steps t v node.Input = Input t v ∷ []
later_steps t v (node.Gate g) = Copy v g ∷ []

abbrev pub move_of : ℕ → Node → List (ℕ × LitOf)
move_of v (node.State s) = (v, s.next) ∷ []
move_of v node.Input = []
move_of v (node.Gate g) = []

abbrev pub moves : NetOf → List ℕ → List (ℕ × LitOf)
moves n vs = flat_map (λ v. move_of v (node_at n v)) vs

-- the variables of cycle t
abbrev pub values : NetOf → Cycles → ℕ → List ℕ → List Step
values n c zero vs = flat_map (λ v. first_steps c.start v (node_at n v)) vs
values n c (suc t) vs = Move (moves n vs) ∷ flat_map (λ v. later_steps (suc t) v (node_at n v)) vs

-- what is asked in cycle t
abbrev pub watch : LitOf → Cycles → ℕ → List Step
watch goal c t = cond (ltb t c.first) [] (cond (ltb t c.end) (Pass goal ∷ []) (End goal ∷ Pass goal ∷ []))

abbrev pub cycle : NetOf → LitOf → Cycles → ℕ → List Step
cycle n goal c t = values n c t (needed n goal c t) ++ (Assume n.assumed ∷ watch goal c t)

abbrev pub program : NetOf → LitOf → Cycles → List Step
program n goal c = flat_map (cycle n goal c) (numbers 0 c.count)
