-- How the net of a model is made: the gates of a cycle.
use Rattle.std.specs.Prelude.{◌≡◌, ◌≢◌, ℕ, suc, ◌+◌, ◌<◌, ◌≤◌, true, List, [], ◌++◌, length, map, Option, Some, None, slice_get, All, Contains}
use Rattle.cnf_form.specs.Cnf.{LitOf, negate}
use Rattle.gate_graph.specs.declared.gate.Gate.{Gate}
use Rattle.gate_graph.specs.Circuit.{Continues, GatesOf}
use Rattle.gate_graph.specs.Kept.{lit_of}
use Rattle.gate_rows.specs.Literals.{MeansRow}
use Rattle.model_core.specs.Shape.{ModelOf, states}
use Rattle.model_core.specs.Meaning.{Assumed, Broken, Reached, next_states}
use Rattle.bit_net.specs.Reaching.{numbers}
use Rattle.frame_gates.specs.Frames.{IsFrameOver, Tells, cycle_of}

-- the literals of this many variables from the first on
abbrev pub row_from : ℕ → ℕ → List LitOf
row_from first count = map (λ v. lit_of v true) (numbers first count)

-- as many inputs more, which are the next variables
pub record IsFreeRow (old new : GatesOf) (count : ℕ) (lits : List LitOf) : Type 0 where
  pub continues : Continues old new
  pub vars : new.formula.vars ≡ old.formula.vars + count
  pub inputs : new.inputs ≡ old.inputs ++ numbers (suc old.formula.vars) count
  pub row : lits ≡ row_from (suc old.formula.vars) count

-- the literal that no assertion is broken, if there is an assertion
abbrev pub TellsAsserted : ModelOf → GatesOf → List LitOf → Option LitOf → Type 0
TellsAsserted m g table None = m.asserts ≡ []
TellsAsserted m g table (Some l) = (m.asserts ≢ []) × Tells g (λ x. (k : ℕ) × Broken m (cycle_of table x) k) (negate l)

-- the literals of the first cover statements
pub record TellCovers (m : ModelOf) (g : GatesOf) (table : List LitOf) (count : ℕ) (covers : List LitOf) : Type 0 where
  pub size : length covers ≡ count
  pub each : (k : ℕ) (l : LitOf) → slice_get covers k ≡ Some l → Tells g (λ x. Reached m (cycle_of table x) k) l

-- the gates of a cycle over the variables of its state bits and inputs, and what they say of it
pub record IsCycle (m : ModelOf) (g : GatesOf) (next : List LitOf) (asserted : Option LitOf) (assumed : LitOf) (covers : List LitOf) : Type 0 where
  pub table : List LitOf
  pub inputs : g.inputs ≡ numbers 2 (length (states m) + length m.inputs)
  pub frame : IsFrameOver m g (row_from 2 (length (states m))) (row_from (2 + length (states m)) (length m.inputs)) table
  pub takes : MeansRow g (λ x. next_states m (cycle_of table x)) next
  pub breaks : TellsAsserted m g table asserted
  pub assumes : Tells g (λ x. Assumed m (cycle_of table x)) assumed
  pub reaches : TellCovers m g table (length m.covers) covers

-- the gates in the order of their variables, which are as many from the first on
pub record AreInOrder (kept : List (Gate × LitOf)) (first count : ℕ) (gates : List Gate) : Type 0 where
  pub size : length gates ≡ count
  pub each : (k : ℕ) (g : Gate) → slice_get gates k ≡ Some g → Contains kept (g, lit_of (first + k) true)

-- each variable from the first on has a gate, and each gate is of one of them
pub record HasEach (kept : List (Gate × LitOf)) (first count : ℕ) : Type 0 where
  pub each : (k : ℕ) → k < count → (g : Gate) × Contains kept (g, lit_of (first + k) true)
  pub within : All (λ e. (first ≤ e.1.var) × (e.1.var < first + count)) kept
  pub plain : All (λ e. e.1 ≡ lit_of e.1.var true) kept
