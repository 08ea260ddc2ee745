-- A frame of a model as gates: a table that has one literal for each place.
use Rattle.std.specs.Prelude.{◌≡◌, ◌↔◌, ℕ, true, false, List, length, map, All, slice_index_or}
use Rattle.cnf_form.specs.Cnf.{LitOf, Assignment, Satisfies, LitWithin, lit_in}
use Rattle.gate_graph.specs.Circuit.{GatesOf}
use Rattle.gate_graph.specs.Folding.{constant}
use Rattle.model_core.specs.Shape.{ModelOf, states}
use Rattle.model_core.specs.Meaning.{Cycle, Frame}

-- the literal at a place
abbrev pub lit_at : List LitOf → ℕ → LitOf
lit_at table p = slice_index_or table p (constant false)

abbrev pub lits_at : List LitOf → List ℕ → List LitOf
lits_at table places = map (lit_at table) places

-- what each place has where its literal has the bit that the assignment gives it
abbrev pub cycle_of : List LitOf → Assignment → Cycle
cycle_of table x p = lit_in x (lit_at table p)

-- a literal for each place
pub record IsTable (m : ModelOf) (g : GatesOf) (table : List LitOf) : Type 0 where
  pub size : length table ≡ m.size
  pub within : All (LitWithin g.formula.vars) table

-- the literal is true exactly where this holds
pub record Tells (g : GatesOf) (holds : Assignment → Type 0) (l : LitOf) : Type 0 where
  pub within : LitWithin g.formula.vars l
  pub means : (x : Assignment) → Satisfies x g.formula.clauses → (lit_in x l ≡ true) ↔ holds x

-- A frame over literals that are there: the state bits have those of a row, and the inputs those of another.
pub record IsFrameOver (m : ModelOf) (g : GatesOf) (bits ins table : List LitOf) : Type 0 where
  pub is_table : IsTable m g table
  pub states : lits_at table (states m) ≡ bits
  pub inputs : lits_at table m.inputs ≡ ins
  pub frame : (x : Assignment) → Satisfies x g.formula.clauses → Frame m (cycle_of table x)
