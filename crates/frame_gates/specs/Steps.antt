-- A table that is being filled.
use Rattle.std.specs.Prelude.{◌≡◌, ℕ, suc, true, false, List, Some, slice_get}
use Rattle.cnf_form.specs.Cnf.{LitOf, Assignment, Satisfies}
use Rattle.gate_graph.specs.Circuit.{GatesOf, Means}
use Rattle.model_core.specs.Shape.{NodeOf, ModelOf, states}
use Rattle.model_core.specs.Meaning.{row_at, row_of_node}
use Rattle.frame_gates.specs.Frames.{IsTable, cycle_of, lit_at, lits_at}

-- a literal for each place, those of the constants being the constants
pub record IsFirstTable (m : ModelOf) (g : GatesOf) (table : List LitOf) : Type 0 where
  pub is_table : IsTable m g table
  pub zero : Means g (lit_at table m.zero) (λ _. false)
  pub one : Means g (lit_at table (suc m.zero)) (λ _. true)

-- A table whose state bits and inputs have the literals of two rows, and whose nodes hold; the constants are as they were.
pub record IsFilled (m : ModelOf) (g : GatesOf) (bits ins before table : List LitOf) : Type 0 where
  pub is_table : IsTable m g table
  pub zero : lit_at table m.zero ≡ lit_at before m.zero
  pub one : lit_at table (suc m.zero) ≡ lit_at before (suc m.zero)
  pub nodes : (i : ℕ) (node : NodeOf) → slice_get m.nodes i ≡ Some node → (x : Assignment) → Satisfies x g.formula.clauses →
      row_at (cycle_of table x) node.y ≡ row_of_node (cycle_of table x) node
  pub states : lits_at table (states m) ≡ bits
  pub inputs : lits_at table m.inputs ≡ ins
