-- Rows of literals that are read from a table and written to it.
use Rattle.std.specs.Prelude.{◌≡◌, ℕ, ◌<◌, Bool, not, ◌&&◌, List, length, All, Contains, Some, slice_get}
use Rattle.cnf_form.specs.Cnf.{LitOf, Assignment, Satisfies, LitWithin}
use Rattle.gate_graph.specs.Circuit.{GatesOf}
use Rattle.model_core.specs.Shape.{NodeOf, ModelOf, sources}
use Rattle.model_core.specs.Meaning.{Cycle, row_at, row_of_node}
use Rattle.model_core.specs.declared.model.Statement.{Statement}
use Rattle.frame_gates.specs.Frames.{IsTable, cycle_of, lit_at}

-- the first n places of a list have the literals of a row, all other places what they had
pub record IsWritten (places : List ℕ) (row : List LitOf) (n : ℕ) (old new : List LitOf) : Type 0 where
  pub size : length new ≡ length old
  pub within : (vars : ℕ) → All (LitWithin vars) row → All (LitWithin vars) old → All (LitWithin vars) new
  pub values : (k p : ℕ) → k < n → slice_get places k ≡ Some p → lit_at new p ≡ lit_at row k
  pub others : (p : ℕ) → ((k : ℕ) → k < n → slice_get places k ≡ Some p → ⊥) → lit_at new p ≡ lit_at old p

-- a node's output has what the node does with its operands, all other places what they had
pub record IsGiven (g : GatesOf) (n : NodeOf) (old new : List LitOf) : Type 0 where
  pub size : length new ≡ length old
  pub within : All (LitWithin g.formula.vars) new
  pub value : (x : Assignment) → Satisfies x g.formula.clauses → row_at (cycle_of new x) n.y ≡ row_of_node (cycle_of old x) n
  pub others : (p : ℕ) → (Contains n.y p → ⊥) → lit_at new p ≡ lit_at old p

-- the first n nodes' outputs have what the nodes do with their operands, and the sources what they had
pub record AreGiven (m : ModelOf) (n : ℕ) (g : GatesOf) (old new : List LitOf) : Type 0 where
  pub table : IsTable m g new
  pub nodes : (i : ℕ) (node : NodeOf) → i < n → slice_get m.nodes i ≡ Some node → (x : Assignment) → Satisfies x g.formula.clauses →
      row_at (cycle_of new x) node.y ≡ row_of_node (cycle_of new x) node
  pub sources : (p : ℕ) → Contains (sources m) p → lit_at new p ≡ lit_at old p

-- the statement has not EN 1 and A 0
abbrev pub holds : Cycle → Statement → Bool
holds c s = not (c s.en && not (c s.a))
