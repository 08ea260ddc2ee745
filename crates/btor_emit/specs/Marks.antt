-- Marks of places.
use Rattle.std.specs.Prelude.{◌≡◌, ◌⊎◌, ◌↔◌, ℕ, Bool, true, false, List, Some, Contains, length, slice_get, slice_index_or}
use Rattle.std.specs.List.{list_any}
use Rattle.model_core.specs.Shape.{NodeOf, reads}
use Rattle.model_core.specs.declared.model.Statement.{Statement}
use Rattle.model_core.specs.declared.op.Op.TheVariants as op

abbrev pub IsMarked : List Bool → ℕ → Type 0
IsMarked marks p = slice_index_or marks p false ≡ true

-- whether a place of the row is marked
abbrev pub has_mark : List Bool → List ℕ → Bool
has_mark marks row = list_any (λ p. slice_index_or marks p false) row

-- the places of which P holds were marked, and no others
pub record Marks (old new : List Bool) (P : ℕ → Type 0) : Type 0 where
  pub size : length new ≡ length old
  pub each : (p : ℕ) → IsMarked new p ↔ (IsMarked old p ⊎ P p)

-- the place is one of a statement's
abbrev pub IsOfStatement : List Statement → ℕ → Type 0
IsOfStatement statements p = (s : Statement) × Contains statements s × ((p ≡ s.a) ⊎ (p ≡ s.en))

-- the place's copy is marked
abbrev pub HasMarkedCopy : List Bool → List ℕ → List ℕ → ℕ → Type 0
HasMarkedCopy marks places copies p = (k q : ℕ) × (slice_get places k ≡ Some p) × (slice_get copies k ≡ Some q) × IsMarked marks q

-- what a node marks
abbrev pub IsNodeMarked : List Bool → NodeOf → ℕ → Type 0
IsNodeMarked marks n p = ((n.op ≡ op.Copy) × HasMarkedCopy marks n.a n.y p) ⊎ ((n.op ≡ op.Copy → ⊥) × Contains (reads n) p)
