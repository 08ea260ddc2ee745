-- How the cone is found: places are marked, and each that is marked is visited once.
use Rattle.std.specs.Prelude.{◌≡◌, ◌⊎◌, ◌+◌, ◌≤◌, ◌<◌, ℕ, Bool, true, not, List, Some, slice_get, length, Contains}
use Rattle.std.specs.List.{filter}
use Rattle.model_core.specs.Shape.{ModelOf, NodeOf, RegisterOf, reads}
use Rattle.model_core.specs.declared.model.Statement.{Statement}
use Rattle.model_cone.specs.declared.asked.Asked.{Asked}
use Rattle.model_cone.specs.declared.givers.Giver.{Giver}
use Rattle.model_cone.specs.declared.givers.Giver.TheVariants.{Node, Bit, Other}
use Rattle.model_cone.specs.Cone.{Decides, IsAsked, IsInCone, IsRoot, RestsOn}
use Rattle.model_cone.specs.Slice.{kept_by}

-- for each place the node that gives it, or the register of which it is a bit, and which
pub record AreGivers (m : ModelOf) (givers : List Giver) : Type 0 where
  pub size : length givers ≡ m.size
  pub node : (i : ℕ) (n : NodeOf) (p : ℕ) → slice_get m.nodes i ≡ Some n → Contains n.y p → slice_get givers p ≡ Some (Node i)
  pub bit : (i k : ℕ) (r : RegisterOf) (p : ℕ) → slice_get m.registers i ≡ Some r → slice_get r.q k ≡ Some p → slice_get givers p ≡ Some (Bit i k)
  pub from_node : (i p : ℕ) → slice_get givers p ≡ Some (Node i) → (n : NodeOf) × (slice_get m.nodes i ≡ Some n) × Contains n.y p
  pub from_bit : (i k p : ℕ) → slice_get givers p ≡ Some (Bit i k) → (r : RegisterOf) × (slice_get m.registers i ≡ Some r) × (slice_get r.q k ≡ Some p)

-- the givers of the places of this many nodes and registers
pub record AreGiversTo (m : ModelOf) (nodes registers : ℕ) (givers : List Giver) : Type 0 where
  pub size : length givers ≡ m.size
  pub node : (i : ℕ) (n : NodeOf) (p : ℕ) → i < nodes → slice_get m.nodes i ≡ Some n → Contains n.y p → slice_get givers p ≡ Some (Node i)
  pub bit : (i k : ℕ) (r : RegisterOf) (p : ℕ) → i < registers → slice_get m.registers i ≡ Some r → slice_get r.q k ≡ Some p → slice_get givers p ≡ Some (Bit i k)
  pub from_node : (i p : ℕ) → slice_get givers p ≡ Some (Node i) → (n : NodeOf) × (slice_get m.nodes i ≡ Some n) × Contains n.y p
  pub from_bit : (i k p : ℕ) → slice_get givers p ≡ Some (Bit i k) → (r : RegisterOf) × (slice_get m.registers i ≡ Some r) × (slice_get r.q k ≡ Some p)

-- at each of these places stands the giver of one that it is, elsewhere what stood before
pub record IsGiven (places : List ℕ) (giver : ℕ → Giver) (old new : List Giver) : Type 0 where
  pub size : length new ≡ length old
  pub at : (p : ℕ) → ((k : ℕ) × (slice_get places k ≡ Some p) × (slice_get new p ≡ Some (giver k))) ⊎ ((Contains places p → ⊥) × (slice_get new p ≡ slice_get old p))

-- the places on which what a giver gives rests
abbrev pub IsReadBy : ModelOf → Giver → ℕ → Type 0
IsReadBy m (Node i) q = (n : NodeOf) × (slice_get m.nodes i ≡ Some n) × Contains (reads n) q
IsReadBy m (Bit i k) q = (r : RegisterOf) × (slice_get m.registers i ≡ Some r) × Decides r k q
IsReadBy m Other q = ⊥

-- the giver is of the model
abbrev pub IsGiverOf : ModelOf → Giver → Type 0
IsGiverOf m (Node i) = i < length m.nodes
IsGiverOf m (Bit i k) = (r : RegisterOf) × (slice_get m.registers i ≡ Some r) × (k < length r.q)
IsGiverOf m Other = Unit {0}

abbrev pub IsPlaceOf : List Statement → ℕ → Type 0
IsPlaceOf statements p = (s : Statement) × Contains statements s × ((p ≡ s.a) ⊎ (p ≡ s.en))

-- the places of the statements that are asked
abbrev pub IsAskedPlace : ModelOf → Asked → ℕ → Type 0
IsAskedPlace m asked p = (s : Statement) × IsAsked m asked s × ((p ≡ s.a) ⊎ (p ≡ s.en))

-- how many places have no mark, and how many are to be visited
abbrev pub work : List Bool → List ℕ → ℕ
work marks stack = length (filter not marks) + length stack

-- what P says of was marked too, and waits to be visited where it is newly marked
pub record Spreads (P : ℕ → Type 0) (marks : List Bool) (stack : List ℕ) (more : List Bool) (waiting : List ℕ) : Type 0 where
  pub size : length more ≡ length marks
  pub kept : (p : ℕ) → kept_by marks p ≡ true → kept_by more p ≡ true
  pub all : (p : ℕ) → P p → kept_by more p ≡ true
  pub only : (p : ℕ) → kept_by more p ≡ true → (kept_by marks p ≡ true) ⊎ P p
  pub waits : (p : ℕ) → Contains stack p → Contains waiting p
  pub fresh : (p : ℕ) → kept_by more p ≡ true → (kept_by marks p ≡ true) ⊎ Contains waiting p
  pub marked : (p : ℕ) → Contains waiting p → Contains stack p ⊎ (kept_by more p ≡ true)
  pub less : work more waiting ≤ work marks stack

-- what is marked is in the cone, and what it rests on is marked, but for what is to be visited
pub record IsSpread (m : ModelOf) (asked : Asked) (marks : List Bool) (stack : List ℕ) : Type 0 where
  pub size : length marks ≡ m.size
  pub sound : (p : ℕ) → kept_by marks p ≡ true → IsInCone m asked p
  pub stacked : (p : ℕ) → Contains stack p → kept_by marks p ≡ true
  pub roots : (p : ℕ) → IsRoot m asked p → kept_by marks p ≡ true
  pub closed : (p q : ℕ) → kept_by marks p ≡ true → RestsOn m p q → Contains stack p ⊎ (kept_by marks q ≡ true)
