-- A directed graph, as the row of each node's successors; nodes are numbered from 0.
use Rattle.std.specs.Prelude.{◌≡◌, ◌↔◌, ◌⊎◌, ℕ, zero, suc, ◌<◌, Bool, true, List, Some, Contains, slice_get, length, Vec}
use Rattle.std.specs.Global.{Global}

abbrev pub Graph : Type 0
Graph = List (Vec ℕ Global)

-- entry k of a's row is b
abbrev pub IsEntry : Graph → ℕ → ℕ → ℕ → Type 0
IsEntry g a k b = (row : Vec ℕ Global) × (slice_get g a ≡ Some row) × (slice_get row.items k ≡ Some b)

abbrev pub HasEdge : Graph → ℕ → ℕ → Type 0
HasEdge g a b = (k : ℕ) × IsEntry g a k b

-- each successor is a node
abbrev pub IsGraph : Graph → Type 0
IsGraph g = (a b : ℕ) → HasEdge g a b → b < length g

-- n edges lead from a to b
abbrev pub Walk : Graph → ℕ → ℕ → ℕ → Type 0
Walk g zero a b = a ≡ b
Walk g (suc n) a b = (c : ℕ) × HasEdge g a c × Walk g n c b

abbrev pub Reaches : Graph → ℕ → ℕ → Type 0
Reaches g a b = (n : ℕ) × Walk g n a b

-- an edge of a leads to a node from which a is reached
abbrev pub IsOnCycle : Graph → ℕ → Type 0
IsOnCycle g a = (b : ℕ) × HasEdge g a b × Reaches g b a

-- h has the nodes of g, and besides the edges of g those of R
pub record Extends (g : Graph) (R : ℕ → ℕ → Type 0) (h : Graph) : Type 0 where
  pub size : length h ≡ length g
  pub kept : (a b : ℕ) → HasEdge g a b → HasEdge h a b
  pub added : (a b : ℕ) → R a b → HasEdge h a b
  pub only : (a b : ℕ) → HasEdge h a b → HasEdge g a b ⊎ R a b

-- Each node stands in the order exactly once, and what a node that is on no cycle leads to stands before it. The nodes on a cycle are
-- marked. Two nodes have one leader where each reaches the other. A node and its leader reach each other.
pub record IsSorted (g : Graph) (order : List ℕ) (cyclic : List Bool) (leaders : List ℕ) : Type 0 where
  pub nodes : (k a : ℕ) → slice_get order k ≡ Some a → a < length g
  pub all : (a : ℕ) → a < length g → Contains order a
  pub once : (k l a : ℕ) → slice_get order k ≡ Some a → slice_get order l ≡ Some a → k ≡ l
  pub earlier : (k l a b : ℕ) → slice_get order k ≡ Some a → slice_get order l ≡ Some b → HasEdge g a b → (IsOnCycle g a → ⊥) → l < k
  pub marked : length cyclic ≡ length g
  pub cycles : (a : ℕ) → a < length g → (slice_get cyclic a ≡ Some true) ↔ IsOnCycle g a
  pub led : length leaders ≡ length g
  pub led_within : (a l : ℕ) → slice_get leaders a ≡ Some l → l < length g
  pub led_own : (a l : ℕ) → slice_get leaders a ≡ Some l → Reaches g a l × Reaches g l a
  pub parts : (a b : ℕ) → a < length g → b < length g → (slice_get leaders a ≡ slice_get leaders b) ↔ (Reaches g a b × Reaches g b a)
