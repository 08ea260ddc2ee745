-- A design's bits as nodes of graphs, by their places: joined by connects, and resting on each other.
use Rattle.std.specs.Prelude.{◌≡◌, ◌↔◌, ◌⊎◌, ℕ, ◌+◌, ◌<◌, Bool, true, false, List, Option, Some, length, slice_get, Contains}
use Rattle.digraph.specs.Graph.{Graph, HasEdge}
use Rattle.design_core.specs.Asked.{output_of}
use Rattle.design_core.specs.Places.{place_of, places}
use Rattle.design_core.specs.Shape.{CellOf, ConnectOf, DesignOf, IsDeclared}
use Rattle.design_meaning.specs.Meaning.{Chain, IsInit}
use Rattle.design_core.specs.declared.digit.Digit.{Digit}
use Rattle.design_core.specs.declared.digit.Digit.TheVariants.{Free as FreeDigit}
use Rattle.design_meaning.specs.Rests.{IsOnLoop, IsPortBit, IsResetBit}
use Rattle.design_signals.specs.declared.sig_bit.SigBit.{SigBit}
use Rattle.design_signals.specs.declared.sig_bit.SigBit.TheVariants.{Wire, Free}
use Rattle.design_graph.specs.Items.{IsDrivenOnce}
use Rattle.design_graph.specs.Order.{IsRead, IsDriver, IsCellOnLoop}
use Rattle.design_graph.specs.Starts.{IsRegisterOutput, IsRegisterStart}
use Rattle.design_graph.specs.declared.driver.Driver.{Driver}
use Rattle.design_graph.specs.declared.driver.Driver.TheVariants.{Cell, Connect}

-- p and q are the places of bits that stand side by side in two signals
abbrev pub IsPair : DesignOf → List SigBit → List SigBit → ℕ → ℕ → Type 0
IsPair d from to p q =
    (k : ℕ) × (a : SigBit) × (b : SigBit) × (slice_get from k ≡ Some a) × (slice_get to k ≡ Some b) × (p ≡ place_of d a) × (q ≡ place_of d b)

-- a connect drives p from q
abbrev pub IsDown : DesignOf → List ConnectOf → ℕ → ℕ → Type 0
IsDown d connects p q = (i : ℕ) × (j : ConnectOf) × (slice_get connects i ≡ Some j) × IsPair d j.left j.right p q

-- a connect drives q from p
abbrev pub IsUp : DesignOf → List ConnectOf → ℕ → ℕ → Type 0
IsUp d connects p q = (i : ℕ) × (j : ConnectOf) × (slice_get connects i ≡ Some j) × IsPair d j.right j.left p q

-- p is the place of one of the bits
abbrev pub IsPlaceIn : DesignOf → List SigBit → ℕ → Type 0
IsPlaceIn d bits p = (a : SigBit) × Contains bits a × (p ≡ place_of d a)

-- p is the place of a bit on which the cell's output rests
abbrev pub IsReadPlace : DesignOf → CellOf → ℕ → Type 0
IsReadPlace d c p = (a : SigBit) × IsRead c a × (p ≡ place_of d a)

-- p is the place of a bit of a port on which the output rests; of a free digit; of a free bit of the reset value
abbrev pub IsPortPlace : DesignOf → CellOf → ℕ → Type 0
IsPortPlace d c p = (a : SigBit) × IsPortBit c a × (p ≡ place_of d a)

abbrev pub IsDigitPlace : DesignOf → List Digit → ℕ → Type 0
IsDigitPlace d digits p = (n : ℕ) × Contains digits (FreeDigit n) × (p ≡ place_of d (Free n))

abbrev pub IsResetPlace : DesignOf → CellOf → ℕ → Type 0
IsResetPlace d c p = (a : SigBit) × IsResetBit c a × (p ≡ place_of d a)

-- A cell is a node of its own: its output's bits lead to it, and it leads to all that its output rests on.
abbrev pub IsCellEdge : DesignOf → CellOf → ℕ → ℕ → ℕ → Type 0
IsCellEdge d c node p q = (IsPlaceIn d (output_of c) p × (q ≡ node)) ⊎ ((p ≡ node) × IsReadPlace d c q)

-- the cells' nodes stand after the places of bits
abbrev pub IsCellsEdge : DesignOf → List CellOf → ℕ → ℕ → Type 0
IsCellsEdge d cells p q = (i : ℕ) × (c : CellOf) × (slice_get cells i ≡ Some c) × IsCellEdge d c (places d + i) p q

-- the graph of what rests on what
pub record IsRestGraph (d : DesignOf) (g : Graph) : Type 0 where
  pub size : length g ≡ places d + length d.cells
  pub edges : (p q : ℕ) → HasEdge g p q ↔ (IsDown d d.connects p q ⊎ IsCellsEdge d d.cells p q)

-- the graph of what connects join
pub record IsNetGraph (d : DesignOf) (g : Graph) : Type 0 where
  pub size : length g ≡ places d
  pub edges : (p q : ℕ) → HasEdge g p q ↔ (IsDown d d.connects p q ⊎ IsUp d d.connects p q)

-- two bits are one net: chains of connects drive both from one bit
abbrev pub IsOneNet : DesignOf → SigBit → SigBit → Type 0
IsOneNet d a b = (n : ℕ) × (m : ℕ) × (root : SigBit) × Chain d n a root × Chain d m b root

-- bits of one net have one leader
pub record IsNets (d : DesignOf) (leaders : List ℕ) : Type 0 where
  pub size : length leaders ≡ places d
  pub within : (p l : ℕ) → slice_get leaders p ≡ Some l → l < places d
  pub nets : (a b : SigBit) → IsDeclared d.wires d.free a → IsDeclared d.wires d.free b
      → (slice_get leaders (place_of d a) ≡ slice_get leaders (place_of d b)) ↔ IsOneNet d a b

-- which bits and which cells are on a loop
pub record IsLooped (d : DesignOf) (cyclic : List Bool) : Type 0 where
  pub size : length cyclic ≡ places d + length d.cells
  pub bits : (a : SigBit) → IsDeclared d.wires d.free a → (slice_get cyclic (place_of d a) ≡ Some true) ↔ IsOnLoop d a
  pub cells : (i : ℕ) → i < length d.cells → (slice_get cyclic (places d + i) ≡ Some true) ↔ IsCellOnLoop d i

-- the node of a driver
abbrev pub IsNode : DesignOf → Driver → ℕ → Type 0
IsNode d (Cell i) p = p ≡ places d + i
IsNode d (Connect i k) p = (j : ConnectOf) × (a : SigBit) × (slice_get d.connects i ≡ Some j) × (slice_get j.left k ≡ Some a) × (p ≡ place_of d a)

-- each driver stands at its node
pub record IsDriverTable (d : DesignOf) (table : List (Option Driver)) : Type 0 where
  pub size : length table ≡ places d + length d.cells
  pub sound : (p : ℕ) (r : Driver) → slice_get table p ≡ Some (Some r) → IsDriver d r × IsNode d r p
  pub complete : (r : Driver) (p : ℕ) → IsDriver d r → IsNode d r p → slice_get table p ≡ Some (Some r)

-- the first cells, and the bits of the first connects and the first bits of the next
abbrev pub IsPut : ℕ → ℕ → ℕ → Driver → Type 0
IsPut cells connects bits (Cell i) = i < cells
IsPut cells connects bits (Connect i k) = (i < connects) ⊎ ((i ≡ connects) × (k < bits))

-- of the drivers those stand at their nodes
pub record IsTableUpto (d : DesignOf) (cells connects bits : ℕ) (table : List (Option Driver)) : Type 0 where
  pub size : length table ≡ places d + length d.cells
  pub sound : (p : ℕ) (r : Driver) → slice_get table p ≡ Some (Some r) → IsDriver d r × IsNode d r p × IsPut cells connects bits r
  pub complete : (r : Driver) (p : ℕ) → IsDriver d r → IsNode d r p → IsPut cells connects bits r → slice_get table p ≡ Some (Some r)

-- the drivers at the first t of these nodes, in their order
pub record IsEmitted (table : List (Option Driver)) (nodes : List ℕ) (t : ℕ) (order : List Driver) : Type 0 where
  pub from : (m : ℕ) (r : Driver) → slice_get order m ≡ Some r → (j : ℕ) × (p : ℕ) × (j < t) × (slice_get nodes j ≡ Some p) × (slice_get table p ≡ Some (Some r))
  pub all : (j p : ℕ) (r : Driver) → j < t → slice_get nodes j ≡ Some p → slice_get table p ≡ Some (Some r) → (m : ℕ) × (slice_get order m ≡ Some r)
  pub rising : (m n : ℕ) (r s : Driver) → m < n → slice_get order m ≡ Some r → slice_get order n ≡ Some s
      → (j : ℕ) × (k : ℕ) × (p : ℕ) × (q : ℕ) × (j < k) × (slice_get nodes j ≡ Some p) × (slice_get table p ≡ Some (Some r))
      × (slice_get nodes k ≡ Some q) × (slice_get table q ≡ Some (Some s))

-- some bit of wire w is on a loop
abbrev pub IsWireOnLoop : DesignOf → ℕ → Type 0
IsWireOnLoop d w = (b : ℕ) × IsOnLoop d (Wire w b)

-- besides those that were marked, what Q says is marked
pub record Marks (old : List Bool) (Q : ℕ → Type 0) (new : List Bool) : Type 0 where
  pub size : length new ≡ length old
  pub kept : (p : ℕ) → slice_get old p ≡ Some true → slice_get new p ≡ Some true
  pub added : (p : ℕ) → Q p → slice_get new p ≡ Some true
  pub only : (p : ℕ) → slice_get new p ≡ Some true → (slice_get old p ≡ Some true) ⊎ Q p

-- the places of registers' bits are marked
pub record IsRegisterMarks (d : DesignOf) (marks : List Bool) : Type 0 where
  pub size : length marks ≡ places d
  pub registers : (a : SigBit) → IsDeclared d.wires d.free a → (slice_get marks (place_of d a) ≡ Some true) ↔ IsRegisterOutput d a

-- the leaders are marked of the bits that have this start digit
abbrev pub IsDigitAt : DesignOf → List ℕ → Bool → ℕ → Type 0
IsDigitAt d leaders x l = (w : ℕ) × (b : ℕ) × IsInit d w b x × (slice_get leaders (place_of d (Wire w b)) ≡ Some l)

pub record IsDigitMarks (d : DesignOf) (leaders : List ℕ) (x : Bool) (marks : List Bool) : Type 0 where
  pub size : length marks ≡ places d
  pub digits : (l : ℕ) → (slice_get marks l ≡ Some true) ↔ IsDigitAt d leaders x l

-- what is marked of start digits, in a design without two drivers
pub record IsStartMarks (d : DesignOf) (leaders : List ℕ) (registers low high : List Bool) : Type 0 where
  pub once : IsDrivenOnce d
  pub nets : IsNets d leaders
  pub outputs : IsRegisterMarks d registers
  pub zeros : IsDigitMarks d leaders false low
  pub ones : IsDigitMarks d leaders true high

-- where a bit has the start digits 0 and 1 it is the 0
pub record IsStartOf (d : DesignOf) (a : SigBit) (start : Option Bool) : Type 0 where
  pub sound : (x : Bool) → start ≡ Some x → IsRegisterStart d a x
  pub low : IsRegisterStart d a false → start ≡ Some false
  pub high : IsRegisterStart d a true → (IsRegisterStart d a false → ⊥) → start ≡ Some true
