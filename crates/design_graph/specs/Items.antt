-- The cells and connects of a design in file order, and the bits that they drive.
use Rattle.std.specs.Prelude.{◌≡◌, ◌⊎◌, ℕ, ◌+◌, ◌<◌, ◌≤◌, Bool, true, List, Some, length, slice_get, IsTrue}
use Rattle.design_core.specs.Asked.{output_of}
use Rattle.design_core.specs.Places.{place_of}
use Rattle.design_core.specs.Shape.{WireOf, CellOf, ConnectOf, DesignOf}
use Rattle.design_signals.specs.declared.sig_bit.SigBit.{SigBit}
use Rattle.design_signals.specs.declared.sig_bit.SigBit.TheVariants.{Wire, Const, Free}
use Rattle.design_graph.specs.declared.item.Item.{Item}
use Rattle.design_graph.specs.declared.item.Item.TheVariants.{Cell, Connect}

-- the cell or connect is there
abbrev pub IsItem : DesignOf → Item → Type 0
IsItem d (Cell i) = (c : CellOf) × (slice_get d.cells i ≡ Some c)
IsItem d (Connect k) = (j : ConnectOf) × (slice_get d.connects k ≡ Some j)

-- one stands before the other in the file
abbrev pub Precedes : DesignOf → Item → Item → Type 0
Precedes d (Cell i) (Cell l) = i < l
Precedes d (Cell i) (Connect k) = (j : ConnectOf) × (slice_get d.connects k ≡ Some j) × (i < j.cells_before)
Precedes d (Connect k) (Cell i) = (j : ConnectOf) × (slice_get d.connects k ≡ Some j) × (j.cells_before ≤ i)
Precedes d (Connect k) (Connect l) = k < l

-- bit k of what a cell or connect drives is a
abbrev pub DrivesBit : DesignOf → Item → ℕ → SigBit → Type 0
DrivesBit d (Cell i) k a = (c : CellOf) × (slice_get d.cells i ≡ Some c) × (slice_get (output_of c) k ≡ Some a)
DrivesBit d (Connect i) k a = (j : ConnectOf) × (slice_get d.connects i ≡ Some j) × (slice_get j.left k ≡ Some a)

-- bit l of what f drives stands before bit k of what e drives
abbrev pub PrecedesBit : DesignOf → Item → ℕ → Item → ℕ → Type 0
PrecedesBit d f l e k = Precedes d f e ⊎ ((f ≡ e) × (l < k))

-- a bit of an `input` wire
abbrev pub IsInput : DesignOf → SigBit → Type 0
IsInput d (Wire w b) = (x : WireOf) × (slice_get d.wires w ≡ Some x) × IsTrue x.input
IsInput d (Const b) = ⊥
IsInput d (Free n) = ⊥

-- a constant or a free bit
abbrev pub IsNoWire : SigBit → Type 0
IsNoWire (Wire w b) = ⊥
IsNoWire (Const b) = Unit {0}
IsNoWire (Free n) = Unit {0}

-- the bit a is driven before bit k of what e drives
abbrev pub IsDrivenBefore : DesignOf → Item → ℕ → SigBit → Type 0
IsDrivenBefore d e k a = (f : Item) × (l : ℕ) × DrivesBit d f l a × PrecedesBit d f l e k

-- bit k of what e drives must not be driven there: it was driven before, is an input, or is no wire's bit
abbrev pub IsDrivenWrongly : DesignOf → Item → ℕ → Type 0
IsDrivenWrongly d e k = (a : SigBit) × DrivesBit d e k a × (IsDrivenBefore d e k a ⊎ (IsInput d a ⊎ IsNoWire a))

-- no bit is driven wrongly
abbrev pub IsDrivenOnce : DesignOf → Type 0
IsDrivenOnce d = (e : Item) (k : ℕ) → IsDrivenWrongly d e k → ⊥

-- bit k of what e drives is a, the first that is driven wrongly
pub record IsFirstWrong (d : DesignOf) (e : Item) (a : SigBit) : Type 0 where
  pub place : ℕ
  pub drives : DrivesBit d e place a
  pub wrong : IsDrivenWrongly d e place
  pub first : (f : Item) (l : ℕ) → PrecedesBit d f l e place → IsDrivenWrongly d f l → ⊥

-- the first cells and connects are the first of the file: each connect after them stands after those cells, each of them before the others
pub record IsCut (d : DesignOf) (cells connects : ℕ) : Type 0 where
  pub cells_there : cells ≤ length d.cells
  pub connects_there : connects ≤ length d.connects
  pub behind : (k : ℕ) (j : ConnectOf) → connects ≤ k → slice_get d.connects k ≡ Some j → cells ≤ j.cells_before
  pub before : (k : ℕ) (j : ConnectOf) → k < connects → slice_get d.connects k ≡ Some j → j.cells_before ≤ cells

-- the item is one of the first cells and connects
abbrev pub IsPassed : ℕ → ℕ → Item → Type 0
IsPassed cells connects (Cell i) = i < cells
IsPassed cells connects (Connect k) = k < connects

-- the item comes next in the file
abbrev pub IsNext : DesignOf → ℕ → ℕ → Item → Type 0
IsNext d cells connects (Cell i) = (i ≡ cells) × IsCut d (cells + 1) connects
IsNext d cells connects (Connect k) = (k ≡ connects) × IsCut d cells (connects + 1)

-- bit k of these must not be driven: its place is taken, it stands there before, it is an input, or no wire's bit
abbrev pub IsBadAt : DesignOf → List Bool → List SigBit → ℕ → Type 0
IsBadAt d taken bits k =
    (a : SigBit) × (slice_get bits k ≡ Some a)
    × ((slice_get taken (place_of d a) ≡ Some true) ⊎ (((l : ℕ) × (l < k) × (slice_get bits l ≡ Some a)) ⊎ (IsInput d a ⊎ IsNoWire a)))

-- the first of these bits that must not be driven
abbrev pub IsFirstBad : DesignOf → List Bool → List SigBit → SigBit → Type 0
IsFirstBad d taken bits a = (k : ℕ) × (slice_get bits k ≡ Some a) × IsBadAt d taken bits k × ((l : ℕ) → l < k → IsBadAt d taken bits l → ⊥)
