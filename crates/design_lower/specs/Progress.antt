-- What is known while a design is lowered.
use Rattle.std.specs.Prelude.{◌≡◌, ◌⊎◌, ◌↔◌, ℕ, ◌+◌, ◌<◌, ◌≤◌, ◌^◌, Bool, true, List, Option, Some, ◌++◌, length, drop, bytes_eq, slice_get, Contains}
use Rattle.std.specs.List.{list_any}
use Rattle.digraph.specs.Graph.{Graph, HasEdge}
use Rattle.design_graph.specs.Edges.{IsDown}
use Rattle.design_core.specs.Places.{offset, place_of, places}
use Rattle.design_core.specs.Shape.{WireOf, CellOf, DesignOf, IsDeclared}
use Rattle.design_meaning.specs.Meaning.{Chain, IsInit, IsStart}
use Rattle.design_signals.specs.declared.sig_bit.SigBit.{SigBit}
use Rattle.design_signals.specs.declared.sig_bit.SigBit.TheVariants.{Wire}
use Rattle.design_lower.specs.Lowering.{FitsReset, LowersSome, kept_name, names}

-- a name is among these
abbrev pub has : List (List ℕ) → List ℕ → Bool
has list name = list_any (λ n. bytes_eq n name) list

-- besides the old names these are among the new
abbrev pub Adds : List (List ℕ) → List (List ℕ) → List (List ℕ) → Type 0
Adds old new more = (n : List ℕ) → (has new n ≡ true) ↔ ((has old n ≡ true) ⊎ Contains more n)

-- from this number on, one below 2 ^ 32 is free
abbrev pub IsFreeSoon : List (List ℕ) → ℕ → Type 0
IsFreeSoon list from = (n : ℕ) → ((k : ℕ) → from ≤ k → k < n → has list (kept_name k) ≡ true) → n < 2 ^ 32

-- these are the names of the design
abbrev pub IsNames : DesignOf → List (List ℕ) → Type 0
IsNames d list = (n : List ℕ) → (has list n ≡ true) ↔ Contains (names d) n

-- the chain of connects of a bit with the start digit x ends at the bit a
abbrev pub IsDigitEnd : DesignOf → Bool → SigBit → Type 0
IsDigitEnd d x a = (w : ℕ) × (b : ℕ) × (n : ℕ) × IsInit d w b x × Chain d n (Wire w b) a

-- the places of such bits are marked
pub record IsEnds (d : DesignOf) (x : Bool) (marks : List Bool) : Type 0 where
  pub size : length marks ≡ places d
  pub ends : (a : SigBit) → IsDeclared d.wires d.free a → (slice_get marks (place_of d a) ≡ Some true) ↔ IsDigitEnd d x a

-- q is the place of a bit to which an attribute gives the digit
abbrev pub IsInitPlace : DesignOf → Bool → ℕ → Type 0
IsInitPlace d x q = (w : ℕ) × (b : ℕ) × IsInit d w b x × (q ≡ offset d w + b)

-- the connects' edges, from a further node to the bits with the digit, and from each bit to that node
pub record IsEndGraph (d : DesignOf) (x : Bool) (g : Graph) : Type 0 where
  pub size : length g ≡ places d + 1
  pub edges : (p q : ℕ) → HasEdge g p q ↔ (IsDown d d.connects p q ⊎ (((p ≡ places d) × IsInitPlace d x q) ⊎ ((p < places d) × (q ≡ places d))))

-- of the first n nodes those are marked that have the leader of the root
pub record IsLedWith (leaders : List ℕ) (root n : ℕ) (marks : List Bool) : Type 0 where
  pub size : length marks ≡ n
  pub led : (p : ℕ) → p < n → (slice_get marks p ≡ Some true) ↔ (slice_get leaders p ≡ slice_get leaders root)

-- the digit x stands beside each of the bits that is such an end, and no other digit does
pub record IsDigitsOf (d : DesignOf) (x : Bool) (bits : List SigBit) (digits : List (Option Bool)) : Type 0 where
  pub size : length digits ≡ length bits
  pub each : (k : ℕ) (y : Bool) → (slice_get digits k ≡ Some (Some y)) ↔ ((y ≡ x) × ((a : SigBit) × (slice_get bits k ≡ Some a) × IsDigitEnd d x a))

-- the design in which the first i cells of d are lowered: those that are through, the others, and the `$mux` cells
abbrev pub midway : DesignOf → ℕ → List WireOf → List CellOf → List CellOf → DesignOf
midway d i wires cells muxes = record d { wires = wires; cells = cells ++ (drop i d.cells ++ muxes) }

-- The first i cells of d are lowered, and each number below this one is taken.
pub record IsMidway (d : DesignOf) (i : ℕ) (wires : List WireOf) (cells muxes : List CellOf) (number : ℕ) : Type 0 where
  pub count : ℕ
  pub steps : LowersSome count d (midway d i wires cells muxes)
  pub through : length cells ≡ i
  pub low : (k : ℕ) (c : CellOf) → slice_get (cells ++ muxes) k ≡ Some c → FitsReset c → ⊥
  pub starts : (j k : ℕ) (x : Bool) → i ≤ j → j < length d.cells → IsStart (midway d i wires cells muxes) j k x ↔ IsStart d j k x
  pub old : (n : List ℕ) → Contains (names d) n → Contains (names (midway d i wires cells muxes)) n
  pub used : (k : ℕ) → k < number → Contains (names (midway d i wires cells muxes)) (kept_name k)
  pub new : (n : List ℕ) → Contains (names (midway d i wires cells muxes)) n → Contains (names d) n ⊎ ((k : ℕ) × (k < number) × (n ≡ kept_name k))
