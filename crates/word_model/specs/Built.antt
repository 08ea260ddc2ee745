-- A model by its parts, as they are made one after the other.
use Rattle.std.specs.Prelude.{◌≡◌, ℕ, ◌+◌, ◌≤◌, ◌<◌, ◌^◌, List, [], ◌∷◌, ◌++◌, length, map, take, slice_index}
use Rattle.std.specs.List.{enumerate_from, flat_map}
use Rattle.design_core.specs.Places.{place_of, places}
use Rattle.design_core.specs.Ports.{signal_at}
use Rattle.design_core.specs.Shape.{CellOf, ConnectOf, DesignOf}
use Rattle.design_core.specs.declared.names.PortName.TheVariants.{A, En}
use Rattle.design_graph.specs.declared.driver.Driver.{Driver}
use Rattle.design_meaning.specs.Meaning.{asserts, assumes, covers}
use Rattle.design_meaning.specs.Runs.{kept_bits, kept_offset}
use Rattle.design_meaning.specs.States.{input_bits}
use Rattle.design_signals.specs.declared.sig_bit.SigBit.{SigBit}
use Rattle.model_core.specs.Shape.{ModelOf, NodeOf}
use Rattle.model_core.specs.declared.model.Statement.{Statement}
use Rattle.word_model.specs.Layout.{bit_place, zero_place}
use Rattle.word_model.specs.Nodes.{AreNodes, IsNodeOf}
use Rattle.word_model.specs.Registers.{AreStarts, registers_of}

-- where the stored row of each cell begins, and after the last one where the model ends
pub record AreOffsets (d : DesignOf) (offsets : List ℕ) : Type 0 where
  pub size : length offsets ≡ length d.cells + 1
  pub each : (i : ℕ) → i ≤ length d.cells → slice_index offsets i ≡ places d + kept_offset d i

-- the places of two signals, side by side
abbrev pub pair_places : DesignOf → List SigBit → List SigBit → List (ℕ × ℕ)
pair_places d [] right = []
pair_places d (a ∷ left) [] = []
pair_places d (a ∷ left) (b ∷ right) = (place_of d a, place_of d b) ∷ pair_places d left right

abbrev pub sides : DesignOf → ConnectOf → List (ℕ × ℕ)
sides d j = pair_places d j.left j.right

-- those of all connects, and where those of each connect begin
pub record ArePairs (d : DesignOf) (first : List ℕ) (pairs : List (ℕ × ℕ)) : Type 0 where
  pub all : pairs ≡ flat_map (sides d) d.connects
  pub size : length first ≡ length d.connects
  pub each : (i : ℕ) → i < length d.connects → slice_index first i ≡ length (flat_map (sides d) (take i d.connects))

-- the driver's node was added
abbrev pub IsPushed : DesignOf → Driver → ModelOf → ModelOf → Type 0
IsPushed d r old new = (n : NodeOf) × IsNodeOf d r n × (new ≡ record old { nodes = old.nodes ++ n ∷ [] })

abbrev pub statement_of : DesignOf → CellOf → Statement
statement_of d c = record { a = bit_place d (signal_at c.ports A); en = bit_place d (signal_at c.ports En) }

pub record IsBuilt (d : DesignOf) (order : List Driver) (m : ModelOf) : Type 0 where
  pub limit : m.size < 2 ^ 32
  pub size : m.size ≡ places d + kept_bits d
  pub zero : m.zero ≡ zero_place d
  pub nodes : AreNodes d order (length order) m.nodes
  pub registers : m.registers ≡ flat_map (registers_of d) (enumerate_from 0 d.cells)
  pub starts : AreStarts d (enumerate_from 0 d.cells) m.starts
  pub inputs : m.inputs ≡ map (place_of d) (input_bits d)
  pub asserts : m.asserts ≡ map (statement_of d) (asserts d)
  pub assumes : m.assumes ≡ map (statement_of d) (assumes d)
  pub covers : m.covers ≡ map (statement_of d) (covers d)
