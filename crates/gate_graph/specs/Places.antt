-- The table that finds the gates that are kept: each gate has a place, and numbers, from 1, say which entries stand at a place.
use Rattle.std.specs.Prelude.{◌≡◌, ℕ, suc, ◌+◌, ◌*◌, ◌/◌, ◌%◌, ◌^◌, ◌<◌, ◌≤◌, List, length, Some, slice_get}
use Rattle.cnf_form.specs.Cnf.{LitOf, index_of}
use Rattle.gate_graph.specs.declared.gate.Gate.{Gate}
use Rattle.gate_graph.specs.declared.gate.Gate.TheVariants.{And, Xor, Mux, Maj}

-- a literal mixed into a number of 64 bits
abbrev pub mixed : ℕ → LitOf → ℕ
mixed n l = (n + index_of l) % 2 ^ 64 * 11400714819323198485 % 2 ^ 64

-- a number of 64 bits for each gate
abbrev pub number_of : Gate → ℕ
number_of (And a b) = mixed (mixed 1 a) b
number_of (Xor a b) = mixed (mixed 2 a) b
number_of (Mux s a b) = mixed (mixed (mixed 3 s) a) b
number_of (Maj a b c) = mixed (mixed (mixed 4 a) b) c

-- the place of a gate among this many
abbrev pub place_of : ℕ → Gate → ℕ
place_of places k = number_of k / 2 ^ 32 * places / 2 ^ 32

-- the link is the number of the last of the first n entries that has this place, or 0 where none has it
pub record IsLink (place_of : Gate → ℕ) (entries : List (Gate × LitOf)) (n place link : ℕ) : Type 0 where
  pub below : link ≤ n
  pub last : (i : ℕ) (k : Gate) (l : LitOf) → i < n → slice_get entries i ≡ Some (k, l) → place_of k ≡ place → i < link
  pub same : (i : ℕ) (k : Gate) (l : LitOf) → suc i ≡ link → slice_get entries i ≡ Some (k, l) → place_of k ≡ place

-- of the first n entries each place has the last, and each entry the one before it at its place
pub record AreLinked (place_of : Gate → ℕ) (heads links : List ℕ) (entries : List (Gate × LitOf)) (n : ℕ) : Type 0 where
  pub at_heads : (p link : ℕ) → slice_get heads p ≡ Some link → IsLink place_of entries n p link
  pub at_links : (i link : ℕ) (k : Gate) (l : LitOf) → i < n → slice_get entries i ≡ Some (k, l) → slice_get links i ≡ Some link → IsLink place_of entries i (place_of k) link

-- at least one place, at most two entries for each, and a link for each entry
pub record HasPlaces (heads links : List ℕ) (count : ℕ) : Type 0 where
  pub some : 1 ≤ length heads
  pub few : length heads ≤ 2 ^ 30
  pub room : count ≤ 2 * length heads
  pub many : count ≤ length links

pub record IsTable (heads links : List ℕ) (entries : List (Gate × LitOf)) : Type 0 where
  pub places : HasPlaces heads links (length entries)
  pub linked : AreLinked (place_of (length heads)) heads links entries (length entries)
