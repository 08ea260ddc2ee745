-- One line that was added.
use Rattle.std.specs.Prelude.{◌≡◌, ℕ, ◌+◌, ◌≤◌, ◌++◌, length}
use Rattle.btor_core.specs.Shape.{BtorOf, open_nodes_of, open_words}
use Rattle.btor_core.specs.Meaning.{Values, Holds, NodeHolds}
use Rattle.btor_core.specs.Growth.{Grows, KeepsLists}
use Rattle.btor_core.specs.declared.line.Word.{Word}
use Rattle.btor_core.specs.declared.line.Node.{Node}
use Rattle.btor_words.specs.Emitting.{IsWord}

-- a value was added, after its sort where that wasn't there, and has the node's row in all values
pub record Lines (old new : BtorOf) (a : Word) (w : ℕ) (n : Node) : Type 0 where
  pub grows : Grows old new
  pub lists : KeepsLists old new
  pub opened : open_words new.lines ≡ open_words old.lines ++ open_nodes_of a.nid w n
  pub few : length new.lines ≤ length old.lines + 2
  pub word : IsWord new a
  pub size : a.width ≡ w
  pub holds : (vs : Values) → Holds new vs → NodeHolds new.constants vs w (vs a.nid) n
