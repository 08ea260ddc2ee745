-- How a model grows while it is made.
use Rattle.std.specs.Prelude.{◌≡◌, ℕ, suc, cond, eqb, Bool, List, [], ◌∷◌, ◌++◌, length}
use Rattle.btor_core.specs.Shape.{BtorOf, bads, constraints, inits, nexts, open_nodes_of, open_words, sort_width, width_at}
use Rattle.btor_core.specs.Meaning.{Values, Holds, NodeHolds}
use Rattle.btor_core.specs.Choices.{Agree}
use Rattle.btor_core.specs.Fits.{HasValue}
use Rattle.btor_core.specs.declared.line.Word.{Word}
use Rattle.btor_core.specs.declared.line.Node.{Node}
use Rattle.btor_core.specs.declared.line.Node.TheVariants as node
use Rattle.btor_core.specs.declared.line.Body.{Body}
use Rattle.btor_core.specs.declared.line.Body.TheVariants as body
use Rattle.btor_core.specs.declared.line.Line.{Line}

-- old, with lines and bits of constants after its own
pub record Grows (old new : BtorOf) : Type 0 where
  pub more : List Line
  pub bits : List Bool
  pub lines : new.lines ≡ old.lines ++ more
  pub constants : new.constants ≡ old.constants ++ bits

-- lines were added that say nothing of states, constraints and bads
pub record KeepsLists (old new : BtorOf) : Type 0 where
  pub inits : inits new.lines ≡ inits old.lines
  pub nexts : nexts new.lines ≡ nexts old.lines
  pub constraints : constraints new.lines ≡ constraints old.lines
  pub bads : bads new.lines ≡ bads old.lines

-- the number of the first line that is the sort of this width; 0 where none is
abbrev pub sort_nid : List Line → ℕ → ℕ
sort_nid [] w = 0
sort_nid (l ∷ lines) w = cond (eqb (sort_width l.body) w) l.nid (sort_nid lines w)

-- one line more, with the next number
abbrev pub with_body : BtorOf → Body → BtorOf
with_body m b = record { lines = m.lines ++ record { nid = suc (length m.lines); body = b } ∷ []; constants = m.constants }

-- with the sort of this width, which is added where there is none
abbrev pub with_sort : BtorOf → ℕ → BtorOf
with_sort m w = cond (eqb (sort_nid m.lines w) 0) (with_body m (body.Sort w)) m

-- with one more value, of this many bits
abbrev pub with_value : BtorOf → ℕ → Node → BtorOf
with_value m w n = with_body (with_sort m w) (body.Value (sort_nid (with_sort m w).lines w) w n)

-- with the line of a constant of this sort more, and its bits after those of the other constants
abbrev pub with_bits : BtorOf → ℕ → List Bool → BtorOf
with_bits m s bits = record { lines = m.lines ++ record { nid = suc (length m.lines); body = body.Value s (length bits) (node.Const (length m.constants)) } ∷ []; constants = m.constants ++ bits }

-- with one constant more
abbrev pub with_constant : BtorOf → List Bool → BtorOf
with_constant m bits = with_bits (with_sort m (length bits)) (sort_nid (with_sort m (length bits)).lines (length bits)) bits

-- numbers count from 1 without a gap
abbrev pub IsNumbered : List Line → Type 0
IsNumbered lines = (before more : List Line) (l : Line) → lines ≡ before ++ l ∷ more → l.nid ≡ suc (length before)

-- a value was added whose word is a: it has the node's row in whatever values hold
pub record Pushed (old new : BtorOf) (w : ℕ) (n : Node) (a : Word) : Type 0 where
  pub grows : Grows old new
  pub lists : KeepsLists old new
  pub opened : open_words new.lines ≡ open_words old.lines ++ open_nodes_of a.nid w n
  pub size : a.width ≡ w
  pub width : width_at new.lines a.nid ≡ w
  pub holds : (vs : Values) → Holds new vs → NodeHolds new.constants vs w (vs a.nid) n

-- a constant was added: its word has these bits in whatever values hold
pub record PushedBits (old new : BtorOf) (bits : List Bool) (a : Word) : Type 0 where
  pub grows : Grows old new
  pub lists : KeepsLists old new
  pub opened : open_words new.lines ≡ open_words old.lines
  pub size : a.width ≡ length bits
  pub width : width_at new.lines a.nid ≡ length bits
  pub holds : (vs : Values) → Holds new vs → vs a.nid ≡ bits

-- values of n that are vs where m's lines have a value, and for the inputs and states that were added as chosen
pub record GoesFurther (m n : BtorOf) (more : List Line) (vs choice us : Values) : Type 0 where
  pub holds : Holds n us
  pub same : (k : ℕ) → HasValue m.lines k → us k ≡ vs k
  pub chosen : Agree (open_words more) choice us
