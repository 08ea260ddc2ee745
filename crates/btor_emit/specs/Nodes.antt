-- Nodes that were emitted.
use Rattle.std.specs.Prelude.{◌≡◌, ℕ, ◌+◌, ◌*◌, ◌<◌, List, Some, Contains, length, take, slice_get}
use Rattle.std.specs.List.{flat_map}
use Rattle.btor_core.specs.Fits.{IsBtor, IsWidth}
use Rattle.btor_core.specs.Shape.{BtorOf}
use Rattle.btor_core.specs.declared.line.Word.{Word}
use Rattle.btor_core.specs.Meaning.{Holds, Values}
use Rattle.btor_words.specs.Emitting.{Adds, IsWord}
use Rattle.btor_emit.specs.Table.{AreIn, AreSeats, Table, Turns, cycle_of}
use Rattle.model_core.specs.Meaning.{Cycle, row_at, row_of_node}
use Rattle.model_core.specs.Shape.{ModelOf, NodeOf, reads, sources}
use Rattle.model_core.specs.declared.op.Op.{Op}
use Rattle.model_core.specs.declared.op.Op.TheVariants as op

-- the table is one of the lines, and a row of places stands in it
pub record IsReady (m : BtorOf) (table : Table) (places : List ℕ) : Type 0 where
  pub btor : IsBtor m
  pub seats : AreSeats m table
  pub inside : AreIn table places
  pub width : IsWidth (length places)

-- the words of two rows of places
pub record ArePut (old new : BtorOf) (before now : Table) (a b : List ℕ) (left right : Word) : Type 0 where
  pub turns : Turns old new before now (4 * length a + 4 * length b) (λ vs. (vs left.nid ≡ row_at (cycle_of before vs) a) × (vs right.nid ≡ row_at (cycle_of before vs) b))
  pub left_word : IsWord new left
  pub right_word : IsWord new right
  pub left_size : left.width ≡ length a
  pub right_size : right.width ≡ length b

-- nodes that only move bits
abbrev pub IsMove : Op → Type 0
IsMove op.Copy = Unit {0}
IsMove (op.Unary k signed) = ⊥
IsMove (op.Binary k signed) = ⊥
IsMove (op.Reduce k) = ⊥
IsMove (op.Logic k) = ⊥
IsMove (op.Compare k signed) = ⊥
IsMove (op.ShiftLeft signed) = ⊥
IsMove (op.ShiftRight signed) = ⊥
IsMove (op.ShiftSign signed) = ⊥
IsMove (op.ShiftAny signed by_signed) = ⊥
IsMove (op.Divide k signed) = ⊥
IsMove op.Mux = ⊥
IsMove op.Pmux = ⊥
IsMove op.Bmux = ⊥
IsMove (op.Slice offset) = Unit {0}
IsMove op.Concat = Unit {0}

-- cells of two operands that neither choose between rows nor move bits
abbrev pub HasTwo : Op → Type 0
HasTwo op.Copy = ⊥
HasTwo (op.Unary k signed) = ⊥
HasTwo (op.Binary k signed) = Unit {0}
HasTwo (op.Reduce k) = ⊥
HasTwo (op.Logic k) = Unit {0}
HasTwo (op.Compare k signed) = Unit {0}
HasTwo (op.ShiftLeft signed) = Unit {0}
HasTwo (op.ShiftRight signed) = Unit {0}
HasTwo (op.ShiftSign signed) = Unit {0}
HasTwo (op.ShiftAny signed by_signed) = Unit {0}
HasTwo (op.Divide k signed) = Unit {0}
HasTwo op.Mux = ⊥
HasTwo op.Pmux = ⊥
HasTwo op.Bmux = ⊥
HasTwo (op.Slice offset) = ⊥
HasTwo op.Concat = ⊥

-- these nodes give what they do in this cycle
abbrev pub AreDone : ModelOf → Cycle → ℕ → Type 0
AreDone m c i = (j : ℕ) (n : NodeOf) → j < i → slice_get m.nodes j ≡ Some n → row_at c n.y ≡ row_of_node c n

-- the first i nodes were added, and sources have what they had
pub record AreNodes (m : ModelOf) (old new : BtorOf) (before now : Table) (i : ℕ) : Type 0 where
  pub adds : Adds old new (12 * length (flat_map reads (take i m.nodes)) + 20 * i) (λ vs. AreDone m (cycle_of now vs) i)
  pub size : length now ≡ length before
  pub seats : AreSeats new now
  pub same : (vs : Values) → Holds new vs → (p : ℕ) → Contains (sources m) p → cycle_of now vs p ≡ cycle_of before vs p
