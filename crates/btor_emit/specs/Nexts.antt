-- What states have next, as lines that were added.
use Rattle.std.specs.Prelude.{◌≡◌, ℕ, ◌+◌, ◌-◌, ◌*◌, ◌<◌, ◌≤◌, List, [], ◌∷◌, ◌++◌, Some, All, length, take, slice_get}
use Rattle.sby_bits.specs.Rows.{Row}
use Rattle.cell_table.specs.Cells.{slice_fn}
use Rattle.btor_core.specs.Fits.{IsBtor, IsUntied}
use Rattle.btor_core.specs.Growth.{Grows}
use Rattle.btor_core.specs.Meaning.{Holds, Values}
use Rattle.btor_core.specs.Shape.{BtorOf, TieOf, bads, constraints, inits, nexts, open_words, state_at}
use Rattle.btor_core.specs.declared.line.Word.{Word}
use Rattle.model_core.specs.Meaning.{next_states}
use Rattle.model_core.specs.Shape.{ModelOf}
use Rattle.btor_emit.specs.States.{AreStretches, bits_of}
use Rattle.btor_emit.specs.Table.{AreSeats, Table, cycle_of}
use Rattle.btor_emit.specs.declared.shape.State.{State}

-- lines were added, which may say what states have next, and nothing else of states, constraints and bads
pub record OnlyTies (old new : BtorOf) (most : ℕ) (ties : List TieOf) : Type 0 where
  pub btor : IsBtor new
  pub grows : Grows old new
  pub opened : open_words new.lines ≡ open_words old.lines
  pub inits : inits new.lines ≡ inits old.lines
  pub nexts : nexts new.lines ≡ nexts old.lines ++ ties
  pub constraints : constraints new.lines ≡ constraints old.lines
  pub bads : bads new.lines ≡ bads old.lines
  pub few : length new.lines ≤ length old.lines + most

-- the state has this row next
pub record HasNext (old new : BtorOf) (state : Word) (row : Values → Row) : Type 0 where
  pub value : ℕ
  pub ties : OnlyTies old new 3 (record { state = state.nid; value = value } ∷ [])
  pub holds : (vs : Values) → Holds new vs → vs value ≡ row vs

-- the tie gives the state its part of a row that begins at the state bit `first`
pub record IsPartOf (new : BtorOf) (first : ℕ) (row : Values → Row) (s : State) (t : TieOf) : Type 0 where
  pub state : t.state ≡ s.word.nid
  pub value : (vs : Values) → Holds new vs → vs t.value ≡ slice_fn s.word.width (s.first - first) (row vs)

-- no two states are one line, and each is a state's line
pub record AreStateLines (m : ModelOf) (e : BtorOf) (ss : List State) : Type 0 where
  pub stretches : AreStretches m ss
  pub lines : All (λ s. state_at e.lines s.word.nid ≡ s.word.width) ss
  pub apart : (i j : ℕ) (s u : State) → slice_get ss i ≡ Some s → slice_get ss j ≡ Some u → s.word.nid ≡ u.word.nid → i ≡ j

-- the states from this one on have no next row yet, and those that begin before `end` are parts of the word
pub record MayHaveParts (e : BtorOf) (ss : List State) (from : ℕ) (row : Word) (first end : ℕ) : Type 0 where
  pub inside : from ≤ length ss
  pub lines : All (λ s. state_at e.lines s.word.nid ≡ s.word.width) ss
  pub some : All (λ s. 1 ≤ s.word.width) ss
  pub apart : (i j : ℕ) (s u : State) → slice_get ss i ≡ Some s → slice_get ss j ≡ Some u → s.word.nid ≡ u.word.nid → i ≡ j
  pub untied : (j : ℕ) (s : State) → from ≤ j → slice_get ss j ≡ Some s → IsUntied (nexts e.lines) s.word.nid
  pub parts : (j : ℕ) (s : State) → from ≤ j → slice_get ss j ≡ Some s → s.first < end → (first ≤ s.first) × (s.first + s.word.width ≤ first + row.width)

-- the states from one to another have their parts of the word next, and the other doesn't begin before `end`
pub record AreParts (old new : BtorOf) (ss : List State) (from to : ℕ) (row : Word) (first end : ℕ) : Type 0 where
  pub ties : List TieOf
  pub only : OnlyTies old new (3 * length ties) ties
  pub long : from + length ties ≡ to
  pub inside : to ≤ length ss
  pub each : (k j : ℕ) (s : State) (t : TieOf) → from + j ≡ k → slice_get ss k ≡ Some s → slice_get ties j ≡ Some t → IsPartOf new first (λ vs. vs row.nid) s t
  pub before : (k : ℕ) (s : State) → from ≤ k → k < to → slice_get ss k ≡ Some s → s.first < end
  pub past : (s : State) → slice_get ss to ≡ Some s → end ≤ s.first

-- the first k states have next what the model's state bits have
pub record AreNexts (m : ModelOf) (old new : BtorOf) (before now : Table) (ss : List State) (k : ℕ) : Type 0 where
  pub ties : List TieOf
  pub only : OnlyTies old new (27 * bits_of (take k ss)) ties
  pub long : length ties ≡ k
  pub each : (j : ℕ) (s : State) (t : TieOf) → slice_get ss j ≡ Some s → slice_get ties j ≡ Some t → IsPartOf new 0 (λ vs. next_states m (cycle_of before vs)) s t
  pub size : length now ≡ length before
  pub seats : AreSeats new now
  pub same : (vs : Values) → Holds new vs → (p : ℕ) → cycle_of now vs p ≡ cycle_of before vs p
