-- Parts of an emission: what each of them adds to the lines, and what stands where after it.
use Rattle.std.specs.Prelude.{◌≡◌, ◌⊎◌, ℕ, suc, ◌+◌, ◌*◌, ◌<◌, ◌≤◌, Option, Bool, true, false, eqb, List, [], ◌∷◌, ◌++◌, Some, All, Contains, length, map, take, slice_get}
use Rattle.std.specs.List.{concat}
use Rattle.std.specs.Option.{unwrap_or}
use Rattle.sby_bits.specs.Rows.{Row}
use Rattle.btor_core.specs.Fits.{IsBtor}
use Rattle.btor_core.specs.Growth.{Grows, KeepsLists}
use Rattle.btor_core.specs.Meaning.{Holds, Values}
use Rattle.btor_core.specs.Shape.{BtorOf, TieOf, bads, constraints, inits, nexts, open_words, state_at, state_node_width}
use Rattle.btor_core.specs.declared.line.Node.{Node}
use Rattle.btor_core.specs.declared.line.Node.TheVariants as node
use Rattle.btor_core.specs.declared.line.Word.{Word}
use Rattle.btor_words.specs.Emitting.{Adds, IsWord}
use Rattle.model_core.specs.Meaning.{row_at}
use Rattle.model_core.specs.Shape.{ModelOf, states}
use Rattle.btor_emit.specs.States.{IsInputLine, IsStateLine, IsStretchOf, bits_of, places_of, start_of}
use Rattle.btor_emit.specs.Table.{AreSeats, Table, cycle_of, seat_at}
use Rattle.btor_emit.specs.declared.shape.State.{State}
use Rattle.btor_emit.specs.declared.table.Seat.TheVariants.{Bit, Digit}

-- these places have this row, and all others what they had
pub record Gives (old new : BtorOf) (before now : Table) (places : List ℕ) (most : ℕ) (row : Values → Row) : Type 0 where
  pub adds : Adds old new most (λ vs. row_at (cycle_of now vs) places ≡ row vs)
  pub size : length now ≡ length before
  pub seats : AreSeats new now
  pub same : (vs : Values) → Holds new vs → (p : ℕ) → (Contains places p → ⊥) → cycle_of now vs p ≡ cycle_of before vs p

-- each of these places stands where the one of the other list stood, all else where it stood
pub record AreAliased (before now : Table) (places others : List ℕ) : Type 0 where
  pub size : length now ≡ length before
  pub each : (p : ℕ) → ((k q : ℕ) × (slice_get places k ≡ Some p) × (slice_get others k ≡ Some q) × (slice_get now p ≡ slice_get before q)) ⊎ ((Contains places p → ⊥) × (slice_get now p ≡ slice_get before p))

-- a state or an input was added
pub record IsOpened (old new : BtorOf) (a : Word) (w : ℕ) (n : Node) (ties : List TieOf) : Type 0 where
  pub btor : IsBtor new
  pub grows : Grows old new
  pub opened : open_words new.lines ≡ open_words old.lines ++ a ∷ []
  pub inits : inits new.lines ≡ inits old.lines ++ ties
  pub nexts : nexts new.lines ≡ nexts old.lines
  pub constraints : constraints new.lines ≡ constraints old.lines
  pub bads : bads new.lines ≡ bads old.lines
  pub word : IsWord new a
  pub size : a.width ≡ w
  pub kind : state_at new.lines a.nid ≡ state_node_width w n
  pub later : length old.lines < a.nid
  pub few : length new.lines ≤ length old.lines + (2 + 3 * length ties)

-- a state was added that starts with these bits
abbrev pub IsStarted : BtorOf → BtorOf → Word → Row → Type 0
IsStarted old new a bits = (v : ℕ) × IsOpened old new a (length bits) node.State (record { state = a.nid; value = v } ∷ []) × ((vs : Values) → Holds new vs → vs v ≡ bits)

-- the state of these digits
abbrev pub IsStateOf : BtorOf → BtorOf → Word → List (Option Bool) → Bool → Type 0
IsStateOf old new a starts true = IsStarted old new a (map (λ d. unwrap_or d false) starts)
IsStateOf old new a starts false = IsOpened old new a (length starts) node.State []

-- the state's word has its places, and starts as its line says
pub record IsStateWord (m : ModelOf) (e : BtorOf) (table : Table) (s : State) : Type 0 where
  pub stretch : IsStretchOf m s
  pub word : IsWord e s.word
  pub line : IsStateLine e s
  pub bits : (vs : Values) → Holds e vs → vs s.word.nid ≡ row_at (cycle_of table vs) (places_of m s)

-- a tie says what a state starts with
pub record IsStart (m : ModelOf) (e : BtorOf) (ss : List State) (t : TieOf) : Type 0 where
  pub s : State
  pub of : Contains ss s
  pub has : s.has_start ≡ true
  pub state : t.state ≡ s.word.nid
  pub value : (vs : Values) → Holds e vs → vs t.value ≡ start_of m s

-- the states of the first k state bits
pub record AreStates (m : ModelOf) (e : BtorOf) (table : Table) (ss : List State) (k : ℕ) : Type 0 where
  pub btor : IsBtor e
  pub size : length table ≡ m.size
  pub seats : AreSeats e table
  pub opened : open_words e.lines ≡ map (λ s. s.word) ss
  pub joined : (j : ℕ) (s : State) → slice_get ss j ≡ Some s → s.first ≡ bits_of (take j ss)
  pub whole : bits_of ss ≡ k
  pub before : All (λ s. s.first + s.word.width ≤ k) ss
  pub each : All (IsStateWord m e table) ss
  pub starts : All (IsStart m e ss) (inits e.lines)
  pub nexts : nexts e.lines ≡ []
  pub constraints : constraints e.lines ≡ []
  pub bads : bads e.lines ≡ []
  pub else : (p : ℕ) → (Contains (take k (states m)) p → ⊥) → seat_at table p ≡ Digit (eqb p (suc m.zero))
  pub few : length e.lines ≤ 5 * k

-- the word is an input, whose bits these places have
pub record IsInputWord (e : BtorOf) (table : Table) (row : List ℕ) (a : Word) : Type 0 where
  pub word : IsWord e a
  pub width : a.width ≡ length row
  pub line : IsInputLine e a
  pub bits : (j p : ℕ) → slice_get row j ≡ Some p → seat_at table p ≡ Bit a j

-- inputs were added for these rows of places
pub record AreInputs (old new : BtorOf) (before now : Table) (rows : List (List ℕ)) : Type 0 where
  pub ws : List Word
  pub btor : IsBtor new
  pub grows : Grows old new
  pub lists : KeepsLists old new
  pub opened : open_words new.lines ≡ open_words old.lines ++ ws
  pub long : length ws ≡ length rows
  pub each : (k : ℕ) (row : List ℕ) (a : Word) → slice_get rows k ≡ Some row → slice_get ws k ≡ Some a → IsInputWord new now row a
  pub size : length now ≡ length before
  pub seats : AreSeats new now
  pub else : (p : ℕ) → (Contains (concat rows) p → ⊥) → seat_at now p ≡ seat_at before p
  pub few : length new.lines ≤ length old.lines + 2 * length rows
