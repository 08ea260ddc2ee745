-- The states of the lines: stretches of the model's state bits.
use Rattle.std.specs.Prelude.{◌≡◌, ◌≢◌, ◌⊎◌, ℕ, suc, ◌+◌, ◌<◌, ◌≤◌, Bool, true, false, List, ◌++◌, Option, Some, None, All, Contains, length, map, sum_by, take, drop, slice_get, slice_index_or}
use Rattle.std.specs.Option.{is_some, unwrap_or}
use Rattle.std.specs.List.{flat_map}
use Rattle.sby_bits.specs.Rows.{Row}
use Rattle.btor_core.specs.Fits.{IsUntied}
use Rattle.btor_core.specs.Shape.{BtorOf, inits, open_words, state_at}
use Rattle.btor_core.specs.declared.line.Word.{Word}
use Rattle.model_core.specs.Shape.{ModelOf, states}
use Rattle.btor_emit.specs.Reads.{AreReadInputs}
use Rattle.btor_emit.specs.declared.shape.State.{State}

-- a register's bits end after k state bits, or begin
abbrev pub IsEdge : ModelOf → ℕ → Type 0
IsEdge m k = (i : ℕ) × (k ≡ length (flat_map (λ r. r.q) (take i m.registers)))

-- whether a state bit has a start digit
abbrev pub is_known : List (Option Bool) → ℕ → Bool
is_known starts k = is_some (slice_index_or starts k None)

-- of two neighbouring state bits one has a start digit, and one has none; the second is this one
abbrev pub IsTurn : ModelOf → ℕ → Type 0
IsTurn m k = (j : ℕ) × (suc j ≡ k) × (is_known m.starts j ≢ is_known m.starts k)

-- a longest stretch of a register's bits that all have, or all lack, a start digit
pub record IsStretchOf (m : ModelOf) (s : State) : Type 0 where
  pub some : 1 ≤ s.word.width
  pub inside : s.first + s.word.width ≤ length (states m)
  pub digits : (k : ℕ) → s.first ≤ k → k < s.first + s.word.width → is_known m.starts k ≡ s.has_start
  pub within : (k : ℕ) → IsEdge m k → s.first < k → k < s.first + s.word.width → ⊥
  pub longest : IsEdge m s.first ⊎ IsTurn m s.first

-- how many bits states have
abbrev pub bits_of : List State → ℕ
bits_of ss = sum_by (λ s. s.word.width) ss

-- each state begins where those before it end, and together they are the model's state bits
pub record AreStretches (m : ModelOf) (ss : List State) : Type 0 where
  pub each : All (IsStretchOf m) ss
  pub joined : (k : ℕ) (s : State) → slice_get ss k ≡ Some s → s.first ≡ bits_of (take k ss)
  pub whole : bits_of ss ≡ length (states m)

-- the state's places; what it starts with, where it has start digits
abbrev pub places_of : ModelOf → State → List ℕ
places_of m s = take s.word.width (drop s.first (states m))

abbrev pub start_of : ModelOf → State → Row
start_of m s = map (λ d. unwrap_or d false) (take s.word.width (drop s.first m.starts))

-- the line is a state's, and has an `init` where the state has start digits
pub record IsStateLine (e : BtorOf) (s : State) : Type 0 where
  pub state : state_at e.lines s.word.nid ≡ s.word.width
  pub started : s.has_start ≡ true → (v : ℕ) × Contains (inits e.lines) (record { state = s.word.nid; value = v })
  pub free : s.has_start ≡ false → IsUntied (inits e.lines) s.word.nid

-- the line is an input's
abbrev pub IsInputLine : BtorOf → Word → Type 0
IsInputLine e a = state_at e.lines a.nid ≡ 0

-- What the lines leave open: states by the longest stretches, in the order of the model's state bits, and after them an input for each
-- row of the model's inputs of which a bit is read, as wide as the row.
pub record IsShape (m : ModelOf) (rows : List (List ℕ)) (e : BtorOf) (ss : List State) (read : List (List ℕ)) : Type 0 where
  pub stretches : AreStretches m ss
  pub state_lines : All (IsStateLine e) ss
  pub read_rows : AreReadInputs m rows read
  pub words : (ws : List Word) × (open_words e.lines ≡ map (λ s. s.word) ss ++ ws) × (map (λ a. a.width) ws ≡ map (λ row. length row) read) × All (IsInputLine e) ws
