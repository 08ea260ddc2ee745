-- What a call makes of a parser and a receiver.
use Rattle.std.specs.Prelude.{◌≡◌, ℕ, Bool, false, List, [], ◌∷◌, ◌++◌, length}
use Rattle.cert_stream.specs.Telling.{Gets, Saying}
use Rattle.cert_stream.specs.Text.{NoFeed}
use Rattle.inv_stream.specs.Machine.{InvOf, Turn}
use Rattle.inv_stream.specs.Telling.{Hears, after, said}
use Rattle.inv_stream.specs.declared.mode.Line.{Line}
use Rattle.inv_stream.specs.declared.mode.Line.TheVariants.{Start, Letter, Word, Named, Inside, Refused, Lost}

-- The receiver got what is said, until it stopped; if it didn't, the parser is as it then is.
pub record IsTaken {A : Type 0} (gets : A → Saying → A → Type 0) (parts : A → ℕ → A → Type 0) (stops : A → Bool) (t : Turn) (old new : A) (w : InvOf) (stopped : Bool) : Type 0 where
  pub told : Gets (Hears gets parts) stops old t.says new stopped
  pub kept : stopped ≡ false → w ≡ t.to

-- bytes, one after the other
abbrev pub turns : InvOf → List ℕ → Turn
turns w bytes = record { to = after w bytes; says = said w bytes }

-- bytes of which none but the last may be a line feed
abbrev pub IsLineOf : List ℕ → Type 0
IsLineOf bytes = (front : List ℕ) × (b : ℕ) × NoFeed front × (bytes ≡ front ++ b ∷ [])

-- bytes that are taken at once: one, or of a line of DRUP text
abbrev pub IsChunk : Line → List ℕ → Type 0
IsChunk Start bytes = length bytes ≡ 1
IsChunk Letter bytes = length bytes ≡ 1
IsChunk (Word s) bytes = length bytes ≡ 1
IsChunk (Named part) bytes = length bytes ≡ 1
IsChunk Inside bytes = IsLineOf bytes
IsChunk (Refused f) bytes = length bytes ≡ 1
IsChunk Lost bytes = length bytes ≡ 1
