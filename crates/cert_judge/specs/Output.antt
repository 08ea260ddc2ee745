-- What a solver that leaves a proof file prints: lines of values and the line s UNKNOWN, as in a stream, among others that say nothing.
use Rattle.std.specs.Prelude.{ℕ, Bool, true, false, cond, ◌&&◌, ◌||◌, eqb, List, [], ◌∷◌, ◌++◌, map}
use Rattle.cert_stream.specs.Stream.{is_unknown}
use Rattle.cert_stream.specs.Text.{is_blank, lines_of, words_from}

-- s and v, which begin a status line and one of values where they are a word alone
abbrev pub is_claim : ℕ → Bool
is_claim b = eqb b 115 || eqb b 118

-- whether a first byte is a word alone, by what stands after it in its line
abbrev pub is_alone : List ℕ → Bool
is_alone [] = true
is_alone (b ∷ bs) = is_blank b

-- A line from its first visible byte on, an s or v: where that isn't a word alone it is read as c. Where the line may go on, an s or v
-- at the end isn't read yet.
abbrev pub claim_read : Bool → ℕ → List ℕ → List ℕ
claim_read ended head [] = cond ended (head ∷ []) []
claim_read ended head (b ∷ bs) = cond (is_blank b) head 99 ∷ b ∷ bs

-- white space in place of bytes
abbrev pub blanked : List ℕ → List ℕ
blanked bytes = map (λ (b : ℕ). 32) bytes

-- a status line from its s on, amid values: as white space
abbrev pub status_read : Bool → List ℕ → List ℕ
status_read ended [] = cond ended (32 ∷ []) []
status_read ended (b ∷ bs) = blanked (115 ∷ b ∷ bs)

abbrev pub word_read : Bool → Bool → ℕ → List ℕ → List ℕ
word_read ended amid head bs = cond (amid && (eqb head 115 && is_alone bs)) (status_read ended bs) (claim_read ended head bs)

-- A line as it is read, amid values, which lack their 0, or not. One of values is read as it is, and not amid values a status line
-- too; amid values a status line is read as white space. Every other line is read as a comment, whatever it holds: its first
-- visible byte as c.
abbrev pub line_read : Bool → Bool → List ℕ → List ℕ
line_read ended amid [] = []
line_read ended amid (b ∷ bs) = cond (is_blank b) (b ∷ line_read ended amid bs) (cond (is_claim b) (word_read ended amid b bs) (99 ∷ bs))

-- a line of values
abbrev pub is_values_line : List ℕ → Bool
is_values_line [] = false
is_values_line (b ∷ bs) = cond (is_blank b) (is_values_line bs) (eqb b 118 && is_alone bs)

-- the line s UNKNOWN
abbrev pub is_unknown_line : List ℕ → Bool
is_unknown_line [] = false
is_unknown_line (b ∷ bs) = cond (is_blank b) (is_unknown_line bs) (eqb b 115 && (is_alone bs && is_unknown (words_from true 0 [] bs)))

-- A line feed, after this line: amid values the line s UNKNOWN is at fault there, and is read as ended by s.
abbrev pub feed_read : Bool → List ℕ → ℕ
feed_read amid t = cond (amid && is_unknown_line t) 115 10

-- Lines as they are read, with their line feeds. A line of values is amid values as long as it lacks its 0, after which nothing is
-- read.
abbrev pub lines_read : Bool → Bool → List (List ℕ) → List ℕ
lines_read ended amid [] = []
lines_read ended amid (t ∷ []) = line_read ended amid t
lines_read ended amid (t ∷ u ∷ ts) = line_read true amid t ++ feed_read amid t ∷ lines_read ended (amid || is_values_line t) (u ∷ ts)

-- The stream as which the bytes of an output are read, byte for byte: where it ends with them, or where more may follow.
abbrev pub stream_of : Bool → List ℕ → List ℕ
stream_of ended bytes = lines_read ended false (lines_of bytes)

abbrev pub any_values : List (List ℕ) → Bool
any_values [] = false
any_values (t ∷ ts) = is_values_line t || any_values ts

-- some line of an output is one of values
abbrev pub has_values : List ℕ → Bool
has_values bytes = any_values (lines_of bytes)

abbrev pub any_unknown : List (List ℕ) → Bool
any_unknown [] = false
any_unknown (t ∷ ts) = is_unknown_line t || any_unknown ts

-- some line of an output is s UNKNOWN
abbrev pub has_unknown : List ℕ → Bool
has_unknown bytes = any_unknown (lines_of bytes)
