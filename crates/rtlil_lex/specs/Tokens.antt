-- RTLIL text as tokens: names, strings and words, with white space and comments between them.
use Rattle.std.specs.Prelude.{◌≡◌, ℕ, ◌+◌, ◌≤◌, Bool, true, not, ◌||◌, ◌==◌, IsTrue, IsFalse, List, [], ◌∷◌, ◌++◌, length, drop, slice_range}
use Rattle.std.specs.List.{AllByRecursion}

-- space, tab, line feed, carriage return
abbrev pub is_space : ℕ → Bool
is_space b = b == 32 || b == 9 || b == 10 || b == 13

abbrev pub is_feed : ℕ → Bool
is_feed b = b == 10

abbrev pub is_hash : ℕ → Bool
is_hash b = b == 35

-- `\` and `$` begin a name
abbrev pub begins_name : ℕ → Bool
begins_name b = b == 92 || b == 36

abbrev pub is_quote : ℕ → Bool
is_quote b = b == 34

abbrev pub is_backslash : ℕ → Bool
is_backslash b = b == 92

-- what ends a word or a string
abbrev pub is_break : ℕ → Bool
is_break b = is_space b || is_hash b

abbrev pub begins_word : ℕ → Bool
begins_word b = not (is_break b || begins_name b || is_quote b)

-- the text ends here, or one of these bytes comes
abbrev pub ends_at : (ℕ → Bool) → List ℕ → Bool
ends_at ends [] = true
ends_at ends (b ∷ rest) = ends b

-- a run of bytes up to the first of these, or to the text's end
pub record IsRun (ends : ℕ → Bool) (run rest : List ℕ) : Type 0 where
  pub inside : AllByRecursion (λ b. IsFalse (ends b)) run
  pub after : IsTrue (ends_at ends rest)

-- white space and comments, up to the rest; a comment runs from `#` to the line's end
pub data Gap (rest : List ℕ) : List ℕ → Type 0 where
  no_more : Gap rest rest
  space : (b : ℕ) (bytes : List ℕ) → IsTrue (is_space b) → Gap rest bytes → Gap rest (b ∷ bytes)
  comment : (b : ℕ) (bytes text after : List ℕ) → IsTrue (is_hash b) → bytes ≡ text ++ after → IsRun is_feed text after → Gap rest after → Gap rest (b ∷ bytes)

-- what stands after an opening quote, up to and with the closing one; a backslash takes the next byte with it
pub data IsQuoted : List ℕ → Type 0 where
  closing : (b : ℕ) → IsTrue (is_quote b) → IsQuoted (b ∷ [])
  escape : (b c : ℕ) (text : List ℕ) → IsTrue (is_backslash b) → IsQuoted text → IsQuoted (b ∷ c ∷ text)
  other : (b : ℕ) (text : List ℕ) → IsFalse (is_quote b) → IsFalse (is_backslash b) → IsQuoted text → IsQuoted (b ∷ text)

-- a token and what follows it: a name runs to white space; a string ends with its quote, and white space or a comment
-- must follow; a word runs to white space or a comment
pub data IsToken : List ℕ → List ℕ → Type 0 where
  name : (b : ℕ) (run rest : List ℕ) → IsTrue (begins_name b) → IsRun is_space run rest → IsToken (b ∷ run) rest
  string : (b : ℕ) (text rest : List ℕ) → IsTrue (is_quote b) → IsQuoted text → IsTrue (ends_at is_break rest) → IsToken (b ∷ text) rest
  word : (b : ℕ) (run rest : List ℕ) → IsTrue (begins_word b) → IsRun is_break run rest → IsToken (b ∷ run) rest

-- a token: its text, and at which byte of the whole text it starts
pub record TokenOf : Type 0 where
  pub start : ℕ
  pub text : List ℕ

-- The bytes, which are the end of a text of n bytes, are these tokens, with a gap before each and one after the last.
pub data Lexes (n : ℕ) : List ℕ → List TokenOf → Type 0 where
  last_gap : (bytes : List ℕ) → Gap [] bytes → Lexes n bytes []
  token : (t : TokenOf) (ts : List TokenOf) (bytes rest : List ℕ) → Gap (t.text ++ rest) bytes → IsToken t.text rest
      → t.start + length (t.text ++ rest) ≡ n → Lexes n rest ts → Lexes n bytes (t ∷ ts)

-- the whole text is these tokens
abbrev pub IsTokens : List ℕ → List TokenOf → Type 0
IsTokens bytes ts = Lexes (length bytes) bytes ts

-- The bytes, which are the end of a text of n bytes, begin with these tokens, and `left` is what stands after the last.
pub data Front (n : ℕ) (left : List ℕ) : List ℕ → List TokenOf → Type 0 where
  none_yet : Front n left left []
  token : (t : TokenOf) (ts : List TokenOf) (bytes rest : List ℕ) → Gap (t.text ++ rest) bytes → IsToken t.text rest
      → t.start + length (t.text ++ rest) ≡ n → Front n left rest ts → Front n left bytes (t ∷ ts)

-- the text begins with these tokens
abbrev pub Begins : List ℕ → List TokenOf → Type 0
Begins bytes ts = (left : List ℕ) × Front (length bytes) left bytes ts

-- the second list begins with the first
abbrev pub IsStart : List TokenOf → List TokenOf → Type 0
IsStart ts us = (more : List TokenOf) × (us ≡ ts ++ more)

-- the text begins with these tokens, and what comes next, at this byte, is no token: a quote that opens no string
pub record Breaks (bytes : List ℕ) (ts : List TokenOf) (byte : ℕ) : Type 0 where
  pub left : List ℕ
  pub front : Front (length bytes) left bytes ts
  pub more : List ℕ
  pub gap : Gap (34 ∷ more) left
  pub place : byte + length (34 ∷ more) ≡ length bytes
  pub no_token : (text rest : List ℕ) → 34 ∷ more ≡ text ++ rest → IsToken text rest → ⊥

-- a lexer: its text, and at which byte it goes on
pub record LexerOf : Type 0 where
  pub bytes : List ℕ
  pub place : ℕ

abbrev pub lexer_at : List ℕ → ℕ → LexerOf
lexer_at bytes place = record { bytes = bytes; place = place }

abbrev pub left : LexerOf → List ℕ
left l = drop l.place l.bytes

-- the tokens that are left
abbrev pub Left : LexerOf → List TokenOf → Type 0
Left l ts = Lexes (length l.bytes) (left l) ts

-- from old the lexer took this token, whose text is the slice of its span, and goes on after it
pub record IsNext (old new : LexerOf) (t : TokenOf) : Type 0 where
  pub bytes : new.bytes ≡ old.bytes
  pub gap : Gap (t.text ++ left new) (left old)
  pub token : IsToken t.text (left new)
  pub span : new.place ≡ t.start + length t.text
  pub rises : old.place ≤ t.start
  pub within : new.place ≤ length old.bytes
  pub slice : t.text ≡ slice_range old.bytes t.start new.place

-- at this byte, after the gap, stands the opening quote of what is no string token
pub record IsFault (l : LexerOf) (byte : ℕ) : Type 0 where
  pub more : List ℕ
  pub quote : drop byte l.bytes ≡ 34 ∷ more
  pub gap : Gap (34 ∷ more) (left l)
  pub no_token : (text rest : List ℕ) → 34 ∷ more ≡ text ++ rest → IsToken text rest → ⊥
