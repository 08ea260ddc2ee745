-- Prefixes of lines.
use Rattle.std.specs.Prelude.{ℕ, zero, suc, ◌-◌, Bool, false, cond, not, ◌&&◌, ◌||◌, eqb, leb, List, [], ◌∷◌, length, take, drop, slice_index, codes, bytes_eq}
use Rattle.std.specs.List.{list_all}

-- an ASCII letter, a digit or `_`
abbrev pub is_name_byte : ℕ → Bool
is_name_byte b = (leb 97 b && leb b 122) || (leb 65 b && leb b 90) || (leb 48 b && leb b 57) || eqb b 95

-- a word that can name a task or a tag
abbrev pub is_name : List ℕ → Bool
is_name word = not (eqb (length word) 0) && list_all is_name_byte word

-- `~` stands in front; a colon stands after it
abbrev pub is_negated : List ℕ → Bool
is_negated word = not (eqb (length word) 0) && eqb (slice_index word 0) 126

abbrev pub ends_prefix : List ℕ → Bool
ends_prefix word = not (eqb (length word) 0) && eqb (slice_index word (length word - 1)) 58

abbrev pub without_tilde : List ℕ → List ℕ
without_tilde word = cond (is_negated word) (drop 1 word) word

abbrev pub without_colon : List ℕ → List ℕ
without_colon word = cond (ends_prefix word) (take (length word - 1) word) word

-- the name that a word of a prefix speaks of
abbrev pub mark_name : List ℕ → List ℕ
mark_name word = without_tilde (without_colon word)

-- a word of a prefix, before the last and as the last
abbrev pub is_mark : List ℕ → Bool
is_mark word = not (ends_prefix word) && is_name (mark_name word)

abbrev pub is_last_mark : List ℕ → Bool
is_last_mark word = ends_prefix word && is_name (mark_name word)

-- one more than a number, but for 0
abbrev pub one_more : ℕ → ℕ
one_more zero = 0
one_more (suc n) = suc (suc n)

-- how many words are a line's prefix: its words up to the one with the colon, where each can be a word of a prefix
abbrev pub prefix_length : List (List ℕ) → ℕ
prefix_length [] = 0
prefix_length (word ∷ words) = cond (is_last_mark word) 1 (cond (is_mark word) (one_more (prefix_length words)) 0)

-- a line `--`
abbrev pub is_block_end : List (List ℕ) → Bool
is_block_end [] = false
is_block_end (word ∷ []) = bytes_eq word (codes "--")
is_block_end (word ∷ next ∷ words) = false

-- each word of a prefix speaks of a known name
abbrev pub are_known : (List ℕ → Bool) → List (List ℕ) → Bool
are_known known prefix = list_all (λ word. known (mark_name word)) prefix

-- the line opens a block: it is a prefix and no more
abbrev pub opens_block : List (List ℕ) → Bool
opens_block words = not (eqb (prefix_length words) 0) && eqb (prefix_length words) (length words)
