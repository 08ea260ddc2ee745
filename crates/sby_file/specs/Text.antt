-- The text of a task file: lines, comments and words.
use Rattle.std.specs.Prelude.{ℕ, suc, ◌-◌, Bool, true, cond, ◌&&◌, ◌||◌, eqb, leb, List, [], ◌∷◌, length, take, drop, slice_index}
use Rattle.std.specs.List.{suffix_len}

-- white space: space, tab and carriage return
abbrev pub is_blank : ℕ → Bool
is_blank b = eqb b 32 || eqb b 9 || eqb b 13

abbrev pub put_first : ℕ → List (List ℕ) → List (List ℕ)
put_first b [] = (b ∷ []) ∷ []
put_first b (t ∷ ts) = (b ∷ t) ∷ ts

-- the lines of a text: each ends with a line feed or with the end of the text
abbrev pub lines_of : List ℕ → List (List ℕ)
lines_of [] = []
lines_of (b ∷ bs) = cond (eqb b 10) ([] ∷ lines_of bs) (put_first b (lines_of bs))

-- the words of a line: the longest runs of visible bytes
abbrev pub words_of : List ℕ → List (List ℕ)
words_of [] = []
words_of (b ∷ []) = cond (is_blank b) [] ((b ∷ []) ∷ [])
words_of (b ∷ c ∷ bs) =
    cond (is_blank b) (words_of (c ∷ bs))
    (cond (is_blank c) ((b ∷ []) ∷ words_of (c ∷ bs)) (put_first b (words_of (c ∷ bs))))

-- how much white space stands in front, and how many visible bytes
abbrev pub blanks_before : List ℕ → ℕ
blanks_before [] = 0
blanks_before (b ∷ bs) = cond (is_blank b) (suc (blanks_before bs)) 0

abbrev pub visible_before : List ℕ → ℕ
visible_before [] = 0
visible_before (b ∷ bs) = cond (is_blank b) 0 (suc (visible_before bs))

-- how many bytes stand before a comment: a `#` begins one at the line's start and after white space
abbrev pub comment_place : Bool → List ℕ → ℕ
comment_place after_blank [] = 0
comment_place after_blank (b ∷ bs) = cond (after_blank && eqb b 35) 0 (suc (comment_place (is_blank b) bs))

-- a line without its comment
abbrev pub uncommented : List ℕ → List ℕ
uncommented text = take (comment_place true text) text

-- a text without the white space in front, and without that around it
abbrev pub front_trimmed : List ℕ → List ℕ
front_trimmed text = drop (blanks_before text) text

abbrev pub back_trimmed : List ℕ → List ℕ
back_trimmed text = take (length text - suffix_len is_blank text) text

abbrev pub trimmed : List ℕ → List ℕ
trimmed text = back_trimmed (front_trimmed text)

-- a text that begins with `[` and ends with `]`, and what stands between
abbrev pub is_bracketed : List ℕ → Bool
is_bracketed text = leb 2 (length text) && (eqb (slice_index text 0) 91 && eqb (slice_index text (length text - 1)) 93)

abbrev pub bracket_inside : List ℕ → List ℕ
bracket_inside text = take (length text - 2) (drop 1 text)
