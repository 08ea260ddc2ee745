-- The values of options.
use Rattle.std.specs.Prelude.{ℕ, ◌+◌, Bool, true, false, cond, eqb, List, [], ◌∷◌, ◌++◌, length, Option, Some, None, codes, bytes_eq}
use Rattle.std.specs.List.{flat_map}
use Rattle.std.specs.Str.{str_to_ascii_lowercase}
use Rattle.sby_terms.specs.Number.{number_upto}
use denote.Ref.{Bor}
use Rattle.sby_file.specs.Text.{put_first, words_of}
use Rattle.sby_task.specs.declared.draft.By.{By}
use Rattle.sby_task.specs.declared.draft.By.TheVariants.{Induction, Invariant}
use Rattle.sby_terms.specs.declared.names.Mode.{Mode}
use Rattle.sby_terms.specs.declared.names.Mode.TheVariants.{Bmc, Prove, ProveInv, Cover}
use Rattle.sby_terms.specs.declared.names.Status.{Status}
use Rattle.sby_terms.specs.declared.names.Status.TheVariants.{Pass, Fail, Unknown, Error, Timeout}

-- the number that a value of one word writes, from 1 to `most`
abbrev pub number_of : ℕ → List (List ℕ) → Option ℕ
number_of most [] = None
number_of most (word ∷ []) = number_upto most word
number_of most (word ∷ next ∷ words) = None

-- the number that a value of one word writes, from 0 to `most`
abbrev pub word_count : ℕ → List ℕ → Option ℕ
word_count most word = cond (bytes_eq word (codes "0")) (Some 0) (number_upto most word)

abbrev pub count_of : ℕ → List (List ℕ) → Option ℕ
count_of most [] = None
count_of most (word ∷ []) = word_count most word
count_of most (word ∷ next ∷ words) = None

abbrev pub word_mode : List ℕ → Option Mode
word_mode word =
    cond (bytes_eq word (codes "bmc")) (Some Bmc) (cond (bytes_eq word (codes "prove")) (Some Prove) (cond (bytes_eq word (codes "cover")) (Some Cover) None))

abbrev pub mode_of : List (List ℕ) → Option Mode
mode_of [] = None
mode_of (word ∷ []) = word_mode word
mode_of (word ∷ next ∷ words) = None

abbrev pub word_by : List ℕ → Option By
word_by word = cond (bytes_eq word (codes "induction")) (Some Induction) (cond (bytes_eq word (codes "invariant")) (Some Invariant) None)

abbrev pub by_of : List (List ℕ) → Option By
by_of [] = None
by_of (word ∷ []) = word_by word
by_of (word ∷ next ∷ words) = None

-- the mode, by how it is proved that nothing breaks
abbrev pub mode_by : Mode → Option By → Mode
mode_by Bmc by = Bmc
mode_by Prove None = Prove
mode_by Prove (Some Induction) = Prove
mode_by Prove (Some Invariant) = ProveInv
mode_by ProveInv by = ProveInv
mode_by Cover by = Cover

abbrev pub word_switch : List ℕ → Option Bool
word_switch word = cond (bytes_eq word (codes "on")) (Some true) (cond (bytes_eq word (codes "off")) (Some false) None)

abbrev pub switch_of : List (List ℕ) → Option Bool
switch_of [] = None
switch_of (word ∷ []) = word_switch word
switch_of (word ∷ next ∷ words) = None

-- a status's name in any case
abbrev pub names_status : List ℕ → List ℕ → Bool
names_status word name = bytes_eq (str_to_ascii_lowercase word) name

abbrev pub status_of : List ℕ → Option Status
status_of word =
    cond (names_status word (codes "pass")) (Some Pass)
    (cond (names_status word (codes "fail")) (Some Fail)
    (cond (names_status word (codes "unknown")) (Some Unknown)
    (cond (names_status word (codes "error")) (Some Error) (cond (names_status word (codes "timeout")) (Some Timeout) None))))

-- what stands between commas
abbrev pub pieces_of : List ℕ → List (List ℕ)
pieces_of [] = [] ∷ []
pieces_of (b ∷ bs) = cond (eqb b 44) ([] ∷ pieces_of bs) (put_first b (pieces_of bs))

abbrev pub later_pieces : Option (Bor (List ℕ)) → List (List ℕ)
later_pieces None = []
later_pieces (Some text) = pieces_of text.now

-- one more than the bytes that are left, or none
abbrev pub pieces_left : Option (Bor (List ℕ)) → ℕ
pieces_left None = 0
pieces_left (Some text) = 1 + length text.now

-- a piece is one word that names a status
abbrev pub word_status : List (List ℕ) → Option Status
word_status [] = None
word_status (word ∷ []) = status_of word
word_status (word ∷ next ∷ words) = None

abbrev pub piece_status : List ℕ → Option Status
piece_status piece = word_status (words_of piece)

abbrev pub with_status : Option Status → Option (List Status) → Option (List Status)
with_status None later = None
with_status (Some status) None = None
with_status (Some status) (Some later) = Some (status ∷ later)

abbrev pub statuses_from : List (List ℕ) → Option (List Status)
statuses_from [] = Some []
statuses_from (piece ∷ pieces) = with_status (piece_status piece) (statuses_from pieces)

-- words with a space after each
abbrev pub words_text : List (List ℕ) → List ℕ
words_text words = flat_map (λ word. word ++ 32 ∷ []) words

-- a list of statuses with commas between them
abbrev pub statuses_of : List (List ℕ) → Option (List Status)
statuses_of value = statuses_from (pieces_of (words_text value))
