-- The lines of the engine's stream.
use Rattle.std.specs.Prelude.{◌≡◌, ◌≢◌, ℕ, ◌+◌, ◌<◌, ◌≤◌, Bool, not, ◌%◌, ◌==◌, ◌&&◌, nat_lt, if◌then◌else◌, List, [], ◌∷◌, ◌++◌, length, flat_map, codes, decimal, All}
use Rattle.cnf_form.specs.Cnf.{LitOf, Line, Addition, Deletion}
use Rattle.cnf_form.specs.Dimacs.{literal_text, clause_text}
use Rattle.cdcl_core.specs.Lines.{LogLine, Adds, Notes, Drops}
use Rattle.cnf_form.specs.declared.reader.DimacsFaultKind.{DimacsFaultKind}
use Rattle.cnf_form.specs.declared.reader.DimacsFaultKind.TheVariants.{Header, Literal, Count}

-- a text and the line feed after it
abbrev pub line : List ℕ → List ℕ
line text = text ++ 10 ∷ []

-- literals, each with a space after it
abbrev pub words_text : List LitOf → List ℕ
words_text [] = []
words_text (l ∷ c) = literal_text l ++ 32 ∷ words_text c

-- a line of a proof: the literals, each with a space after it, and 0; a deletion has a d and a space before them
abbrev pub proof_line : Line → List ℕ
proof_line (Addition c) = clause_text c
proof_line (Deletion c) = codes "d " ++ clause_text c

abbrev pub proof_text : List Line → List ℕ
proof_text [] = []
proof_text (l ∷ ls) = proof_line l ++ proof_text ls

-- what a log's line is as lines of a proof without hints: a fact is none
abbrev pub log_line : LogLine → List ℕ
log_line (Adds c id hints) = clause_text c
log_line (Notes l id hints) = []
log_line (Drops c id) = codes "d " ++ clause_text c

abbrev pub log_text : List LogLine → List ℕ
log_text [] = []
log_text (l ∷ ls) = log_line l ++ log_text ls

-- the sign of a literal
abbrev pub sign_text : LitOf → List ℕ
sign_text l = if l.negated then codes "-" else []

-- the literal of each variable from one on that is true, in order
abbrev pub literals_from : ℕ → List Bool → List LitOf
literals_from v [] = []
literals_from v (b ∷ bs) = record { var = v; negated = not b } ∷ literals_from (v + 1) bs

-- literals, each with a space before it
abbrev pub spaced : List LitOf → List ℕ
spaced [] = []
spaced (l ∷ c) = 32 ∷ (literal_text l ++ spaced c)

abbrev pub value_line : List LitOf → List ℕ
value_line c = codes "v" ++ (spaced c ++ 10 ∷ [])

abbrev pub last_value_line : List LitOf → List ℕ
last_value_line c = codes "v" ++ (spaced c ++ (codes " 0" ++ 10 ∷ []))

-- The lines of values name the literals in order, ten each; the last one, which has at most ten, and some where there are any,
-- ends with 0.
pub record AreValueLines (lits : List LitOf) (text : List ℕ) : Type 0 where
  pub rows : List (List LitOf)
  pub last : List LitOf
  pub all : flat_map (λ c. c) rows ++ last ≡ lits
  pub tens : All (λ c. length c ≡ 10) rows
  pub most : length last ≤ 10
  pub some : lits ≢ [] → 0 < length last
  pub text_is : text ≡ flat_map value_line rows ++ last_value_line last

-- what stands before a variable's value: a new line after each ten
abbrev pub break_text : ℕ → List ℕ
break_text v = if nat_lt 1 v && (v % 10 == 1) then 10 ∷ codes "v" else []

-- the other lines
abbrev pub usage_line : List ℕ
usage_line = line (codes "c usage: cdcl_program [--conflicts n] FILE.cnf | cdcl_program --hints [--conflicts n] FILE.cnf | cdcl_program --serve HOST:PORT --count n")

abbrev pub file_line : List ℕ
file_line = line (codes "c fault: file")

abbrev pub long_line : List ℕ
long_line = line (codes "c fault: long")

abbrev pub kind_text : DimacsFaultKind → List ℕ
kind_text Header = codes "Header"
kind_text Literal = codes "Literal"
kind_text Count = codes "Count"

abbrev pub fault_line : DimacsFaultKind → ℕ → List ℕ
fault_line kind byte = codes "c fault: byte " ++ (decimal byte ++ 32 ∷ (kind_text kind ++ 10 ∷ []))

abbrev pub unsatisfiable_line : List ℕ
unsatisfiable_line = line (codes "s UNSATISFIABLE")

abbrev pub satisfiable_line : List ℕ
satisfiable_line = line (codes "s SATISFIABLE")

abbrev pub unknown_line : List ℕ
unknown_line = line (codes "s UNKNOWN")
