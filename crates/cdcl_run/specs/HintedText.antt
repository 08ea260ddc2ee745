-- The lines of the engine's hinted stream.
use Rattle.std.specs.Prelude.{ℕ, List, [], ◌∷◌, ◌++◌, codes, decimal}
use Rattle.cnf_form.specs.Cnf.{LitOf}
use Rattle.cnf_form.specs.Dimacs.{literal_text}
use Rattle.cdcl_core.specs.Lines.{LogLine, Adds, Notes, Drops}

-- ids, each with a space after it, 0 and a line feed
abbrev pub ids_text : List ℕ → List ℕ
ids_text [] = codes "0" ++ 10 ∷ []
ids_text (id ∷ ids) = decimal id ++ 32 ∷ ids_text ids

-- literals, each with a space after it, and 0 and a space
abbrev pub literals_text : List LitOf → List ℕ
literals_text [] = codes "0 "
literals_text (l ∷ c) = literal_text l ++ 32 ∷ literals_text c

-- a clause: its id, its literals and its hints
abbrev pub addition_text : List LitOf → ℕ → List ℕ → List ℕ
addition_text c id hints = decimal id ++ 32 ∷ (literals_text c ++ ids_text hints)

-- a fact is the clause of its literal; a deletion's own id is 1
abbrev pub hinted_line : LogLine → List ℕ
hinted_line (Adds c id hints) = addition_text c id hints
hinted_line (Notes l id hints) = addition_text (l ∷ []) id hints
hinted_line (Drops c id) = codes "1 d " ++ ids_text (id ∷ [])

abbrev pub hinted_text : List LogLine → List ℕ
hinted_text [] = []
hinted_text (l ∷ ls) = hinted_line l ++ hinted_text ls
