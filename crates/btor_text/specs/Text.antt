-- The text as it is written: a line for each of the model's, with one space between words.
use Rattle.std.specs.Prelude.{ℕ, Bool, List, [], ◌∷◌, ◌++◌, map}
use Rattle.std.specs.List.{flat_map}
use Rattle.std.specs.Fmt.{decimal}
use Rattle.btor_core.specs.declared.line.Line.{Line}
use Rattle.btor_core.specs.Shape.{BtorOf}
use Rattle.btor_text.specs.Grammar.{Part, bits, bits_text, key, line_parts, number}

abbrev pub part_text : Part → List ℕ
part_text (key k) = k
part_text (number n) = decimal n
part_text (bits bs) = bits_text bs

-- words with one space between, and a line feed after the last
abbrev pub spaced : List (List ℕ) → List ℕ
spaced [] = 10 ∷ []
spaced (w ∷ []) = w ++ 10 ∷ []
spaced (w ∷ v ∷ ws) = w ++ 32 ∷ spaced (v ∷ ws)

abbrev pub line_text : List Bool → Line → List ℕ
line_text constants l = spaced (map part_text (line_parts constants l))

abbrev pub text_of : BtorOf → List ℕ
text_of m = flat_map (line_text m.constants) m.lines
