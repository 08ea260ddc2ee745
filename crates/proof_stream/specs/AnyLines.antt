-- Binary proofs and their text, whatever the variables and however long the lines.
use Rattle.std.specs.Prelude.{◌≡◌, ◌⊎◌, Contains, ℕ, ◌+◌, ◌<◌, ◌≤◌, Bool, true, cond, ◌&&◌, leb, List, [], ◌∷◌, ◌++◌, length, Option, Some, None, codes}
use Rattle.cnf_form.specs.Cnf.{LitOf, index_of}
use Rattle.cert_stream.specs.Text.{NoFeed, Word, literal_of, words_from}
use Rattle.cert_stream.specs.Places.{IsZero}
use Rattle.cert_stream.specs.Stream.{bad}
use Rattle.cert_stream.specs.Telling.{Saying}
use Rattle.cert_stream.specs.declared.mode.ParseFaultKind.{ParseFaultKind}
use Rattle.cert_stream.specs.declared.mode.ParseFaultKind.TheVariants.{BadLiteral, LineTooLong}
use Rattle.proof_stream.specs.Binary.{line_said}
use Rattle.proof_stream.specs.Spelling.{AreGroups, ProofLine, groups_value, letter}
use Rattle.proof_stream.specs.declared.spot.LineKind.{LineKind}
use Rattle.proof_stream.specs.declared.spot.LineKind.TheVariants.{Clause, Deletion}

-- the bytes are the number of a literal, whose variable is at least 1; it has at most five groups where the variable is at most `vars`
abbrev pub IsNumberOf : ℕ → List ℕ → LitOf → Type 0
IsNumberOf vars bytes l = AreGroups bytes × (groups_value 1 bytes ≡ index_of l) × (0 < l.var) × (l.var ≤ vars → length bytes ≤ 5)

-- literals, one number each
abbrev pub AreNumbersOf : ℕ → List ℕ → List LitOf → Type 0
AreNumbersOf vars bytes [] = bytes ≡ []
AreNumbersOf vars bytes (l ∷ c) = (front : List ℕ) × (rest : List ℕ) × (bytes ≡ front ++ rest) × IsNumberOf vars front l × AreNumbersOf vars rest c

-- the bytes are these lines: a or d, literals, and 0
abbrev pub AreBinaryLines : ℕ → List ℕ → List ProofLine → Type 0
AreBinaryLines vars bytes [] = bytes ≡ []
AreBinaryLines vars bytes (l ∷ ls) = (text : List ℕ) × (rest : List ℕ) × (bytes ≡ letter l.kind ∷ text ++ 0 ∷ rest) × AreNumbersOf vars text l.lits × AreBinaryLines vars rest ls

-- whole words that write the literals
abbrev pub WriteAny : List Word → List LitOf → Type 0
WriteAny [] c = c ≡ []
WriteAny (w ∷ ws) [] = ⊥
WriteAny (w ∷ ws) (l ∷ c) = (w.done ≡ true) × (literal_of l.var w.text ≡ Some l) × WriteAny ws c

-- the words of a line are the literals and 0, after d in that of a deletion
abbrev pub IsTextLine : LineKind → List LitOf → List Word → Type 0
IsTextLine Clause c words = (ws : List Word) × (zero : Word) × (words ≡ ws ++ zero ∷ []) × WriteAny ws c × IsZero zero
IsTextLine Deletion c words = (first : Word) × (ws : List Word) × (zero : Word) × (words ≡ first ∷ ws ++ zero ∷ []) × (first.text ≡ codes "d") × WriteAny ws c × IsZero zero

-- the text from byte number `at` on is these lines, one line of text each
abbrev pub AreTextLines : ℕ → List ℕ → List ProofLine → Type 0
AreTextLines at bytes [] = bytes ≡ []
AreTextLines at bytes (l ∷ ls) =
    (text : List ℕ) × (rest : List ℕ) × (bytes ≡ text ++ 10 ∷ rest) × NoFeed text × IsTextLine l.kind l.lits (words_from true at [] text) × AreTextLines (at + length text + 1) rest ls

-- t is the text of the binary proof b, one line each, of literals of any variables, and of any length
abbrev pub SpeltAny : ℕ → List ℕ → List ℕ → Type 0
SpeltAny vars b t = (lines : List ProofLine) × AreBinaryLines vars b lines × AreTextLines 0 t lines

-- what is at fault with a line's literals; where the fault may be either, a text tells it by a literal's first digits, and a binary proof by its
-- first groups
pub data LineFault : Type 0 where
  Sure : ParseFaultKind → LineFault
  Either : LineFault

abbrev pub is_within : ℕ → LitOf → Bool
is_within vars l = leb 1 l.var && leb l.var vars

-- after n others: the first of a variable that isn't one from 1 to `vars`, or the one after `vars`; either where it is both
abbrev pub fault_in : ℕ → ℕ → List LitOf → Option LineFault
fault_in vars n [] = None
fault_in vars n (l ∷ c) = cond (is_within vars l) (cond (leb vars n) (Some (Sure LineTooLong)) (fault_in vars (n + 1) c)) (Some (cond (leb vars n) Either (Sure BadLiteral)))

-- this kind is told
abbrev pub Tells : LineFault → ParseFaultKind → Type 0
Tells (Sure kind) told = told ≡ kind
Tells Either told = (told ≡ BadLiteral) ⊎ (told ≡ LineTooLong)

-- the lines are said, at whatever places, up to the first with a fault
abbrev pub SaidBy : Option LineFault → ProofLine → (List Saying → Type 0) → List Saying → Type 0
SaidBy None l rest ss = (place : ℕ) × (more : List Saying) × (ss ≡ line_said l.kind place l.lits ∷ more) × rest more
SaidBy (Some fault) l rest ss = (kind : ParseFaultKind) × (byte : ℕ) × Tells fault kind × (ss ≡ bad kind byte)

abbrev pub AreSaidTo : ℕ → List ProofLine → List Saying → Type 0
AreSaidTo vars [] ss = ss ≡ []
AreSaidTo vars (l ∷ ls) ss = SaidBy (fault_in vars 0 l.lits) l (AreSaidTo vars ls) ss

-- in some line a literal of a greater variable comes after as many as there are variables
abbrev pub IsCrowded : ℕ → List ProofLine → Type 0
IsCrowded vars lines = (l : ProofLine) × Contains lines l × (fault_in vars 0 l.lits ≡ Some Either)
