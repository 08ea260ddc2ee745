-- DIMACS: which bytes are which formula, and the bytes that are written.
use Rattle.std.specs.Prelude.{◌≡◌, ◌≢◌, ℕ, ◌<◌, ◌≤◌, ◌⊎◌, ◌^◌, Bool, true, false, if◌then◌else◌, List, [], ◌∷◌, ◌++◌, length, All, slice_index, codes, decimal}
use Rattle.std.specs.Str.Parse.{IsNumeral, digits_value}
use Rattle.cnf_form.specs.Cnf.{LitOf, FormulaOf, Within}

-- a line feed; and the white space within a line: space, tab, carriage return
abbrev pub IsFeed : ℕ → Type 0
IsFeed b = b ≡ 10

abbrev pub IsBlank : ℕ → Type 0
IsBlank b = (b ≡ 32) ⊎ (b ≡ 9) ⊎ (b ≡ 13)

abbrev pub IsSpace : ℕ → Type 0
IsSpace b = IsFeed b ⊎ IsBlank b

-- Each other byte, also a control byte, belongs to a word.
abbrev pub IsWordByte : ℕ → Type 0
IsWordByte b = IsSpace b → ⊥

-- a word ends where the bytes end, or at white space
abbrev pub EndsWord : List ℕ → Type 0
EndsWord [] = Unit {0}
EndsWord (b ∷ bs) = IsSpace b

-- the first word of the bytes, and what follows it
pub record NextWord (bytes word rest : List ℕ) : Type 0 where
  pub gap : List ℕ
  pub split : bytes ≡ gap ++ (word ++ rest)
  pub blank : All IsSpace gap
  pub some : 0 < length word
  pub visible : All IsWordByte word
  pub ends : EndsWord rest

-- a line ends here
abbrev pub EndsLine : List ℕ → Type 0
EndsLine [] = Unit {0}
EndsLine (b ∷ bs) = IsFeed b

-- White space and comment lines are passed over. The first argument tells whether only blanks stand before in the line:
-- there a c begins a comment, which takes the rest of the line.
pub data Skips : Bool → List ℕ → List ℕ → Type 0 where
  stay : (fresh : Bool) (bytes : List ℕ) → Skips fresh bytes bytes
  blank : (fresh : Bool) (b : ℕ) (bytes rest : List ℕ) → IsBlank b → Skips fresh bytes rest → Skips fresh (b ∷ bytes) rest
  feed : (fresh : Bool) (b : ℕ) (bytes rest : List ℕ) → IsFeed b → Skips true bytes rest → Skips fresh (b ∷ bytes) rest
  comment : (text after rest bytes : List ℕ) → bytes ≡ 99 ∷ (text ++ after) → All (λ b. b ≢ 10) text → EndsLine after → Skips false after rest → Skips true bytes rest

-- a decimal number without leading zeros
pub record IsNumber (word : List ℕ) (n : ℕ) : Type 0 where
  pub digits : IsNumeral 10 word
  pub value : digits_value 10 word ≡ n
  pub shortest : (word ≡ 48 ∷ []) ⊎ (slice_index word 0 ≢ 48)

-- a variable's number, with a minus sign before it where the literal is negated
abbrev pub IsLiteral : List ℕ → LitOf → Type 0
IsLiteral word l = (digits : List ℕ) × IsNumber digits l.var × (0 < l.var) × (word ≡ (if l.negated then 45 ∷ digits else digits))

-- a clause is its literals and the word 0, and what follows it
pub data IsClause : List ℕ → List LitOf → List ℕ → Type 0 where
  ended : (bytes rest : List ℕ) → NextWord bytes (48 ∷ []) rest → IsClause bytes [] rest
  literal : (bytes word mid rest : List ℕ) (l : LitOf) (c : List LitOf) → NextWord bytes word mid → IsLiteral word l → IsClause mid c rest → IsClause bytes (l ∷ c) rest

-- clauses, with comment lines before, between and after them
pub data IsBody : Bool → List ℕ → List (List LitOf) → Type 0 where
  no_clause : (fresh : Bool) (bytes : List ℕ) → Skips fresh bytes [] → IsBody fresh bytes []
  clause : (fresh : Bool) (bytes front rest : List ℕ) (c : List LitOf) (F : List (List LitOf)) → Skips fresh bytes front → IsClause front c rest → IsBody false rest F → IsBody fresh bytes (c ∷ F)

-- The bytes are the formula in DIMACS: comment lines, the words p, cnf, V and C, and C clauses over the variables 1 to V.
pub record IsDimacs (bytes : List ℕ) (f : FormulaOf) : Type 0 where
  pub header : List ℕ
  pub after_p : List ℕ
  pub after_cnf : List ℕ
  pub vars_word : List ℕ
  pub after_vars : List ℕ
  pub count_word : List ℕ
  pub body : List ℕ
  pub lead : Skips true bytes header
  pub p : NextWord header (codes "p") after_p
  pub cnf : NextWord after_p (codes "cnf") after_cnf
  pub vars_next : NextWord after_cnf vars_word after_vars
  pub vars : IsNumber vars_word f.vars
  pub limit : f.vars ≤ 2 ^ 27
  pub count_next : NextWord after_vars count_word body
  pub count : IsNumber count_word (length f.clauses)
  pub within : Within f.vars f.clauses
  pub clauses : IsBody false body f.clauses

-- As it is written: one clause a line, each literal followed by a space, then 0.
abbrev pub literal_text : LitOf → List ℕ
literal_text l = if l.negated then 45 ∷ decimal l.var else decimal l.var

abbrev pub clause_text : List LitOf → List ℕ
clause_text [] = 48 ∷ 10 ∷ []
clause_text (l ∷ c) = literal_text l ++ 32 ∷ clause_text c

abbrev pub body_text : List (List LitOf) → List ℕ
body_text [] = []
body_text (c ∷ F) = clause_text c ++ body_text F

abbrev pub header_text : ℕ → ℕ → List ℕ
header_text vars count = codes "p cnf " ++ (decimal vars ++ 32 ∷ (decimal count ++ 10 ∷ []))

abbrev pub dimacs_text : FormulaOf → List ℕ
dimacs_text f = header_text f.vars (length f.clauses) ++ body_text f.clauses
