-- How a text in DIMACS is read word by word, and where a text is none.
use Rattle.std.specs.Prelude.{◌≡◌, ◌≢◌, ◌⊎◌, ℕ, ◌+◌, ◌<◌, ◌≤◌, ◌^◌, Bool, true, false, List, [], ◌∷◌, ◌++◌, length, All, codes}
use Rattle.cnf_form.specs.Cnf.{LitOf, LitWithin}
use Rattle.cnf_form.specs.Dimacs.{IsFeed, IsBlank, IsWordByte, EndsWord, EndsLine, IsNumber, IsLiteral}
use Rattle.cnf_form.specs.declared.reader.BodyEnd.{BodyEnd}
use Rattle.cnf_form.specs.declared.reader.BodyEnd.TheVariants.{Whole, Cut, Bad}
use Rattle.cnf_form.specs.declared.reader.DimacsFaultKind.{DimacsFaultKind}
use Rattle.cnf_form.specs.declared.reader.DimacsFaultKind.TheVariants.{Header, Literal, Count}

-- White space is passed over up to the next word or the end, and comment lines where these are allowed. The flag tells
-- whether a c would begin a comment: only blanks stand before it in its line.
pub data Gap (comments : Bool) : Bool → List ℕ → List ℕ → Type 0 where
  over : (fresh : Bool) → Gap comments fresh [] []
  visible : (fresh : Bool) (b : ℕ) (bytes : List ℕ) → IsWordByte b → (fresh ≡ true → b ≢ 99) → Gap comments fresh (b ∷ bytes) (b ∷ bytes)
  blank : (fresh : Bool) (b : ℕ) (bytes rest : List ℕ) → IsBlank b → Gap comments fresh bytes rest → Gap comments fresh (b ∷ bytes) rest
  feed : (fresh : Bool) (b : ℕ) (bytes rest : List ℕ) → IsFeed b → Gap comments comments bytes rest → Gap comments fresh (b ∷ bytes) rest
  comment : (bytes text after rest : List ℕ) → bytes ≡ 99 ∷ (text ++ after) → All (λ b. b ≢ 10) text → EndsLine after → Gap comments false after rest → Gap comments true bytes rest

-- the bytes begin with a word
pub record BeginsWith (bytes word rest : List ℕ) : Type 0 where
  pub split : bytes ≡ word ++ rest
  pub some : 0 < length word
  pub plain : All IsWordByte word
  pub ends : EndsWord rest

-- the bytes are a word and what follows it, or the end
pub record Parts (bytes word rest : List ℕ) : Type 0 where
  pub split : bytes ≡ word ++ rest
  pub plain : All IsWordByte word
  pub ends : EndsWord rest
  pub none : length word ≡ 0 → bytes ≡ []

-- the words of a header, in order
pub data HeaderWord : Type 0 where
  IsP : HeaderWord
  IsCnf : HeaderWord
  IsVars : HeaderWord
  IsCount : HeaderWord

abbrev pub Fits : HeaderWord → List ℕ → Type 0
Fits IsP word = word ≡ codes "p"
Fits IsCnf word = word ≡ codes "cnf"
Fits IsVars word = (n : ℕ) × IsNumber word n × (n ≤ 2 ^ 27)
Fits IsCount word = (n : ℕ) × IsNumber word n

-- the words do not all follow: at is the text from the first one that doesn't fit, or its end; comments are allowed before
-- the first word of a text
pub data HeaderFails : Bool → List HeaderWord → List ℕ → List ℕ → Type 0 where
  missing : (first : Bool) (h : HeaderWord) (hs : List HeaderWord) (bytes : List ℕ) → Gap first first bytes [] → HeaderFails first (h ∷ hs) bytes []
  wrong : (first : Bool) (h : HeaderWord) (hs : List HeaderWord) (bytes at word rest : List ℕ) → Gap first first bytes at → BeginsWith at word rest → (Fits h word → ⊥) → HeaderFails first (h ∷ hs) bytes at
  later : (first : Bool) (h : HeaderWord) (hs : List HeaderWord) (bytes front word rest at : List ℕ) → Gap first first bytes front → BeginsWith front word rest → Fits h word → HeaderFails false hs rest at → HeaderFails first (h ∷ hs) bytes at

abbrev pub header_words : List HeaderWord
header_words = IsP ∷ IsCnf ∷ IsVars ∷ IsCount ∷ []

-- the text after comments is a word, and what follows it
pub record Finds (first : Bool) (bytes word rest : List ℕ) : Type 0 where
  pub front : List ℕ
  pub gap : Gap first first bytes front
  pub begins : BeginsWith front word rest

-- comment lines, the words p, cnf, V and C, and the body
pub record HasHeader (bytes : List ℕ) (V C : ℕ) (body : List ℕ) : Type 0 where
  pub after_p : List ℕ
  pub after_cnf : List ℕ
  pub vars_word : List ℕ
  pub after_vars : List ℕ
  pub count_word : List ℕ
  pub p : Finds true bytes (codes "p") after_p
  pub cnf : Finds false after_p (codes "cnf") after_cnf
  pub vars_next : Finds false after_cnf vars_word after_vars
  pub vars : IsNumber vars_word V
  pub limit : V ≤ 2 ^ 27
  pub count_next : Finds false after_vars count_word body
  pub count : IsNumber count_word C

-- what the words after a header are: clauses, an unfinished clause, or a word that is no literal, with the text from it
pub data Body : Type 0 where
  Clauses : List (List LitOf) → Body
  Unfinished : Body
  NoLiteral : List ℕ → Body

-- with a literal before its first clause's
abbrev pub with_literal : LitOf → Body → Body
with_literal l (Clauses []) = Clauses []
with_literal l (Clauses (c ∷ F)) = Clauses ((l ∷ c) ∷ F)
with_literal l Unfinished = Unfinished
with_literal l (NoLiteral at) = NoLiteral at

-- with an empty clause before its clauses
abbrev pub with_end : Body → Body
with_end (Clauses F) = Clauses ([] ∷ F)
with_end Unfinished = Unfinished
with_end (NoLiteral at) = NoLiteral at

-- The words from here on: the flag tells whether no clause is begun, so that comment lines may come.
pub data BodyIs (vars : ℕ) : Bool → List ℕ → Body → Type 0 where
  finished : (bytes : List ℕ) → Gap true false bytes [] → BodyIs vars true bytes (Clauses [])
  cut : (bytes : List ℕ) → Gap false false bytes [] → BodyIs vars false bytes Unfinished
  zero_ends : (between : Bool) (bytes front rest : List ℕ) (b b' : Body) → Gap between false bytes front → BeginsWith front (48 ∷ []) rest → BodyIs vars true rest b → b' ≡ with_end b → BodyIs vars between bytes b'
  literal : (between : Bool) (bytes front word rest : List ℕ) (l : LitOf) (b b' : Body) → Gap between false bytes front → BeginsWith front word rest → IsLiteral word l → LitWithin vars l → BodyIs vars false rest b → b' ≡ with_literal l b → BodyIs vars between bytes b'
  no_literal : (between : Bool) (bytes front word rest : List ℕ) → Gap between false bytes front → BeginsWith front word rest → word ≢ 48 ∷ [] → ((l : LitOf) → IsLiteral word l → LitWithin vars l → ⊥) → BodyIs vars between bytes (NoLiteral front)

-- the clauses of a body that was read, and how it ends
abbrev pub BodyEnds : ℕ → List ℕ → List (List LitOf) → BodyEnd → Type 0
BodyEnds vars body F Whole = BodyIs vars true body (Clauses F)
BodyEnds vars body F Cut = BodyIs vars true body Unfinished
BodyEnds vars body F (Bad at) = BodyIs vars true body (NoLiteral at.now)

-- the text from a word that is no literal is the body's
abbrev pub EndsWithin : List ℕ → BodyEnd → Type 0
EndsWithin body Whole = Unit {0}
EndsWithin body Cut = Unit {0}
EndsWithin body (Bad at) = length at.now ≤ length body

-- The text is no formula. The fault's byte is the first of the first word that no header can go on with, or that is no
-- literal up to V, or is the number of bytes, where a header is cut off, a clause is unfinished, or there are not C clauses.
abbrev pub IsFault : List ℕ → DimacsFaultKind → ℕ → Type 0
IsFault bytes Header byte = (at : List ℕ) × HeaderFails true header_words bytes at × (byte + length at ≡ length bytes)
IsFault bytes Literal byte = (vars : ℕ) × (count : ℕ) × (body : List ℕ) × (at : List ℕ) × HasHeader bytes vars count body × BodyIs vars true body (NoLiteral at) × (byte + length at ≡ length bytes)
IsFault bytes Count byte = (vars : ℕ) × (count : ℕ) × (body : List ℕ) × HasHeader bytes vars count body × (BodyIs vars true body Unfinished ⊎ (F : List (List LitOf)) × BodyIs vars true body (Clauses F) × (length F ≢ count)) × (byte ≡ length bytes)
