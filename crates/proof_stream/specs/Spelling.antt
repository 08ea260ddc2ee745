-- Binary proofs and their text.
use Rattle.std.specs.Prelude.{◌≡◌, ◌⊎◌, ℕ, ◌+◌, ◌*◌, ◌≤◌, Bool, true, false, leb, List, [], ◌∷◌, ◌++◌, length}
use Rattle.cnf_form.specs.Cnf.{LitOf, LitWithin, index_of}
use Rattle.cert_stream.specs.Text.{NoFeed, words_from}
use Rattle.cert_stream.specs.Places.{IsList}
use Rattle.cert_stream.specs.Stream.{bad}
use Rattle.cert_stream.specs.Telling.{Saying}
use Rattle.cert_stream.specs.declared.mode.ListKind.{ListKind}
use Rattle.cert_stream.specs.declared.mode.ParseFaultKind.{ParseFaultKind}
use Rattle.cert_stream.specs.declared.mode.ListKind.TheVariants.{Clause as ClauseList, Deletion as DeletionList}
use Rattle.proof_stream.specs.Numbers.{seven}
use Rattle.proof_stream.specs.Binary.{line_said}
use Rattle.proof_stream.specs.declared.spot.LineKind.{LineKind}
use Rattle.proof_stream.specs.declared.spot.LineKind.TheVariants.{Clause, Deletion}

-- a line of a proof
pub record ProofLine : Type 0 where
  pub kind : LineKind
  pub lits : List LitOf

-- each byte but the last has its top bit
abbrev pub AreGroups : List ℕ → Type 0
AreGroups [] = ⊥
AreGroups (b ∷ []) = leb 128 b ≡ false
AreGroups (b ∷ c ∷ bs) = (leb 128 b ≡ true) × AreGroups (c ∷ bs)

-- what groups make, the first of which has this weight, and each later one 128 times that of the one before it
abbrev pub groups_value : ℕ → List ℕ → ℕ
groups_value weight [] = 0
groups_value weight (b ∷ bs) = seven b * weight + groups_value (128 * weight) bs

-- bytes that are a number, of at most five groups
abbrev pub IsNumber : List ℕ → ℕ → Type 0
IsNumber bytes n = AreGroups bytes × (length bytes ≤ 5) × (groups_value 1 bytes ≡ n)

-- literals, one number each
abbrev pub AreNumbers : ℕ → List ℕ → List LitOf → Type 0
AreNumbers vars bytes [] = bytes ≡ []
AreNumbers vars bytes (l ∷ c) = (front : List ℕ) × (rest : List ℕ) × (bytes ≡ front ++ rest) × IsNumber front (index_of l) × LitWithin vars l × AreNumbers vars rest c

abbrev pub letter : LineKind → ℕ
letter Clause = 97
letter Deletion = 100

-- the bytes are a binary proof with these lines: a or d, at most `vars` literals, and 0
abbrev pub IsBinaryProof : ℕ → List ℕ → List ProofLine → Type 0
IsBinaryProof vars bytes [] = bytes ≡ []
IsBinaryProof vars bytes (l ∷ ls) =
    (text : List ℕ) × (rest : List ℕ) × (bytes ≡ letter l.kind ∷ text ++ 0 ∷ rest) × AreNumbers vars text l.lits × (length l.lits ≤ vars) × IsBinaryProof vars rest ls

abbrev pub list_kind : LineKind → ListKind
list_kind Clause = ClauseList
list_kind Deletion = DeletionList

-- the text from byte number `at` on is these lines, one line of text each
abbrev pub IsTextProof : ℕ → ℕ → List ℕ → List ProofLine → Type 0
IsTextProof vars at bytes [] = bytes ≡ []
IsTextProof vars at bytes (l ∷ ls) =
    (text : List ℕ) × (rest : List ℕ) × (place : ℕ) × (bytes ≡ text ++ 10 ∷ rest) × NoFeed text × IsList vars (list_kind l.kind) place l.lits (words_from true at [] text)
    × IsTextProof vars (at + length text + 1) rest ls

-- t is the text of the binary proof b, one line each
abbrev pub Spelt : ℕ → List ℕ → List ℕ → Type 0
Spelt vars b t = (lines : List ProofLine) × IsBinaryProof vars b lines × IsTextProof vars 0 t lines

-- the lines are said, at whatever places
abbrev pub AreSaid : List ProofLine → List Saying → Type 0
AreSaid [] ss = ss ≡ []
AreSaid (l ∷ ls) ss = (place : ℕ) × (rest : List Saying) × (ss ≡ line_said l.kind place l.lits ∷ rest) × AreSaid ls rest

-- What bytes say that begin with whole lines of a binary proof: these lines, and then one fault at most. A file that ends has a fault, but
-- where its lines are all.
pub record SaysLines (vars : ℕ) (ended : Bool) (bytes : List ℕ) (ss : List Saying) : Type 0 where
  pub lines : List ProofLine
  pub front : List ℕ
  pub rest : List ℕ
  pub said : List Saying
  pub tail : List Saying
  pub are : bytes ≡ front ++ rest
  pub proof : IsBinaryProof vars front lines
  pub says : ss ≡ said ++ tail
  pub told : AreSaid lines said
  pub ends : ((tail ≡ []) × (ended ≡ true → rest ≡ [])) ⊎ ((kind : ParseFaultKind) × (byte : ℕ) × (tail ≡ bad kind byte))
