-- The words of a list: 0, and where there is room for one a literal.
use Rattle.std.specs.Prelude.{◌≡◌, ◌⊎◌, ◌↔◌, ℕ, Bool, true, false, List, [], ◌∷◌, ◌++◌, length, Some, codes}
use Rattle.cnf_form.specs.Cnf.{LitOf}
use Rattle.cert_stream.specs.Text.{literal_of}
use Rattle.cert_stream.specs.Scan.{Scanned, Reads, Misfit}
use Rattle.cert_stream.specs.declared.mode.ParseFaultKind.{ParseFaultKind}
use Rattle.cert_stream.specs.declared.mode.ParseFaultKind.TheVariants.{BadLine, LineTooLong}
use Rattle.cert_stream.specs.declared.mode.Part.{Part}
use Rattle.cert_stream.specs.declared.mode.Part.TheVariants.{Gap, Minus, Zero, Digits}

-- 0, or a literal where the line isn't full
abbrev pub IsListWord : ℕ → Bool → List ℕ → Type 0
IsListWord vars full text = (text ≡ codes "0") ⊎ ((full ≡ false) × (l : LitOf) × (literal_of vars text ≡ Some l))

-- such a word begins with the bytes
abbrev pub BeginsWord : ℕ → Bool → List ℕ → Type 0
BeginsWord vars full front = (more : List ℕ) × IsListWord vars full (front ++ more)

-- a literal begins with them
abbrev pub BeginsLiteral : ℕ → List ℕ → Type 0
BeginsLiteral vars front = (more : List ℕ) × (l : LitOf) × (literal_of vars (front ++ more) ≡ Some l)

-- what bytes are that begin such a word
abbrev pub IsPart : ℕ → Bool → List ℕ → Part → Type 0
IsPart vars full text Gap = text ≡ []
IsPart vars full text Minus = (text ≡ codes "-") × BeginsWord vars full text
IsPart vars full text Zero = text ≡ codes "0"
IsPart vars full text (Digits l) = (full ≡ false) × (literal_of vars text ≡ Some l)

-- a byte with which no such word begins any more; in a full line it may begin a literal
pub record IsMisfit (vars : ℕ) (full : Bool) (text : List ℕ) (kind : ParseFaultKind) (n : ℕ) : Type 0 where
  pub front : List ℕ
  pub byte : ℕ
  pub rest : List ℕ
  pub are : text ≡ front ++ byte ∷ rest
  pub place : n ≡ length front
  pub before : BeginsWord vars full front
  pub past : BeginsWord vars full (front ++ byte ∷ []) → ⊥
  pub not_line : kind ≡ BadLine → ⊥
  pub too_long : (kind ≡ LineTooLong) ↔ ((full ≡ true) × (front ≡ []) × BeginsLiteral vars (byte ∷ []))

-- what is read of a word
abbrev pub IsRead : ℕ → Bool → List ℕ → Scanned Part → Type 0
IsRead vars full text (Reads part) = IsPart vars full text part
IsRead vars full text (Misfit kind n) = IsMisfit vars full text kind n
