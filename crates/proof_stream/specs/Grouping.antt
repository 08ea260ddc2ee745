-- The groups of a literal.
use Rattle.std.specs.Prelude.{◌≡◌, ◌⊎◌, ℕ, ◌+◌, ◌*◌, ◌≤◌, Bool, true, false, List, [], ◌∷◌, ◌++◌}
use Rattle.cert_stream.specs.declared.mode.ParseFaultKind.TheVariants.{BadLine, BadLiteral, LineTooLong}
use Rattle.proof_stream.specs.Numbers.{GroupsRead, Goes, Whole, Unfit}
use Rattle.proof_stream.specs.Spelling.{IsNumber}

-- the bytes are a literal's number: twice its variable, from 1 to `vars`, and 1 more if it is negated
abbrev pub IsLiteral : ℕ → List ℕ → ℕ → Type 0
IsLiteral vars bytes n = IsNumber bytes n × (2 ≤ n) × (n ≤ 2 * vars + 1)

-- a literal begins with them
abbrev pub BeginsLiteral : ℕ → List ℕ → Type 0
BeginsLiteral vars bytes = (more : List ℕ) × (n : ℕ) × IsLiteral vars (bytes ++ more) n

-- what is read of bytes, in a line that is full or not
abbrev pub IsRead : ℕ → Bool → List ℕ → GroupsRead → Type 0
IsRead vars full bytes (Goes value weight) = (bytes ≡ []) ⊎ ((full ≡ false) × BeginsLiteral vars bytes)
IsRead vars full bytes (Whole n) = (full ≡ false) × (front : List ℕ) × (rest : List ℕ) × (bytes ≡ front ++ rest) × IsLiteral vars front n
IsRead vars full bytes (Unfit BadLine) = ⊥
IsRead vars full bytes (Unfit BadLiteral) = BeginsLiteral vars bytes → ⊥
IsRead vars full bytes (Unfit LineTooLong) = (full ≡ true) × (b : ℕ) × (rest : List ℕ) × (bytes ≡ b ∷ rest) × BeginsLiteral vars (b ∷ [])
