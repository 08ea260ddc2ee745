-- Fates that are the same but for byte numbers.
use Rattle.std.specs.Prelude.{◌≡◌, ◌⊎◌, ℕ}
use Rattle.cert_judge.specs.Fate.{Fate, Found, Unknown, Bad}
use Rattle.cert_judge.specs.declared.stream.CertKind.TheVariants.{BadLiteral, LineTooLong}

abbrev pub IsSameFate : Fate → Fate → Type 0
IsSameFate (Found answer) y = y ≡ Found answer
IsSameFate Unknown y = y ≡ Unknown
IsSameFate (Bad kind byte) y = (other : ℕ) × (y ≡ Bad kind other)

-- a literal is at fault: it isn't one, or one too many
abbrev pub IsLiteralFault : Fate → Type 0
IsLiteralFault x = (byte : ℕ) × ((x ≡ Bad BadLiteral byte) ⊎ (x ≡ Bad LineTooLong byte))
