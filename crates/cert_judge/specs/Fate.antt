-- The fate of streams of every kind: a certificate, or why it is none.
use Rattle.std.specs.Prelude.{◌≡◌, ◌⊎◌, ℕ, ◌<◌, ◌≤◌, Bool, true, false, List, length, take, Option, Some, None}
use Rattle.cnf_form.specs.Cnf.{LitOf, Assignment, Satisfies}
use Rattle.cert_stream.specs.declared.mode.ParseFaultKind.{ParseFaultKind}
use Rattle.cert_stream.specs.declared.mode.ParseFaultKind.TheVariants.{BadLine, BadLiteral, LineTooLong}
use Rattle.sby_terms.specs.declared.names.Answer.{Answer}
use Rattle.sby_terms.specs.declared.names.Answer.TheVariants.{Sat}
use Rattle.cert_judge.specs.declared.stream.CertKind.{CertKind}
use Rattle.cert_judge.specs.declared.stream.CertKind.TheVariants.{BadLine as BadLineKind, BadLiteral as BadLiteralKind, LineTooLong as LineTooLongKind, NotSatisfying, TooLong, EarlyEnd}
use Rattle.cert_judge.specs.Values.{IsFirstUnsatisfied}

-- a certificate for an answer; the engine doesn't know; or a fault, by its kind and place
pub data Fate : Type 0 where
  Found : Answer → Fate
  Unknown : Fate
  Bad : CertKind → ℕ → Fate

-- the fate of bytes, by what `comes` tells of `most` of them at most, and whether these are all: where more may follow
pub record FateSoFarBy (comes : Bool → List ℕ → Option Fate → Type 0) (bytes : List ℕ) (most : ℕ) (fate : Option Fate) : Type 0 where
  pub within : length bytes ≤ most → comes false bytes fate
  pub beyond : most < length bytes → ((x : Fate) × comes false (take most bytes) (Some x) × (fate ≡ Some x)) ⊎ (comes false (take most bytes) None × (fate ≡ Some (Bad TooLong most)))

-- and where they are all
pub record FateBy (comes : Bool → List ℕ → Option Fate → Type 0) (bytes : List ℕ) (most : ℕ) (fate : Fate) : Type 0 where
  pub within : length bytes ≤ most → comes true bytes (Some fate) ⊎ (comes true bytes None × (fate ≡ Bad EarlyEnd (length bytes)))
  pub beyond : most < length bytes → FateSoFarBy comes bytes most (Some fate)

abbrev pub cert_kind : ParseFaultKind → CertKind
cert_kind BadLine = BadLineKind
cert_kind BadLiteral = BadLiteralKind
cert_kind LineTooLong = LineTooLongKind

-- The fate of values that end: a certificate where they satisfy all clauses, else the first clause that they don't satisfy.
abbrev pub ValuesFate : List (List LitOf) → Assignment → Option Fate → Type 0
ValuesFate C x fate = (Satisfies x C × (fate ≡ Some (Found Sat))) ⊎ ((n : ℕ) × IsFirstUnsatisfied x C n × (fate ≡ Some (Bad NotSatisfying n)))
