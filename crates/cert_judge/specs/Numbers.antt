-- The numbers of the faults of a stream.
use Rattle.std.specs.Prelude.{ℕ, cond, eqb, List, [], ◌∷◌, Option, None, Some}
use Rattle.cert_judge.specs.declared.stream.CertKind.{CertKind}
use Rattle.cert_judge.specs.declared.stream.CertKind.TheVariants.{BadLine, BadLiteral, LineTooLong, NotRup, NotSatisfying, NotPlaying, TooLong, EarlyEnd, BadWitness, BadId, BadHint, NotHinted, BadPart, NotInvariant}

abbrev pub number_of : CertKind → ℕ
number_of BadLine = 41
number_of BadLiteral = 42
number_of LineTooLong = 43
number_of NotRup = 44
number_of NotSatisfying = 45
number_of NotPlaying = 46
number_of TooLong = 47
number_of EarlyEnd = 48
number_of BadWitness = 49
number_of BadId = 58
number_of BadHint = 59
number_of NotHinted = 60
number_of BadPart = 61
number_of NotInvariant = 62

-- all kinds
abbrev pub all_kinds : List CertKind
all_kinds = BadLine ∷ BadLiteral ∷ LineTooLong ∷ NotRup ∷ NotSatisfying ∷ NotPlaying ∷ TooLong ∷ EarlyEnd ∷ BadWitness ∷ BadId ∷ BadHint ∷ NotHinted ∷ BadPart ∷ NotInvariant ∷ []

-- the kind with this number among these, or among all, if there is one
abbrev pub kind_among : List CertKind → ℕ → Option CertKind
kind_among [] number = None
kind_among (kind ∷ kinds) number = cond (eqb (number_of kind) number) (Some kind) (kind_among kinds number)

abbrev pub kind_of : ℕ → Option CertKind
kind_of number = kind_among all_kinds number
