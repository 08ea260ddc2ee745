-- The numbers of kinds of faults.
use Rattle.std.proofs.Common.{◌≡◌, ◌≢◌, ℕ, false, eqb, None, refl, sym, arith}
use Rattle.std.proofs.lemmas.Bool.Decides.{nat_tests}
use Rattle.cert_judge.specs.Numbers.{kind_of, number_of}
use Rattle.cert_judge.specs.declared.stream.CertKind.{CertKind}
use Rattle.cert_judge.specs.declared.stream.CertKind.TheVariants.{BadLine, BadLiteral, LineTooLong, NotRup, NotSatisfying, NotPlaying, TooLong, EarlyEnd, BadWitness, BadId, BadHint, NotHinted, BadPart, NotInvariant}

-- a number that is none of these is no kind's
pub no_other_number : (n : ℕ) → n ≢ 41 → n ≢ 42 → n ≢ 43 → n ≢ 44 → n ≢ 45 → n ≢ 46 → n ≢ 47 → n ≢ 48 → n ≢ 49 → n ≢ 58 → n ≢ 59 → n ≢ 60 → n ≢ 61 → n ≢ 62 → (kind : CertKind) → number_of kind ≡ n → ⊥
no_other_number n a b c d e f g h i j k l o p BadLine is = a (sym is)
no_other_number n a b c d e f g h i j k l o p BadLiteral is = b (sym is)
no_other_number n a b c d e f g h i j k l o p LineTooLong is = c (sym is)
no_other_number n a b c d e f g h i j k l o p NotRup is = d (sym is)
no_other_number n a b c d e f g h i j k l o p NotSatisfying is = e (sym is)
no_other_number n a b c d e f g h i j k l o p NotPlaying is = f (sym is)
no_other_number n a b c d e f g h i j k l o p TooLong is = g (sym is)
no_other_number n a b c d e f g h i j k l o p EarlyEnd is = h (sym is)
no_other_number n a b c d e f g h i j k l o p BadWitness is = i (sym is)
no_other_number n a b c d e f g h i j k l o p BadId is = j (sym is)
no_other_number n a b c d e f g h i j k l o p BadHint is = k (sym is)
no_other_number n a b c d e f g h i j k l o p NotHinted is = l (sym is)
no_other_number n a b c d e f g h i j k l o p BadPart is = o (sym is)
no_other_number n a b c d e f g h i j k l o p NotInvariant is = p (sym is)

unlike : (m n : ℕ) → n ≢ m → eqb m n ≡ false
unlike m n other = grind (arith, nat_tests, other)

pub none_numbered : (n : ℕ) → n ≢ 41 → n ≢ 42 → n ≢ 43 → n ≢ 44 → n ≢ 45 → n ≢ 46 → n ≢ 47 → n ≢ 48 → n ≢ 49 → n ≢ 58 → n ≢ 59 → n ≢ 60 → n ≢ 61 → n ≢ 62 → kind_of n ≡ None
none_numbered n a b c d e f g h i j k l o p =
    rw (unlike 41 n a, unlike 42 n b, unlike 43 n c, unlike 44 n d, unlike 45 n e, unlike 46 n f, unlike 47 n g, unlike 48 n h, unlike 49 n i, unlike 58 n j, unlike 59 n k, unlike 60 n l, unlike 61 n o, unlike 62 n p) refl
