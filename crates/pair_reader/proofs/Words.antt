-- The words of a line, and what ends them.
use Rattle.std.proofs.Common.{◌≡◌, ◌≢◌, ◌↔◌, Option, Some, ℕ, ◌<◌, ◌≤◌, ◌^◌, Bool, true, false, cond, List, [], ◌∷◌, refl, sym, ap, ◌∙◌, arith}
use Rattle.std.specs.Prelude.{All, decimal}
use Rattle.std.specs.Str.Parse.{AllDigits}
use Rattle.std.proofs.lemmas.Fmt.{decimal_is_IsNumeral}
use Rattle.std.proofs.lemmas.Str.Parse.{digit_from_value}
use Rattle.std.proofs.lemmas.List.Elements.{All-nil, All-cons}
use Rattle.sby_terms.specs.Number.{number_upto}
use Rattle.cnf_form.specs.Cnf.{LitOf, LitWithin}
use Rattle.cnf_form.specs.Dimacs.{literal_text}
use Rattle.cnf_form.proofs.Reading.{minus_no_digits}
use Rattle.cnf_form.proofs.Writing.{decimal_is_IsNumber}

-- no byte of the text is the one that ends words
abbrev pub Lacks : ℕ → List ℕ → Type 0
Lacks end text = All (λ (b : ℕ). b ≢ end) text

digits_lack : (end : ℕ) (word : List ℕ) → end ≤ 32 → AllDigits 10 word → Lacks end word
digits_lack end [] low h = All-nil (λ (b : ℕ). b ≢ end)
digits_lack end (c ∷ cs) low h =
    let w = digit_from_value c h.0 in
    let k = w.0 in
    All-cons (λ (b : ℕ). b ≢ end) c cs (λ (e : c ≡ end). omega arith) (digits_lack end cs low h.1)

pub decimal_lacks : (end n : ℕ) → end ≤ 32 → n < 2 ^ 64 → Lacks end (decimal n)
decimal_lacks end n low h = let d = (decimal_is_IsNumeral n h).0 in digits_lack end (decimal n) low d.1

signed_lacks : (end n : ℕ) (negated : Bool) → end ≤ 32 → n < 2 ^ 64 → Lacks end (cond negated (45 ∷ decimal n) (decimal n))
signed_lacks end n true low h = All-cons (λ (b : ℕ). b ≢ end) 45 (decimal n) (λ (e : 45 ≡ end). omega arith) (decimal_lacks end n low h)
signed_lacks end n false low h = decimal_lacks end n low h

pub literal_lacks : (end : ℕ) (l : LitOf) → end ≤ 32 → l.var < 2 ^ 64 → Lacks end (literal_text l)
literal_lacks end l low h = signed_lacks end l.var l.negated low h

-- what the law of numbers says
abbrev pub NumbersAreDecimal : Type 0
NumbersAreDecimal = (most n : ℕ) (word : List ℕ) → most ≤ 18446744073709551615 → (number_upto most word ≡ Some n) ↔ ((word ≡ decimal n) × (1 ≤ n) × (n ≤ most))

-- what is read of the decimal text of a number
pub number_reads : NumbersAreDecimal → (most n : ℕ) (word : List ℕ) (read : Option ℕ) → most ≤ 18446744073709551615 → read ≡ number_upto most word → word ≡ decimal n → 0 < n → n ≤ most → read ≡ Some n
number_reads law most n word read limit e w some few = e ∙ (law most n word limit).1 (w, omega arith, few)

pub number_within : NumbersAreDecimal → (most n : ℕ) (word : List ℕ) → most ≤ 18446744073709551615 → Some n ≡ number_upto most word → (0 < n) × (n ≤ most)
number_within law most n word limit e = let w = (law most n word limit).0 (sym e) in (let k = w.1 in omega arith, w.2)

pub lit_is : (l m : LitOf) → l.var ≡ m.var → l.negated ≡ m.negated → l ≡ m
lit_is l m v n = ap (λ (x : ℕ). let k : LitOf = record { var = x; negated = l.negated } in k) v ∙ ap (λ (b : Bool). let k : LitOf = record { var = m.var; negated = b } in k) n

-- a word that is a literal's text, with a minus sign or without
minus_by : (n : ℕ) (negated : Bool) (word digits : List ℕ) → n < 2 ^ 64 → word ≡ 45 ∷ digits → word ≡ cond negated (45 ∷ decimal n) (decimal n) → (true ≡ negated) × (digits ≡ decimal n)
minus_by n true word digits h e f = (refl, cc)
minus_by n false word digits h e f = absurd (minus_no_digits (decimal n) digits n (decimal_is_IsNumber n h) (sym f ∙ e))

pub minus_text : (l : LitOf) (word digits : List ℕ) → l.var < 2 ^ 64 → word ≡ 45 ∷ digits → word ≡ literal_text l → (true ≡ l.negated) × (digits ≡ decimal l.var)
minus_text l word digits h e f = minus_by l.var l.negated word digits h e f

plain_by : (n : ℕ) (negated : Bool) (word : List ℕ) → ((digits : List ℕ) → word ≡ 45 ∷ digits → ⊥) → word ≡ cond negated (45 ∷ decimal n) (decimal n) → (false ≡ negated) × (word ≡ decimal n)
plain_by n true word none f = absurd (none (decimal n) f)
plain_by n false word none f = (refl, f)

pub plain_text : (l : LitOf) (word : List ℕ) → ((digits : List ℕ) → word ≡ 45 ∷ digits → ⊥) → word ≡ literal_text l → (false ≡ l.negated) × (word ≡ decimal l.var)
plain_text l word none f = plain_by l.var l.negated word none f

pub var_small : (vars : ℕ) (l : LitOf) → vars ≤ 2 ^ 27 → LitWithin vars l → l.var < 2 ^ 64
var_small vars l limit w = let k = w.1 in omega arith
