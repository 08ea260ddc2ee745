-- Each text of a constant is read as its states.
use Rattle.std.proofs.Common.{◌≡◌, ◌≢◌, ℕ, zero, suc, ◌+◌, ◌-◌, ◌*◌, ◌/◌, ◌%◌, ◌<◌, ◌≤◌, ◌^◌, Bool, true, false, cond, ◌&&◌, List, [], ◌∷◌, ◌++◌, map, length, replicate, reverse, flat_map, ℤ, pos, negsuc, ◌-ℤ◌, ◌≤ℤ◌, ◌<ℤ◌, Some, None, refl, sym, ap, ◌∙◌, subst, append-nil, mod-eq_of_lt, arith}
use Rattle.std.specs.Prelude.{codes, decimal, ◌==◌, nat_le, nat_lt, IsTrue}
use Rattle.std.specs.List.{AllByRecursion, list_all}
use Rattle.std.proofs.lemmas.Bool.{eqb-true, eqb-false, leb-true, ne_eqb}
use Rattle.std.proofs.lemmas.Bool.Decides.{nat_tests}
use Rattle.std.proofs.lemmas.Fmt.{decimal_is_IsNumeral}
use Rattle.std.proofs.lemmas.Int.{ints}
use Rattle.std.proofs.lemmas.List.{length-map, map-append, reverse-append}
use Rattle.sby_bits.specs.Rows.{Row, fit, low_bits, snum}
use Rattle.sby_bits.proofs.Numbers.{half_first, low_bits-mod}
use Rattle.sby_bits.proofs.RowLaws.{signed_again, snum_least, snum_most}
use Rattle.rtlil_lex.specs.Tokens.{ends_at, is_break, IsQuoted, IsToken}
use Rattle.rtlil_lex.specs.Tokens.IsToken.{string as string_token}
use Rattle.rtlil_lex.specs.Tokens.IsQuoted.{closing, escape, other}
use Rattle.rtlil_constant.specs.Constants.{Word, binary, character, constant_of, decimal_digits, escape_length, escaped, extended, fill, is_digit, is_octal, is_octal_escape, negative_digits, number_of, octal_number, sized_digits, string_digits, unescaped, unmarked}
use Rattle.design_reader.specs.Parts.{AttributesOf, DraftOf, no_attributes}
use Rattle.design_reader.specs.Grammar.{goes_on, step, steps, with_attribute, word_step}
use Rattle.design_reader.specs.declared.spot.Spot.TheVariants.{FileValue, File, Line as LineSpot, Value, ModuleParameterValue}
use Rattle.reader_law.specs.Printed.{constant_word}
use Rattle.reader_law.specs.ConstantTexts.{State, state_digit, state_digits, state_above, bit_state, row_states, byte_states, IsNumberText, IsMark, IsNoOctal, IsStringText, IsConstantText, IsAttributeText}
use Rattle.reader_law.specs.ConstantTexts.State.{Zero, One, Undefined, HighImpedance, DontCare, Marked}
use Rattle.reader_law.specs.ConstantTexts.IsMark.{unmarked as no_mark, signed as s_mark}
use Rattle.reader_law.specs.ConstantTexts.IsStringText.{empty, plain, feed, tab, octal, itself}
use Rattle.reader_law.specs.ConstantTexts.IsConstantText.{sized, decimal as decimal_text, negative as negative_text, string as string_text}
use Rattle.reader_law.specs.ConstantTexts.IsAttributeText.{constant as constant_text, bare as bare_text}
use Rattle.reader_law.proofs.PrintedWords.{IsDecimal, IsFigure, IsPlain, both_tests, cut_nowhere, decimal_from, digits_unbroken, figures_unbroken, front_push, is_shown, number_then, plain_figures, quote_apart, shown_token, sized_fits, sized_word, unbroken}
use Rattle.reader_law.proofs.Steps.{one}

-- ---- states

state_is : (s : State) (digits : List ℕ) → (is_digit (state_digit s) ≡ true) × ((state_digit s == 115) ≡ false) × (fill (state_digit s ∷ digits) ≡ state_digit (state_above s))
state_is Zero digits = (refl, refl, refl)
state_is One digits = (refl, refl, refl)
state_is Undefined digits = (refl, refl, refl)
state_is HighImpedance digits = (refl, refl, refl)
state_is DontCare digits = (refl, refl, refl)
state_is Marked digits = (refl, refl, refl)

states_fine : (states : List State) → list_all is_digit (state_digits states) ≡ true
states_fine [] = refl
states_fine (s ∷ states) = let a = (state_is s []).0 in rw a (states_fine states)

states_run : (n : ℕ) (s : State) → state_digits (replicate n s) ≡ replicate n (state_digit s)
states_run zero s = refl
states_run (suc n) s = ap (λ (x : List ℕ). state_digit s ∷ x) (states_run n s)

-- a row with one bit more below it
states_below : (b : Bool) (row : Row) → state_digits (row_states (b ∷ row)) ≡ state_digits (row_states row) ++ state_digit (bit_state b) ∷ []
states_below b row =
    ap (λ (x : Row). state_digits (map bit_state x)) (reverse-append (b ∷ []) row)
    ∙ ap (λ (x : List State). state_digits x) (map-append bit_state (reverse row) (b ∷ []))
    ∙ map-append state_digit (map bit_state (reverse row)) (bit_state b ∷ [])

-- ---- numbers and rows

binary_low : (k n : ℕ) → binary (suc k) n ≡ binary k (n / 2) ++ (48 + n % 2) ∷ []
binary_low zero n = let whole : n / 2 ^ 0 ≡ n = omega arith in ap (λ (x : ℕ). (48 + x % 2) ∷ []) whole
binary_low (suc k) n =
    ap (λ (x : ℕ). (48 + x % 2) ∷ binary (suc k) n) (half_first n k)
    ∙ ap (λ (x : List ℕ). (48 + n / 2 / 2 ^ k % 2) ∷ x) (binary_low k n)

low_digit : (n : ℕ) → 48 + n % 2 ≡ state_digit (bit_state (n % 2 == 1))
low_digit n =
    elim (n % 2 == 1) as (λ (b : Bool). (n % 2 == 1) ≡ b → 48 + n % 2 ≡ state_digit (bit_state b)) [
      | true ↦ λ e. omega (arith, eqb-true (n % 2) 1 e)
      | false ↦ λ e. omega (arith, eqb-false (n % 2) 1 e)
    ] refl

-- the lowest bits of a number are its binary digits
binary_states : (k n : ℕ) → binary k n ≡ state_digits (row_states (low_bits k n))
binary_states zero n = refl
binary_states (suc k) n =
    binary_low k n
    ∙ ap (λ (x : List ℕ). x ++ (48 + n % 2) ∷ []) (binary_states k (n / 2))
    ∙ ap (λ (x : ℕ). state_digits (row_states (low_bits k (n / 2))) ++ x ∷ []) (low_digit n)
    ∙ sym (states_below (n % 2 == 1) (low_bits k (n / 2)))

fit_row : (row : Row) (k : ℕ) (z : ℤ) → length row ≡ k → snum row ≡ z → fit k z ≡ row
fit_row row k z long is = subst (λ (j : ℕ). fit j z ≡ row) long (subst (λ (y : ℤ). fit (length row) y ≡ row) is (signed_again row))

positive_row : (row : Row) (k n : ℕ) → length row ≡ k → snum row ≡ pos n → binary k n ≡ state_digits (row_states row)
positive_row row k n long is = binary_states k n ∙ ap (λ (x : Row). state_digits (row_states x)) (sym (low_bits-mod k n) ∙ fit_row row k (pos n) long is)

negative_row : (row : Row) (k n : ℕ) → length row ≡ k → snum row ≡ negsuc n → n < 2 ^ k → binary k (2 ^ k - suc n) ≡ state_digits (row_states row)
negative_row row k n long is below =
    let small : n % 2 ^ k ≡ n = mod-eq_of_lt below in
    let same : 2 ^ k - suc n ≡ 2 ^ k - 1 - n % 2 ^ k = omega arith in
    binary_states k (2 ^ k - suc n)
    ∙ ap (λ (x : ℕ). state_digits (row_states (low_bits k x))) same
    ∙ ap (λ (x : Row). state_digits (row_states x)) (fit_row row k (negsuc n) long is)

-- ---- decimals

pub number_decimal : (w : Word) (n : ℕ) → IsNumberText w n → IsDecimal n w
number_decimal w n t = decimal_from n w t.0.0 t.0.1 t.1

pub number_read : (w : Word) (n : ℕ) → IsNumberText w n → number_of w ≡ Some n
number_read w n t = let d = number_decimal w n t in ap (λ (x : Word). number_of x) d.are ∙ d.number

pub number_figures : (w : Word) (n : ℕ) → IsNumberText w n → AllByRecursion IsFigure w
number_figures w n t = let d = number_decimal w n t in subst (λ (x : Word). AllByRecursion IsFigure x) (sym d.are) d.figures

-- figures alone are a decimal
figures_read : (least c : ℕ) (w : Word) → AllByRecursion IsFigure (c ∷ w) → constant_of least (c ∷ w) ≡ decimal_digits (number_of (c ∷ w))
figures_read least c w f =
    let q : (c == 34) ≡ false = ne_eqb c 34 (λ h. omega (arith, f.0)) in
    let m : (c == 45) ≡ false = ne_eqb c 45 (λ h. omega (arith, f.0)) in
    let k = cut_nowhere 39 (c ∷ w) quote_apart f in
    rw (q, m, k) refl

decimal_is : (n : ℕ) (row : Row) → length row ≡ 32 → snum row ≡ pos n → decimal_digits (Some n) ≡ Some (state_digits (row_states row))
decimal_is n row long is =
    let most : pos n <ℤ pos (2 ^ 31) = subst (λ (z : ℤ). z <ℤ pos (2 ^ 31)) is (snum_most row 31 long) in
    let small : n < 2 ^ 31 = omega (arith, ints) in
    let fits : nat_lt n (2 ^ 31) ≡ true = grind (arith, nat_tests) in
    ap (λ (b : Bool). cond b (Some (binary 32 n)) None) fits ∙ ap Some (positive_row row 32 n long is)

negative_is : (n : ℕ) (row : Row) → length row ≡ 32 → snum row ≡ pos 0 -ℤ pos n → negative_digits (Some n) ≡ Some (state_digits (row_states row))
negative_is zero row long is = ap Some (positive_row row 32 0 long is)
negative_is (suc n) row long is =
    let least : (pos 0 -ℤ pos (2 ^ 31)) ≤ℤ (pos 0 -ℤ pos (suc n)) = subst (λ (z : ℤ). (pos 0 -ℤ pos (2 ^ 31)) ≤ℤ z) is (snum_least row 31 long) in
    let small : suc n ≤ 2 ^ 31 = omega (arith, ints) in
    let fits : nat_le (suc n) (2 ^ 31) ≡ true = grind (arith, nat_tests) in
    let minus : pos 0 -ℤ pos (suc n) ≡ negsuc n = omega (arith, ints) in
    ap (λ (b : Bool). cond b (Some (binary 32 (2 ^ 32 - suc n))) None) fits ∙ ap Some (negative_row row 32 n long (is ∙ minus) (omega (arith, small)))

decimal_read : (least : ℕ) (w : Word) (n : ℕ) (row : Row) → IsNumberText w n → length row ≡ 32 → snum row ≡ pos n → constant_of least w ≡ Some (state_digits (row_states row))
decimal_read least w n row t long is =
    let d = number_decimal w n t in
    ap (λ (x : Word). constant_of least x) d.are ∙ figures_read least d.head d.tail d.figures ∙ ap decimal_digits d.number ∙ decimal_is n row long is

negative_read : (least : ℕ) (w : Word) (n : ℕ) (row : Row) → IsNumberText w n → length row ≡ 32 → snum row ≡ pos 0 -ℤ pos n → constant_of least (codes "-" ++ w) ≡ Some (state_digits (row_states row))
negative_read least w n row t long is = ap negative_digits (number_read w n t) ∙ negative_is n row long is

-- ---- a width and digits

mark_read : (mark : Word) (top : State) (low : List State) → IsMark mark → unmarked (mark ++ state_digits (top ∷ low)) ≡ state_digits (top ∷ low)
mark_read mark top low no_mark = let other_digit = (state_is top []).1 in rw other_digit refl
mark_read mark top low s_mark = refl

mark_alone : (mark : Word) → IsMark mark → unmarked mark ≡ []
mark_alone mark no_mark = refl
mark_alone mark s_mark = refl

extended_states : (n above : ℕ) (top : State) (low : List State) → n ≡ above + length (top ∷ low) → extended n (state_digits (top ∷ low)) ≡ state_digits (replicate above (state_above top) ++ top ∷ low)
extended_states n above top low e =
    let digits = state_digits (top ∷ low) in
    let count : n - length digits ≡ above = omega (arith, e, length-map (top ∷ low) state_digit) in
    ap (λ (k : ℕ). replicate k (fill digits) ++ digits) count
    ∙ ap (λ (c : ℕ). replicate above c ++ digits) (state_is top (state_digits low)).2
    ∙ ap (λ (x : List ℕ). x ++ digits) (sym (states_run above (state_above top)))
    ∙ sym (map-append state_digit (replicate above (state_above top)) (top ∷ low))

sized_read : (least above : ℕ) (width mark : Word) (top : State) (low : List State) → least ≤ 1 → IsNumberText width (above + length (top ∷ low)) → IsMark mark
    → constant_of least (width ++ 39 ∷ (mark ++ state_digits (top ∷ low))) ≡ Some (state_digits (replicate above (state_above top) ++ top ∷ low))
sized_read least above width mark top low few number m =
    let n = above + length (top ∷ low) in
    let digits = state_digits (top ∷ low) in
    let long : length digits ≡ length (top ∷ low) = length-map (top ∷ low) state_digit in
    let d = number_decimal width n number in
    ap (λ (x : Word). constant_of least (x ++ 39 ∷ (mark ++ digits))) d.are
    ∙ sized_word n least d.head d.tail (mark ++ digits) d.figures d.number
    ∙ ap (λ (x : List ℕ). sized_digits least (Some n) x) (mark_read mark top low m)
    ∙ sized_fits least n digits (omega (arith, few, long)) (omega (arith, long)) (states_fine (top ∷ low))
    ∙ ap Some (extended_states n above top low refl)

bare_read : (width mark : Word) (n : ℕ) → IsNumberText width n → IsMark mark → constant_of 0 (width ++ 39 ∷ mark) ≡ Some (state_digits (replicate n Zero))
bare_read width mark n number m =
    let d = number_decimal width n number in
    let none : n - 0 ≡ n = omega arith in
    ap (λ (x : Word). constant_of 0 (x ++ 39 ∷ mark)) d.are
    ∙ sized_word n 0 d.head d.tail mark d.figures d.number
    ∙ ap (λ (x : List ℕ). sized_digits 0 (Some n) x) (mark_alone mark m)
    ∙ sized_fits 0 n [] (omega arith) (omega arith) refl
    ∙ ap Some (append-nil (replicate (n - 0) 48) ∙ ap (λ (k : ℕ). replicate k 48) none ∙ sym (states_run n Zero))

-- ---- strings

pub octal_test : (c : ℕ) → c < 8 → is_octal (48 + c) ≡ true
octal_test c h = grind (arith, nat_tests)

pub all_three : (x y z : Bool) → x ≡ true → y ≡ true → z ≡ true → (x && (y && z)) ≡ true
all_three x y z p q r = rw (p, q, r) refl

pub octal_of : (c : ℕ) → is_octal c ≡ true → (c - 48 < 8) × (c ≡ 48 + (c - 48))
octal_of c h =
    let k = both_tests (nat_le 48 c) (nat_le c 55) h in
    let low : 48 ≤ c = leb-true 48 c k.0 in
    let high : c ≤ 55 = leb-true c 55 k.1 in
    (omega arith, omega arith)

pub three_same : (a b c x y z : ℕ) (rest : List ℕ) → a ≡ x → b ≡ y → c ≡ z → a ∷ b ∷ c ∷ rest ≡ x ∷ y ∷ z ∷ rest
three_same a b c x y z rest p q r = ap (λ (i : ℕ). i ∷ b ∷ c ∷ rest) p ∙ ap (λ (i : ℕ). x ∷ i ∷ c ∷ rest) q ∙ ap (λ (i : ℕ). x ∷ y ∷ i ∷ rest) r

not_first : (b : ℕ) (text : List ℕ) → is_octal b ≡ false → is_octal_escape (b ∷ text) ≡ false
not_first b [] h = refl
not_first b (c ∷ []) h = refl
not_first b (c ∷ d ∷ text) h = ap (λ (v : Bool). v && (is_octal c && is_octal d)) h

not_three : (b : ℕ) (text : List ℕ) → IsNoOctal (b ∷ text) → is_octal_escape (b ∷ text) ≡ false
not_three b [] h = refl
not_three b (c ∷ []) h = refl
not_three b (c ∷ d ∷ text) h =
    elim (is_octal b && (is_octal c && is_octal d)) as (λ (v : Bool). (is_octal b && (is_octal c && is_octal d)) ≡ v → v ≡ false) [
      | true ↦ λ e.
          let p = both_tests (is_octal b) (is_octal c && is_octal d) e in
          let q = both_tests (is_octal c) (is_octal d) p.1 in
          let x = octal_of b p.0 in
          let y = octal_of c q.0 in
          let z = octal_of d q.1 in
          absurd (h (b - 48) (c - 48) (d - 48) text x.0 y.0 z.0 (three_same b c d (48 + (b - 48)) (48 + (c - 48)) (48 + (d - 48)) text x.1 y.1 z.1))
      | false ↦ λ e. refl
    ] refl

-- an escape of one character
one_escaped : (b : ℕ) (text characters : List ℕ) → is_octal_escape (b ∷ text) ≡ false → unescaped 0 text ≡ characters → unescaped 0 (92 ∷ b ∷ text) ≡ character b ∷ characters
one_escaped b text characters o e =
    ap (λ (v : Bool). cond v (octal_number (b ∷ text)) (character b) ∷ unescaped (cond v 3 1) (b ∷ text)) o
    ∙ ap (λ (x : List ℕ). character b ∷ x) e

three_escaped : (a b c : ℕ) (text characters : List ℕ) → a < 8 → b < 8 → c < 8 → unescaped 0 text ≡ characters
    → unescaped 0 (92 ∷ (48 + a) ∷ (48 + b) ∷ (48 + c) ∷ text) ≡ (a * 64 + b * 8 + c) ∷ characters
three_escaped a b c text characters p q r e =
    let digits = (48 + a) ∷ (48 + b) ∷ (48 + c) ∷ text in
    let o = all_three (is_octal (48 + a)) (is_octal (48 + b)) (is_octal (48 + c)) (octal_test a p) (octal_test b q) (octal_test c r) in
    let value : (48 + a - 48) * 64 + (48 + b - 48) * 8 + (48 + c - 48) ≡ a * 64 + b * 8 + c = omega arith in
    ap (λ (v : Bool). cond v (octal_number digits) (character (48 + a)) ∷ unescaped (cond v 3 1) digits) o
    ∙ ap (λ (x : ℕ). x ∷ unescaped 0 text) value
    ∙ ap (λ (x : List ℕ). (a * 64 + b * 8 + c) ∷ x) e

same_character : (b : ℕ) → b ≢ 110 → b ≢ 116 → character b ≡ b
same_character b p q =
    let x : (b == 110) ≡ false = ne_eqb b 110 p in
    let y : (b == 116) ≡ false = ne_eqb b 116 q in
    rw (x, y) refl

string_back : (text characters : List ℕ) → IsStringText text characters → unescaped 0 text ≡ characters
string_back text characters empty = refl
string_back text characters (plain b t cs q k s) =
    ap (λ (v : Bool). cond v (escaped t ∷ unescaped (escape_length t) t) (b ∷ unescaped 0 t)) k ∙ ap (λ (x : List ℕ). b ∷ x) (string_back t cs s)
string_back text characters (feed t cs s) = one_escaped 110 t cs (not_first 110 t refl) (string_back t cs s)
string_back text characters (tab t cs s) = one_escaped 116 t cs (not_first 116 t refl) (string_back t cs s)
string_back text characters (octal a b c t cs p q r s) = three_escaped a b c t cs p q r (string_back t cs s)
string_back text characters (itself b t cs p q o s) =
    one_escaped b t cs (not_three b t o) (string_back t cs s) ∙ ap (λ (x : ℕ). x ∷ cs) (same_character b p q)

string_states : (characters : List ℕ) → string_digits characters ≡ state_digits (flat_map byte_states characters)
string_states [] = refl
string_states (b ∷ characters) =
    ap (λ (x : List ℕ). x ++ string_digits characters) (binary_states 8 b)
    ∙ ap (λ (x : List ℕ). state_digits (byte_states b) ++ x) (string_states characters)
    ∙ sym (map-append state_digit (byte_states b) (flat_map byte_states characters))

string_read : (least : ℕ) (text characters : List ℕ) → IsStringText text characters → constant_of least (34 ∷ (text ++ 34 ∷ [])) ≡ Some (state_digits (flat_map byte_states characters))
string_read least text characters s =
    ap (λ (x : List ℕ). Some (string_digits (unescaped 0 x))) (front_push text 34)
    ∙ ap (λ (x : List ℕ). Some (string_digits x)) (string_back text characters s)
    ∙ ap Some (string_states characters)

-- ---- any of them

pub states_read : (least : ℕ) (w : Word) (states : List State) → least ≤ 1 → IsConstantText w states → constant_of least w ≡ Some (state_digits states)
states_read least w states few (sized width mark above top low number m) = sized_read least above width mark top low few number m
states_read least w states few (decimal_text v n row t long is) = decimal_read least v n row t long is
states_read least w states few (negative_text v n row t long is) = negative_read least v n row t long is
states_read least w states few (string_text text characters s) = string_read least text characters s

pub attribute_read : (w : Word) (states : List State) → IsAttributeText w states → constant_of 0 w ≡ Some (state_digits states)
attribute_read w states (constant_text v s c) = states_read 0 v s (omega arith) c
attribute_read w states (bare_text width mark n number m) = bare_read width mark n number m

pub number_plain : (w : Word) (n : ℕ) → IsNumberText w n → IsPlain w
number_plain w n t = subst IsPlain (append-nil w) (plain_figures n w [] (number_decimal w n t))

pub constant_plain : (w : Word) (states : List State) → IsConstantText w states → IsPlain w
constant_plain w states (sized width mark above top low number m) =
    let n = above + length (top ∷ low) in
    plain_figures n width (39 ∷ (mark ++ state_digits (top ∷ low))) (number_decimal width n number)
constant_plain w states (decimal_text v n row t long is) = number_plain v n t
constant_plain w states (negative_text v n row t long is) = record { name = refl; slice = refl; opening = refl; closing = refl }
constant_plain w states (string_text text characters s) = record { name = refl; slice = refl; opening = refl; closing = refl }

attribute_plain : (w : Word) (states : List State) → IsAttributeText w states → IsPlain w
attribute_plain w states (constant_text v s c) = constant_plain v s c
attribute_plain w states (bare_text width mark n number m) = plain_figures n width (39 ∷ mark) (number_decimal width n number)

-- ---- tokens

mark_unbroken : (mark digits : Word) → IsMark mark → list_all unbroken digits ≡ true → list_all unbroken (39 ∷ (mark ++ digits)) ≡ true
mark_unbroken mark digits no_mark h = h
mark_unbroken mark digits s_mark h = h

number_unbroken : (w : Word) (n : ℕ) → IsNumberText w n → list_all unbroken w ≡ true
number_unbroken w n t = figures_unbroken w (number_figures w n t)

number_shown : (w : Word) (n : ℕ) → IsNumberText w n → is_shown w ≡ true
number_shown w n t = subst (λ (x : Word). is_shown x ≡ true) (append-nil w) (number_then n w [] (number_decimal w n t) refl)

no_quote : (c : ℕ) → ((48 + c) == 34) ≡ false
no_quote c = ne_eqb (48 + c) 34 (λ h. omega arith)

no_backslash : (c : ℕ) → c < 8 → ((48 + c) == 92) ≡ false
no_backslash c few = ne_eqb (48 + c) 92 (λ h. omega arith)

quoted : (text characters : List ℕ) → IsStringText text characters → IsQuoted (text ++ 34 ∷ [])
quoted text characters empty = closing 34 refl
quoted text characters (plain b t cs q k s) = other b (t ++ 34 ∷ []) q k (quoted t cs s)
quoted text characters (feed t cs s) = escape 92 110 (t ++ 34 ∷ []) refl (quoted t cs s)
quoted text characters (tab t cs s) = escape 92 116 (t ++ 34 ∷ []) refl (quoted t cs s)
quoted text characters (octal a b c t cs p q r s) =
    escape 92 (48 + a) ((48 + b) ∷ (48 + c) ∷ (t ++ 34 ∷ [])) refl
    (other (48 + b) ((48 + c) ∷ (t ++ 34 ∷ [])) (no_quote b) (no_backslash b q) (other (48 + c) (t ++ 34 ∷ []) (no_quote c) (no_backslash c r) (quoted t cs s)))
quoted text characters (itself b t cs p q o s) = escape 92 b (t ++ 34 ∷ []) refl (quoted t cs s)

constant_token : (w : Word) (states : List State) (rest : List ℕ) → IsTrue (ends_at is_break rest) → IsConstantText w states → IsToken w rest
constant_token w states rest e (sized width mark above top low number m) =
    let n = above + length (top ∷ low) in
    let digits = state_digits (top ∷ low) in
    let fine = mark_unbroken mark digits m (digits_unbroken digits (states_fine (top ∷ low))) in
    shown_token (width ++ 39 ∷ (mark ++ digits)) rest (number_then n width (39 ∷ (mark ++ digits)) (number_decimal width n number) fine) e
constant_token w states rest e (decimal_text v n row t long is) = shown_token v rest (number_shown v n t) e
constant_token w states rest e (negative_text v n row t long is) = shown_token (45 ∷ v) rest (number_unbroken v n t) e
constant_token w states rest e (string_text text characters s) = string_token 34 (text ++ 34 ∷ []) rest refl (quoted text characters s) e

pub attribute_token : (w : Word) (states : List State) (rest : List ℕ) → IsAttributeText w states → IsTrue (ends_at is_break rest) → IsToken w rest
attribute_token w states rest (constant_text v s c) e = constant_token v s rest e c
attribute_token w states rest (bare_text width mark n number m) e =
    shown_token (width ++ 39 ∷ mark) rest (number_then n width (39 ∷ mark) (number_decimal width n number) (bare_unbroken mark m)) e
  where
    bare_unbroken : (mark : Word) → IsMark mark → list_all unbroken (39 ∷ mark) ≡ true
    bare_unbroken mark no_mark = refl
    bare_unbroken mark s_mark = refl

-- ---- what is printed

-- a constant of the printed form is one of these texts
pub printed_constant : (states : List State) → 0 < length states → length states < 2 ^ 64 → IsConstantText (constant_word (state_digits states)) states
printed_constant [] some few = absurd (omega arith)
printed_constant (top ∷ low) some few =
    let count = length (state_digits (top ∷ low)) in
    let long : count ≡ 0 + length (top ∷ low) = omega (arith, length-map (top ∷ low) state_digit) in
    let number : IsNumberText (decimal count) (0 + length (top ∷ low)) = subst (λ (k : ℕ). IsNumberText (decimal count) k) long (decimal_is_IsNumeral count (omega (arith, few, long))) in
    sized (decimal count) [] 0 top low number no_mark

-- ---- where a constant may stand

value_reads : (d : DraftOf) (a : AttributesOf) (is_init : Bool) (w : Word) (states : List State) → IsAttributeText w states → step d (Value a is_init) w ≡ goes_on d (LineSpot (with_attribute a is_init (state_digits states)))
unfolding word_step
value_reads d a is_init w states t = let p = (attribute_plain w states t).name in let r = attribute_read w states t in rw (p, r) refl

pub value_steps : (d : DraftOf) (a : AttributesOf) (is_init : Bool) (w : Word) (states : List State) (rest : List Word) → IsAttributeText w states
    → steps d (Value a is_init) (w ∷ rest) ≡ steps d (LineSpot (with_attribute a is_init (state_digits states))) rest
value_steps d a is_init w states rest t = one d d (Value a is_init) (LineSpot (with_attribute a is_init (state_digits states))) w rest (value_reads d a is_init w states t)

file_value_reads : (d : DraftOf) (behind : Bool) (w : Word) (states : List State) → IsAttributeText w states → step d (FileValue behind) w ≡ goes_on d (File behind)
unfolding word_step
file_value_reads d behind w states t = let p = (attribute_plain w states t).name in let r = attribute_read w states t in rw (p, r) refl

pub file_value_steps : (d : DraftOf) (behind : Bool) (w : Word) (states : List State) (rest : List Word) → IsAttributeText w states → steps d (FileValue behind) (w ∷ rest) ≡ steps d (File behind) rest
file_value_steps d behind w states rest t = one d d (FileValue behind) (File behind) w rest (file_value_reads d behind w states t)

module_value_reads : (d : DraftOf) (w : Word) (states : List State) → IsConstantText w states → step d ModuleParameterValue w ≡ goes_on d (LineSpot no_attributes)
unfolding word_step
module_value_reads d w states t = let p = (constant_plain w states t).name in let r = states_read 1 w states (omega arith) t in rw (p, r) refl

pub module_value_steps : (d : DraftOf) (w : Word) (states : List State) (rest : List Word) → IsConstantText w states → steps d ModuleParameterValue (w ∷ rest) ≡ steps d (LineSpot no_attributes) rest
module_value_steps d w states rest t = one d d ModuleParameterValue (LineSpot no_attributes) w rest (module_value_reads d w states t)
