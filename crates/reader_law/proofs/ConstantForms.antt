-- Each token that is read as a constant is a text of one.
use Rattle.std.proofs.Common.{◌≡◌, ◌⊎◌, inl, inr, ℕ, ◌+◌, ◌-◌, ◌*◌, ◌<◌, ◌≤◌, ◌^◌, Bool, true, false, cond, ◌&&◌, ◌||◌, List, [], ◌∷◌, ◌++◌, length, replicate, flat_map, append-nil, pos, ◌-ℤ◌, Option, Some, None, refl, sym, ap, ◌∙◌, subst, arith}
use Rattle.std.specs.Prelude.{codes, ◌==◌, nat_le, nat_lt}
use Rattle.std.specs.List.{list_all}
use Rattle.std.specs.Char.{is_ascii_digit, digit_value}
use Rattle.std.specs.Str.Parse.{AllDigits, digits_value_after}
use Rattle.std.proofs.lemmas.Bool.{eqb-true, eqb-false, leb-true, ltb-true, ne_eqb}
use Rattle.std.proofs.lemmas.Int.{ints}
use Rattle.std.proofs.lemmas.List.{length-map}
use Rattle.std.proofs.lemmas.Str.{digit_value_digit}
use Rattle.sby_bits.specs.Rows.{fit}
use Rattle.sby_bits.proofs.Numbers.{length-fit}
use Rattle.sby_bits.proofs.RowLaws.{snum-fit}
use Rattle.rtlil_lex.specs.Tokens.{begins_name, begins_word, is_backslash, is_quote, IsQuoted, IsToken}
use Rattle.rtlil_lex.specs.Tokens.IsToken.{name as name_token, string as string_token, word as word_token}
use Rattle.rtlil_lex.specs.Tokens.IsQuoted.{closing, escape, other}
use Rattle.rtlil_constant.specs.Constants.{Word, behind, binary, constant_of, cut, decimal_digits, extended, is_digit, is_marker, is_minus, is_octal, is_open, negative_digits, number_from, number_of, plain_digits, sized_digits, unmarked}
use Rattle.rtlil_constant.proofs.ConstantLemmas.{pair}
use Rattle.reader_law.specs.ConstantTexts.{State, state_digit, state_digits, state_above, row_states, byte_states, IsNumberText, IsMark, IsNoOctal, IsStringText, IsConstantText, IsAttributeText}
use Rattle.reader_law.specs.ConstantTexts.State.{Zero, One, Undefined, HighImpedance, DontCare, Marked}
use Rattle.reader_law.specs.ConstantTexts.IsMark.{unmarked as no_mark, signed as s_mark}
use Rattle.reader_law.specs.ConstantTexts.IsStringText.{empty, plain, feed, tab, octal, itself}
use Rattle.reader_law.specs.ConstantTexts.IsConstantText.{sized, decimal as decimal_text, negative as negative_text, string as string_text}
use Rattle.reader_law.specs.ConstantTexts.IsAttributeText.{constant as constant_text, bare as bare_text}
use Rattle.reader_law.proofs.PrintedWords.{both_tests, one_of}
use Rattle.reader_law.proofs.ConstantSteps.{three_same, all_three, attribute_read, octal_of, octal_test, states_read}

-- ---- numbers

number_digits : (m n : ℕ) (w : Word) → number_from m w ≡ Some n → AllDigits 10 w × (digits_value_after 10 m w ≡ n)
number_digits m n [] h = (tt, cc)
number_digits m n (c ∷ w) h =
    elim (is_ascii_digit c) as (λ (v : Bool). is_ascii_digit c ≡ v → cond v (number_from (m * 10 + (c - 48)) w) None ≡ Some n → AllDigits 10 (c ∷ w) × (digits_value_after 10 m (c ∷ w) ≡ n)) [
      | true ↦ λ t e.
          let k = both_tests (nat_le 48 c) (nat_le c 57) t in
          let low : 48 ≤ c = leb-true 48 c k.0 in
          let high : c ≤ 57 = leb-true c 57 k.1 in
          let value : digit_value c ≡ c - 48 = omega (arith, digit_value_digit c (low, high)) in
          let r = number_digits (m * 10 + (c - 48)) n w e in
          ((omega (arith, value), r.0), ap (λ (x : ℕ). digits_value_after 10 (m * 10 + x) w) value ∙ r.1)
      | false ↦ λ t e. absurd cc
    ] refl h

number_text : (w : Word) (n : ℕ) → number_of w ≡ Some n → IsNumberText w n
number_text [] n h = absurd cc
number_text (c ∷ w) n h = let r = number_digits 0 n (c ∷ w) h in ((omega arith, r.0), r.1)

-- ---- digits

-- the state of a digit, and the states of digits
record IsState (c : ℕ) : Type 0 where
  state : State
  same : state_digit state ≡ c

state_if : (c d : ℕ) (s : State) → (c == d) ≡ true → state_digit s ≡ d → IsState c
state_if c d s h e = record { state = s; same = e ∙ sym (eqb-true c d h) }

digit_state : (c : ℕ) → is_digit c ≡ true → IsState c
digit_state c h =
    elim (one_of (c == 48) (c == 49 || (is_open c || is_marker c)) h) as (λ _. IsState c) [
      | inl e ↦ state_if c 48 Zero e refl
      | inr e ↦ elim (one_of (c == 49) (is_open c || is_marker c) e) as (λ _. IsState c) [
        | inl f ↦ state_if c 49 One f refl
        | inr f ↦ elim (one_of (is_open c) (is_marker c) f) as (λ _. IsState c) [
          | inl g ↦ open_state g
          | inr g ↦ state_if c 109 Marked g refl
        ]
      ]
    ]
  where
    open_state : is_open c ≡ true → IsState c
    open_state g =
        elim (one_of (c == 120) (c == 122 || c == 45) g) as (λ _. IsState c) [
          | inl i ↦ state_if c 120 Undefined i refl
          | inr i ↦ elim (one_of (c == 122) (c == 45) i) as (λ _. IsState c) [
            | inl j ↦ state_if c 122 HighImpedance j refl
            | inr j ↦ state_if c 45 DontCare j refl
          ]
        ]

record AreStates (digits : List ℕ) : Type 0 where
  states : List State
  same : state_digits states ≡ digits

digits_states : (digits : List ℕ) → list_all is_digit digits ≡ true → AreStates digits
digits_states [] h = record { states = []; same = refl }
digits_states (c ∷ digits) h =
    let k = both_tests (is_digit c) (list_all is_digit digits) h in
    let s = digit_state c k.0 in
    let r = digits_states digits k.1 in
    record { states = s.state ∷ r.states; same = ap (λ (x : ℕ). x ∷ state_digits r.states) s.same ∙ ap (λ (x : List ℕ). c ∷ x) r.same }

-- ---- a width and digits

pair_parts : (a b c d : Word) → pair a b ≡ pair c d → (a ≡ c) × (b ≡ d)
pair_parts a b c d e = let same : ◌≡◌ {A = Word × Word} (a, b) (c, d) = cc in (ap (λ (z : Word × Word). z.0) same, ap (λ (z : Word × Word). z.1) same)

cut_parts : (mark : ℕ) (w a b : Word) → cut mark w ≡ Some (a, b) → w ≡ a ++ mark ∷ b
cut_parts mark [] a b h = absurd cc
cut_parts mark (c ∷ w) a b h =
    elim (c == mark) as (λ (v : Bool). (c == mark) ≡ v → cond v (pair [] w) (behind c (cut mark w)) ≡ pair a b → c ∷ w ≡ a ++ mark ∷ b) [
      | true ↦ λ t e. at_mark (eqb-true c mark t) (pair_parts [] w a b e)
      | false ↦ λ t e. past_mark (λ x y f. cut_parts mark w x y f) (cut mark w) refl e
    ] refl h
  where
    at_mark : c ≡ mark → ([] ≡ a) × (w ≡ b) → c ∷ w ≡ a ++ mark ∷ b
    at_mark same e = ap (λ (x : ℕ). x ∷ w) same ∙ ap (λ (x : Word). x ++ mark ∷ w) e.0 ∙ ap (λ (x : Word). a ++ mark ∷ x) e.1

    past_mark : ((x y : Word) → cut mark w ≡ pair x y → w ≡ x ++ mark ∷ y) → (found : Option (Word × Word)) → cut mark w ≡ found → behind c found ≡ pair a b → c ∷ w ≡ a ++ mark ∷ b
    past_mark rest None f e = absurd cc
    past_mark rest (Some (x, y)) f e =
        let parts = pair_parts (c ∷ x) y a b e in
        ap (λ (z : Word). c ∷ z) (rest x y f) ∙ ap (λ (z : Word). z ++ mark ∷ y) parts.0 ∙ ap (λ (z : Word). a ++ mark ∷ z) parts.1

-- what stands after the quote: a mark or none, and digits
record IsMarked (w : Word) : Type 0 where
  mark : Word
  is_mark : IsMark mark
  are : w ≡ mark ++ unmarked w

marked : (w : Word) → IsMarked w
marked [] = record { mark = []; is_mark = no_mark; are = refl }
marked (c ∷ w) =
    elim (c == 115) as (λ (v : Bool). (c == 115) ≡ v → IsMarked (c ∷ w)) [
      | true ↦ λ t. record { mark = codes "s"; is_mark = s_mark; are = ap (λ (x : ℕ). x ∷ w) (eqb-true c 115 t) ∙ ap (λ (v : Bool). 115 ∷ cond v w (c ∷ w)) (sym t) }
      | false ↦ λ t. record { mark = []; is_mark = no_mark; are = ap (λ (v : Bool). cond v w (c ∷ w)) (sym t) }
    ] refl

-- a constant, or where the least is 0 one of an attribute
IsText : ℕ → Word → Type 0
IsText least w = ((states : List State) × IsConstantText w states) ⊎ ((least ≡ 0) × (states : List State) × IsAttributeText w states)

sized_text : (least n : ℕ) (w width digits : Word) → IsNumberText width n → w ≡ width ++ 39 ∷ digits → least ≤ length (unmarked digits) → length (unmarked digits) ≤ n → list_all is_digit (unmarked digits) ≡ true → IsText least w
unfolding IsText
sized_text least n w width digits number same some few fine = by (digits_states (unmarked digits) fine).states (digits_states (unmarked digits) fine).same
  where
    m : IsMarked digits
    m = marked digits

    by : (states : List State) → state_digits states ≡ unmarked digits → ((states : List State) × IsConstantText w states) ⊎ ((least ≡ 0) × (states : List State) × IsAttributeText w states)
    by [] e =
        let none : least ≡ 0 = omega (arith, some, ap (λ (x : List ℕ). length x) e) in
        let words : w ≡ width ++ 39 ∷ (m.mark ++ []) = same ∙ ap (λ (x : Word). width ++ 39 ∷ x) (m.are ∙ ap (λ (x : Word). m.mark ++ x) (sym e)) in
        let text = bare_text width m.mark n number m.is_mark in
        inr (none, replicate n Zero, subst (λ (x : Word). IsAttributeText x (replicate n Zero)) (sym (words ∙ ap (λ (x : Word). width ++ 39 ∷ x) (append-nil m.mark))) text)
    by (top ∷ low) e =
        let long : length (top ∷ low) ≤ n = omega (arith, few, ap (λ (x : List ℕ). length x) e, length-map (top ∷ low) state_digit) in
        let above = n - length (top ∷ low) in
        let count : n ≡ above + length (top ∷ low) = omega (arith, long) in
        let words : w ≡ width ++ 39 ∷ (m.mark ++ state_digits (top ∷ low)) = same ∙ ap (λ (x : Word). width ++ 39 ∷ x) (m.are ∙ ap (λ (x : Word). m.mark ++ x) (sym e)) in
        let states = replicate above (state_above top) ++ top ∷ low in
        inl (states, subst (λ (x : Word). IsConstantText x states) (sym words) (sized width m.mark above top low (subst (λ (k : ℕ). IsNumberText width k) count number) m.is_mark))

-- ---- decimals

decimal_is_text : (w : Word) (n : ℕ) → number_of w ≡ Some n → n < 2 ^ 31 → IsConstantText w (row_states (fit 32 (pos n)))
decimal_is_text w n h few =
    decimal_text w n (fit 32 (pos n)) (number_text w n h) (length-fit 32 (pos n)) (snum-fit 31 (pos n) (omega (arith, ints)) (omega (arith, ints)))

negative_is_text : (w : Word) (n : ℕ) → number_of w ≡ Some n → n ≤ 2 ^ 31 → IsConstantText (45 ∷ w) (row_states (fit 32 (pos 0 -ℤ pos n)))
negative_is_text w n h few =
    negative_text w n (fit 32 (pos 0 -ℤ pos n)) (number_text w n h) (length-fit 32 (pos 0 -ℤ pos n)) (snum-fit 31 (pos 0 -ℤ pos n) (omega (arith, ints)) (omega (arith, ints)))

negative_only : (w : Word) (found : Option ℕ) (digits : List ℕ) → number_of w ≡ found → negative_digits found ≡ Some digits → (states : List State) × IsConstantText (45 ∷ w) states
negative_only w None digits e h = absurd cc
negative_only w (Some n) digits e h =
    elim (nat_le n (2 ^ 31)) as (λ (v : Bool). nat_le n (2 ^ 31) ≡ v → cond v (Some (binary 32 (2 ^ 32 - n))) None ≡ Some digits → (states : List State) × IsConstantText (45 ∷ w) states) [
      | true ↦ λ t f. (row_states (fit 32 (pos 0 -ℤ pos n)), negative_is_text w n e (leb-true n (2 ^ 31) t))
      | false ↦ λ t f. absurd cc
    ] refl h

decimal_only : (w : Word) (found : Option ℕ) (digits : List ℕ) → number_of w ≡ found → decimal_digits found ≡ Some digits → (states : List State) × IsConstantText w states
decimal_only w None digits e h = absurd cc
decimal_only w (Some n) digits e h =
    elim (nat_lt n (2 ^ 31)) as (λ (v : Bool). nat_lt n (2 ^ 31) ≡ v → cond v (Some (binary 32 n)) None ≡ Some digits → (states : List State) × IsConstantText w states) [
      | true ↦ λ t f. (row_states (fit 32 (pos n)), decimal_is_text w n e (ltb-true n (2 ^ 31) t))
      | false ↦ λ t f. absurd cc
    ] refl h

-- ---- strings

-- what stands between the quotes is the text of a string
record IsStringOf (text : List ℕ) : Type 0 where
  inside : List ℕ
  characters : List ℕ
  are : text ≡ inside ++ 34 ∷ []
  is_string : IsStringText inside characters

no_backslash : (b : ℕ) → b ≡ 92 → is_backslash b ≡ false → ⊥
no_backslash b e h = let bad : is_backslash 92 ≡ false = subst (λ (x : ℕ). is_backslash x ≡ false) e h in cc

-- after a character that is no backslash a string goes on
goes_on : (text characters : List ℕ) → IsStringText text characters → (b : ℕ) (more : List ℕ) → text ≡ b ∷ more → is_backslash b ≡ false → (cs : List ℕ) × IsStringText more cs
goes_on text characters empty b more e h = absurd cc
goes_on text characters (plain c t cs q k s) b more e h = let same : t ≡ more = cc in (cs, subst (λ (x : List ℕ). IsStringText x cs) same s)
goes_on text characters (feed t cs s) b more e h = let same : b ≡ 92 = cc in absurd (no_backslash b same h)
goes_on text characters (tab t cs s) b more e h = let same : b ≡ 92 = cc in absurd (no_backslash b same h)
goes_on text characters (octal x y z t cs p q r s) b more e h = let same : b ≡ 92 = cc in absurd (no_backslash b same h)
goes_on text characters (itself c t cs p q o s) b more e h = let same : b ≡ 92 = cc in absurd (no_backslash b same h)

octal_plain : (b : ℕ) → is_octal b ≡ true → is_backslash b ≡ false
octal_plain b h = let k = octal_of b h in ne_eqb b 92 (λ e. omega (arith, k))

-- an escape of one character
single : (b : ℕ) (text characters : List ℕ) → IsNoOctal (b ∷ text) → IsStringText text characters → (cs : List ℕ) × IsStringText (92 ∷ b ∷ text) cs
single b text characters o s =
    elim (b == 110) as (λ (v : Bool). (b == 110) ≡ v → (cs : List ℕ) × IsStringText (92 ∷ b ∷ text) cs) [
      | true ↦ λ e. (10 ∷ characters, subst (λ (x : ℕ). IsStringText (92 ∷ x ∷ text) (10 ∷ characters)) (sym (eqb-true b 110 e)) (feed text characters s))
      | false ↦ λ e. elim (b == 116) as (λ (v : Bool). (b == 116) ≡ v → (cs : List ℕ) × IsStringText (92 ∷ b ∷ text) cs) [
        | true ↦ λ f. (9 ∷ characters, subst (λ (x : ℕ). IsStringText (92 ∷ x ∷ text) (9 ∷ characters)) (sym (eqb-true b 116 f)) (tab text characters s))
        | false ↦ λ f. (b ∷ characters, itself b text characters (eqb-false b 110 e) (eqb-false b 116 f) o s)
      ] refl
    ] refl

octal_string : (b c d : ℕ) (text characters : List ℕ) → is_octal b ≡ true → is_octal c ≡ true → is_octal d ≡ true → IsStringText (c ∷ d ∷ text) characters → (cs : List ℕ) × IsStringText (92 ∷ b ∷ c ∷ d ∷ text) cs
octal_string b c d text characters p q r s =
    let x = octal_of b p in
    let y = octal_of c q in
    let z = octal_of d r in
    let once = goes_on (c ∷ d ∷ text) characters s c (d ∷ text) refl (octal_plain c q) in
    let twice = goes_on (d ∷ text) once.0 once.1 d text refl (octal_plain d r) in
    let value = (b - 48) * 64 + (c - 48) * 8 + (d - 48) in
    let same : 92 ∷ (48 + (b - 48)) ∷ (48 + (c - 48)) ∷ (48 + (d - 48)) ∷ text ≡ 92 ∷ b ∷ c ∷ d ∷ text = ap (λ (w : List ℕ). 92 ∷ w) (sym (three_same b c d (48 + (b - 48)) (48 + (c - 48)) (48 + (d - 48)) text x.1 y.1 z.1)) in
    (value ∷ twice.0, subst (λ (w : List ℕ). IsStringText w (value ∷ twice.0)) same (octal (b - 48) (c - 48) (d - 48) text twice.0 x.0 y.0 z.0 twice.1))

escaped_string : (b : ℕ) (text characters : List ℕ) → IsStringText text characters → (cs : List ℕ) × IsStringText (92 ∷ b ∷ text) cs
escaped_string b [] characters s = single b [] characters (λ x y z rest p q r e. cc) s
escaped_string b (c ∷ []) characters s = single b (c ∷ []) characters (λ x y z rest p q r e. cc) s
escaped_string b (c ∷ d ∷ text) characters s =
    elim (is_octal b && (is_octal c && is_octal d)) as (λ (v : Bool). (is_octal b && (is_octal c && is_octal d)) ≡ v → (cs : List ℕ) × IsStringText (92 ∷ b ∷ c ∷ d ∷ text) cs) [
      | true ↦ λ h.
          let k = both_tests (is_octal b) (is_octal c && is_octal d) h in
          let l = both_tests (is_octal c) (is_octal d) k.1 in
          octal_string b c d text characters k.0 l.0 l.1 s
      | false ↦ λ h. single b (c ∷ d ∷ text) characters (no_three h) s
    ] refl
  where
    no_three : (is_octal b && (is_octal c && is_octal d)) ≡ false → IsNoOctal (b ∷ c ∷ d ∷ text)
    no_three h x y z rest p q r e =
        let first : b ≡ 48 + x = cc in
        let second : c ≡ 48 + y = cc in
        let third : d ≡ 48 + z = cc in
        let octal_at = λ (i j : ℕ) (same : i ≡ 48 + j) (few : j < 8). subst (λ (k : ℕ). is_octal k ≡ true) (sym same) (octal_test j few) in
        let all = all_three (is_octal b) (is_octal c) (is_octal d) (octal_at b x first p) (octal_at c y second q) (octal_at d z third r) in
        cc

quoted_string : (text : List ℕ) → IsQuoted text → IsStringOf text
quoted_string text (closing b q) = record { inside = []; characters = []; are = ap (λ (x : ℕ). x ∷ []) (eqb-true b 34 q); is_string = empty }
quoted_string text (other b t q k p) =
    let r = quoted_string t p in
    record { inside = b ∷ r.inside; characters = b ∷ r.characters; are = ap (λ (x : List ℕ). b ∷ x) r.are; is_string = plain b r.inside r.characters q k r.is_string }
quoted_string text (escape b c t k p) =
    let r = quoted_string t p in
    let s = escaped_string c r.inside r.characters r.is_string in
    record { inside = 92 ∷ c ∷ r.inside; characters = s.0; are = ap (λ (x : ℕ). x ∷ c ∷ t) (eqb-true b 92 k) ∙ ap (λ (x : List ℕ). 92 ∷ c ∷ x) r.are; is_string = s.1 }

string_only : (text : List ℕ) → IsQuoted text → (states : List State) × IsConstantText (34 ∷ text) states
string_only text q =
    let r = quoted_string text q in
    let states = flat_map byte_states r.characters in
    (states, subst (λ (x : List ℕ). IsConstantText (34 ∷ x) states) (sym r.are) (string_text r.inside r.characters r.is_string))

-- ---- all tokens

sized_only : (least : ℕ) (w width written digits : Word) (found : Option ℕ) → w ≡ width ++ 39 ∷ written → number_of width ≡ found → sized_digits least found (unmarked written) ≡ Some digits → IsText least w
sized_only least w width written digits None same e h = absurd cc
sized_only least w width written digits (Some n) same e h =
    let ds = unmarked written in
    elim (nat_le least (length ds) && (nat_le (length ds) n && list_all is_digit ds)) as (λ (v : Bool). (nat_le least (length ds) && (nat_le (length ds) n && list_all is_digit ds)) ≡ v → cond v (Some (extended n ds)) None ≡ Some digits → IsText least w) [
      | true ↦ λ t f.
          let k = both_tests (nat_le least (length ds)) _ t in
          let l = both_tests (nat_le (length ds) n) _ k.1 in
          sized_text least n w width written (number_text width n e) same (leb-true least (length ds) k.0) (leb-true (length ds) n l.0) l.1
      | false ↦ λ t f. absurd cc
    ] refl h

plain_only : (least : ℕ) (w digits : Word) (found : Option (Word × Word)) → cut 39 w ≡ found → plain_digits least w found ≡ Some digits → IsText least w
unfolding IsText
plain_only least w digits None e h = inl (decimal_only w (number_of w) digits refl h)
plain_only least w digits (Some (width, written)) e h = sized_only least w width written digits (number_of width) (cut_parts 39 w width written e) refl h

word_only : (least b : ℕ) (bytes digits : Word) → (is_quote b ≡ true → IsQuoted bytes) → constant_of least (b ∷ bytes) ≡ Some digits → IsText least (b ∷ bytes)
unfolding IsText
word_only least b bytes digits quoted h =
    elim (is_quote b) as (λ (v : Bool). is_quote b ≡ v → IsText least (b ∷ bytes)) [
      | true ↦ λ q. inl (string_at (eqb-true b 34 q) (string_only bytes (quoted q)))
      | false ↦ λ q. elim (is_minus b) as (λ (v : Bool). is_minus b ≡ v → IsText least (b ∷ bytes)) [
        | true ↦ λ m. inl (minus_at (eqb-true b 45 m))
        | false ↦ λ m. plain_only least (b ∷ bytes) digits (cut 39 (b ∷ bytes)) refl (rw (q, m) at h)
      ] refl
    ] refl
  where
    string_at : b ≡ 34 → (states : List State) × IsConstantText (34 ∷ bytes) states → (states : List State) × IsConstantText (b ∷ bytes) states
    string_at e s = (s.0, subst (λ (x : ℕ). IsConstantText (x ∷ bytes) s.0) (sym e) s.1)

    minus_at : b ≡ 45 → (states : List State) × IsConstantText (b ∷ bytes) states
    minus_at e =
        let s = negative_only bytes (number_of bytes) digits refl (subst (λ (x : ℕ). constant_of least (x ∷ bytes) ≡ Some digits) e h) in
        (s.0, subst (λ (x : ℕ). IsConstantText (x ∷ bytes) s.0) (sym e) s.1)

token_only : (least : ℕ) (w digits : Word) (rest : List ℕ) → IsToken w rest → constant_of least w ≡ Some digits → IsText least w
token_only least w digits rest (name_token b run after n r) h =
    word_only least b run digits (λ q. absurd (let bad : begins_name 34 ≡ true = subst (λ (x : ℕ). begins_name x ≡ true) (eqb-true b 34 q) n in cc)) h
token_only least w digits rest (string_token b text after q s e) h = word_only least b text digits (λ _. s) h
token_only least w digits rest (word_token b run after n r) h =
    word_only least b run digits (λ q. absurd (let bad : begins_word 34 ≡ true = subst (λ (x : ℕ). begins_word x ≡ true) (eqb-true b 34 q) n in cc)) h

same_digits : (w digits others : Word) (least : ℕ) → constant_of least w ≡ Some digits → constant_of least w ≡ Some others → digits ≡ others
same_digits w digits others least h k = let e : Some digits ≡ Some others = sym h ∙ k in cc

pub only_attributes : (w digits : Word) (rest : List ℕ) → IsToken w rest → constant_of 0 w ≡ Some digits → (states : List State) × IsAttributeText w states × (digits ≡ state_digits states)
unfolding IsText
only_attributes w digits rest t h =
    elim (token_only 0 w digits rest t h) as (λ _. (states : List State) × IsAttributeText w states × (digits ≡ state_digits states)) [
      | inl s ↦ (s.0, constant_text w s.0 s.1, same_digits w digits (state_digits s.0) 0 h (states_read 0 w s.0 (omega arith) s.1))
      | inr s ↦ (s.1, s.2, same_digits w digits (state_digits s.1) 0 h (attribute_read w s.1 s.2))
    ]

pub only_constants : (w digits : Word) (rest : List ℕ) → IsToken w rest → constant_of 1 w ≡ Some digits → (states : List State) × IsConstantText w states × (digits ≡ state_digits states)
unfolding IsText
only_constants w digits rest t h =
    elim (token_only 1 w digits rest t h) as (λ _. (states : List State) × IsConstantText w states × (digits ≡ state_digits states)) [
      | inl s ↦ (s.0, s.1, same_digits w digits (state_digits s.0) 1 h (states_read 1 w s.0 (omega arith) s.1))
      | inr s ↦ absurd (let none = s.0 in omega arith)
    ]
