-- Words that are printed: which tokens they are, and how they are read.
use Rattle.std.proofs.Common.{◌≡◌, ℕ, ◌+◌, ◌-◌, ◌*◌, ◌<◌, ◌≤◌, ◌^◌, ◌⊎◌, inl, inr, Bool, true, false, List, [], ◌∷◌, ◌++◌, length, get_or, Some, None, refl, ap, ◌∙◌, subst, arith, append-nil, bytes_eq}
use Rattle.std.specs.Prelude.{decimal, codes, ◌==◌, ◌&&◌, ◌||◌, not, nat_le, slice_index, IsFalse, IsTrue}
use Rattle.std.specs.List.{AllByRecursion, list_all}
use Rattle.std.specs.Char.{is_ascii_digit, digit_value}
use Rattle.std.specs.Str.Parse.{AllDigits, digits_value_after}
use Rattle.std.proofs.lemmas.Bool.{eq-eqb, ne_eqb}
use Rattle.std.proofs.lemmas.List.{length-append}
use Rattle.std.proofs.lemmas.List.Folds.{list_all-append}
use Rattle.std.proofs.Math.Seq.{take-append_seam}
use Rattle.std.proofs.lemmas.Bool.Decides.{nat_tests}
use Rattle.std.proofs.lemmas.Fmt.{decimal_is_IsNumeral}
use Rattle.std.proofs.lemmas.Str.{digit_value_digit}
use Rattle.std.proofs.lemmas.Str.Parse.{digit_from_value}
use Rattle.rtlil_lex.specs.Tokens.{begins_name, begins_word, ends_at, is_break, is_space, IsToken}
use Rattle.rtlil_lex.specs.Tokens.IsToken.{name as name_token, string as string_token, word as word_token}
use Rattle.rtlil_lex.specs.Tokens.IsQuoted.{closing}
use Rattle.rtlil_constant.specs.Constants.{Word, number_from, number_of, is_digit, constant_of, extended, sized_digits, unmarked, cut, slice_of, front}
use Rattle.design_reader.specs.Grammar.{begins_slice}
use Rattle.reader_law.specs.Printed.{constant_word, index_word, IsIdentifier}

-- a decimal digit
pub record IsFigure (c : ℕ) : Type 0 where
  pub least : 48 ≤ c
  pub most : c ≤ 57

figure_of : (c : ℕ) → digit_value c < 10 → IsFigure c
figure_of c h = let k = digit_from_value c h in record { least = omega (arith, k); most = omega (arith, k) }

figure_test : (c : ℕ) → IsFigure c → is_ascii_digit c ≡ true
figure_test c f = let a = f.least in let b = f.most in grind (arith, nat_tests)

figures_of : (w : Word) → AllDigits 10 w → AllByRecursion IsFigure w
figures_of [] h = tt
figures_of (c ∷ w) h = (figure_of c h.0, figures_of w h.1)

number_back : (n : ℕ) (w : Word) → AllDigits 10 w → number_from n w ≡ Some (digits_value_after 10 n w)
number_back n [] h = refl
number_back n (c ∷ w) h =
    let k = digit_from_value c h.0 in
    let t = figure_test c (figure_of c h.0) in
    let v : digit_value c ≡ c - 48 = omega (arith, digit_value_digit c k) in
    rw (t, v) (number_back (n * 10 + (c - 48)) w h.1)

-- a number's text
pub record IsDecimal (n : ℕ) (w : Word) : Type 0 where
  pub head : ℕ
  pub tail : Word
  pub are : w ≡ head ∷ tail
  pub figures : AllByRecursion IsFigure (head ∷ tail)
  pub number : number_of (head ∷ tail) ≡ Some n

pub decimal_from : (n : ℕ) (w : Word) → 0 < length w → AllDigits 10 w → digits_value_after 10 0 w ≡ n → IsDecimal n w
decimal_from n [] some h v = absurd (omega arith)
decimal_from n (c ∷ w) some h v = record { head = c; tail = w; are = refl; figures = figures_of (c ∷ w) h; number = number_back 0 (c ∷ w) h ∙ ap Some v }

pub decimal_word : (n : ℕ) → n < 2 ^ 64 → IsDecimal n (decimal n)
decimal_word n h = let k = decimal_is_IsNumeral n h in decimal_from n (decimal n) k.0.0 k.0.1 k.1

-- at the first mark, which no figure is
pub cut_at_mark : (mark : ℕ) (w rest : Word) → (IsFigure mark → ⊥) → AllByRecursion IsFigure w → cut mark (w ++ mark ∷ rest) ≡ Some (w, rest)
cut_at_mark mark [] rest apart f = let e : (mark == mark) ≡ true = eq-eqb mark mark refl in rw e refl
cut_at_mark mark (c ∷ w) rest apart f = let e : (c == mark) ≡ false = ne_eqb c mark (λ h. apart (subst IsFigure h f.0)) in rw (e, cut_at_mark mark w rest apart f.1) refl

pub cut_nowhere : (mark : ℕ) (w : Word) → (IsFigure mark → ⊥) → AllByRecursion IsFigure w → cut mark w ≡ None
cut_nowhere mark [] apart f = refl
cut_nowhere mark (c ∷ w) apart f = let e : (c == mark) ≡ false = ne_eqb c mark (λ h. apart (subst IsFigure h f.0)) in rw (e, cut_nowhere mark w apart f.1) refl

pub quote_apart : IsFigure 39 → ⊥
quote_apart f = omega (arith, f.least)

pub colon_apart : IsFigure 58 → ⊥
colon_apart f = omega (arith, f.most)

-- ---- constants

pub sized_word : (n least c : ℕ) (w digits : Word) → AllByRecursion IsFigure (c ∷ w) → number_of (c ∷ w) ≡ Some n → constant_of least ((c ∷ w) ++ 39 ∷ digits) ≡ sized_digits least (Some n) (unmarked digits)
sized_word n least c w digits f e =
    let q : (c == 34) ≡ false = ne_eqb c 34 (λ h. omega (arith, f.0)) in
    let m : (c == 45) ≡ false = ne_eqb c 45 (λ h. omega (arith, f.0)) in
    let k = cut_at_mark 39 (c ∷ w) digits quote_apart f in
    rw (q, m, k, e) refl

no_digit : (c other : ℕ) → is_digit c ≡ true → is_digit other ≡ false → (c == other) ≡ false
no_digit c other h k = ne_eqb c other (λ e. let yes : is_digit other ≡ true = subst (λ (x : ℕ). is_digit x ≡ true) e h in cc)

pub both_tests : (a b : Bool) → (a && b) ≡ true → (a ≡ true) × (b ≡ true)
both_tests true true h = (refl, refl)
both_tests true false h = absurd cc
both_tests false b h = absurd cc

pub one_of : (a b : Bool) → (a || b) ≡ true → (a ≡ true) ⊎ (b ≡ true)
one_of true b h = inl refl
one_of false b h = inr h

pub sized_fits : (least n : ℕ) (digits : List ℕ) → least ≤ length digits → length digits ≤ n → list_all is_digit digits ≡ true → sized_digits least (Some n) digits ≡ Some (extended n digits)
sized_fits least n digits some few h =
    let a : nat_le least (length digits) ≡ true = grind (arith, nat_tests) in
    let b : nat_le (length digits) n ≡ true = grind (arith, nat_tests) in
    rw (a, b, h) refl

-- ---- indices

pub last_at : (w : Word) (b : ℕ) → get_or (w ++ b ∷ []) (length w) 0 ≡ b
last_at [] b = refl
last_at (c ∷ w) b = last_at w b

pub front_push : (w : Word) (b : ℕ) → front (w ++ b ∷ []) ≡ w
front_push w b = let long : length (w ++ b ∷ []) - 1 ≡ length w = omega (arith, length-append w (b ∷ [])) in rw long (take-append_seam w (b ∷ []))

pub index_of : (n : ℕ) (w : Word) → AllByRecursion IsFigure w → number_of w ≡ Some n → slice_of (91 ∷ (w ++ 93 ∷ [])) ≡ Some (n, n)
index_of n w f e =
    let long : length (w ++ 93 ∷ []) - 1 ≡ length w = omega (arith, length-append w (93 ∷ [])) in
    let some : nat_le 1 (length (w ++ 93 ∷ [])) ≡ true = let l = length-append w (93 ∷ []) in grind (arith, nat_tests) in
    let last : get_or (w ++ 93 ∷ []) (length (w ++ 93 ∷ []) - 1) 0 ≡ 93 = rw long (last_at w 93) in
    let inside = front_push w 93 in
    rw (some, last, inside, cut_nowhere 58 w colon_apart f, e) refl

-- ---- tokens

-- a word that is a token before white space
pub record IsShown (w : Word) : Type 0 where
  pub token : (b : ℕ) (rest : List ℕ) → IsTrue (is_space b) → IsToken w (b ∷ rest)

abbrev pub unbroken : ℕ → Bool
unbroken b = not (is_break b)

abbrev pub is_shown : Word → Bool
is_shown [] = false
is_shown (c ∷ w) = begins_word c && list_all unbroken w

no_break : (b : ℕ) → unbroken b ≡ true → is_break b ≡ false
no_break b h = by (is_break b) h
  where
    by : (v : Bool) → not v ≡ true → v ≡ false
    by true k = absurd cc
    by false k = refl

unbroken_run : (w : Word) → list_all unbroken w ≡ true → AllByRecursion (λ b. IsFalse (is_break b)) w
unbroken_run [] h = tt
unbroken_run (c ∷ w) h = let k = both_tests (unbroken c) _ h in (no_break c k.0, unbroken_run w k.1)

space_breaks : (b : ℕ) → IsTrue (is_space b) → IsTrue (is_break b)
space_breaks b h = rw h refl

-- before a comment or at the text's end too
pub shown_token : (w rest : Word) → is_shown w ≡ true → IsTrue (ends_at is_break rest) → IsToken w rest
shown_token [] rest h e = absurd cc
shown_token (c ∷ w) rest h e = let k = both_tests (begins_word c) _ h in word_token c w rest k.0 (record { inside = unbroken_run w k.1; after = e })

pub shown_word : (w : Word) → is_shown w ≡ true → IsShown w
shown_word w h = record { token = λ b rest s. shown_token w (b ∷ rest) h (space_breaks b s) }

pub shown_name : (w : Word) → IsIdentifier w → IsShown w
shown_name [] i = absurd (let h = i.begins in cc)
shown_name (c ∷ w) i = record { token = λ b rest s. name_token c w (b ∷ rest) i.begins (record { inside = i.visible.1; after = s }) }

shown_empty : IsShown (codes "\"\"")
shown_empty = record { token = λ b rest s. string_token 34 (34 ∷ []) (b ∷ rest) refl (closing 34 refl) (space_breaks b s) }

figure_begins : (c : ℕ) → IsFigure c → begins_word c ≡ true
figure_begins c f =
    let a : (c == 32) ≡ false = ne_eqb c 32 (λ h. omega (arith, f.least)) in
    let b : (c == 9) ≡ false = ne_eqb c 9 (λ h. omega (arith, f.least)) in
    let d : (c == 10) ≡ false = ne_eqb c 10 (λ h. omega (arith, f.least)) in
    let e : (c == 13) ≡ false = ne_eqb c 13 (λ h. omega (arith, f.least)) in
    let g : (c == 35) ≡ false = ne_eqb c 35 (λ h. omega (arith, f.least)) in
    let i : (c == 92) ≡ false = ne_eqb c 92 (λ h. omega (arith, f.most)) in
    let j : (c == 36) ≡ false = ne_eqb c 36 (λ h. omega (arith, f.least)) in
    let k : (c == 34) ≡ false = ne_eqb c 34 (λ h. omega (arith, f.least)) in
    rw (a, b, d, e, g, i, j, k) refl

figure_unbroken : (c : ℕ) → IsFigure c → unbroken c ≡ true
figure_unbroken c f =
    let a : (c == 32) ≡ false = ne_eqb c 32 (λ h. omega (arith, f.least)) in
    let b : (c == 9) ≡ false = ne_eqb c 9 (λ h. omega (arith, f.least)) in
    let d : (c == 10) ≡ false = ne_eqb c 10 (λ h. omega (arith, f.least)) in
    let e : (c == 13) ≡ false = ne_eqb c 13 (λ h. omega (arith, f.least)) in
    let g : (c == 35) ≡ false = ne_eqb c 35 (λ h. omega (arith, f.least)) in
    rw (a, b, d, e, g) refl

pub figures_unbroken : (w : Word) → AllByRecursion IsFigure w → list_all unbroken w ≡ true
figures_unbroken [] f = refl
figures_unbroken (c ∷ w) f = rw (figure_unbroken c f.0) (figures_unbroken w f.1)

digit_unbroken : (c : ℕ) → is_digit c ≡ true → unbroken c ≡ true
digit_unbroken c h = rw (no_digit c 32 h refl, no_digit c 9 h refl, no_digit c 10 h refl, no_digit c 13 h refl, no_digit c 35 h refl) refl

pub digits_unbroken : (digits : List ℕ) → list_all is_digit digits ≡ true → list_all unbroken digits ≡ true
digits_unbroken [] h = refl
digits_unbroken (c ∷ digits) h = let k = both_tests (is_digit c) _ h in rw (digit_unbroken c k.0) (digits_unbroken digits k.1)

unbroken_then : (w v : Word) → list_all unbroken w ≡ true → list_all unbroken v ≡ true → list_all unbroken (w ++ v) ≡ true
unbroken_then w v h k = list_all-append unbroken w v ∙ rw (h, k) refl

pub number_then : (n : ℕ) (w rest : Word) → IsDecimal n w → list_all unbroken rest ≡ true → is_shown (w ++ rest) ≡ true
number_then n w rest d h =
    let f = figure_begins d.head d.figures.0 in
    rw (d.are, f) (unbroken_then d.tail rest (figures_unbroken d.tail d.figures.1) h)

pub shown_decimal : (n : ℕ) → n < 2 ^ 64 → IsShown (decimal n)
shown_decimal n h = shown_word (decimal n) (subst (λ (x : Word). is_shown x ≡ true) (append-nil (decimal n)) (number_then n (decimal n) [] (decimal_word n h) refl))

pub shown_index : (n : ℕ) → n < 2 ^ 64 → IsShown (index_word n)
shown_index n h =
    let d = decimal_word n h in
    let f : list_all unbroken (decimal n) ≡ true = rw d.are (figures_unbroken (d.head ∷ d.tail) d.figures) in
    shown_word (index_word n) (unbroken_then (decimal n) (93 ∷ []) f refl)

pub shown_constant : (digits : List ℕ) → length digits < 2 ^ 64 → list_all is_digit digits ≡ true → IsShown (constant_word digits)
shown_constant [] short h = shown_empty
shown_constant (c ∷ digits) short h = shown_word (constant_word (c ∷ digits)) (number_then _ (decimal (length (c ∷ digits))) (39 ∷ c ∷ digits) (decimal_word _ short) (digits_unbroken (c ∷ digits) h))

-- ---- what such a word is not

figure_no_name : (c : ℕ) → IsFigure c → begins_name c ≡ false
figure_no_name c f =
    let a : (c == 92) ≡ false = ne_eqb c 92 (λ h. omega (arith, f.most)) in
    let b : (c == 36) ≡ false = ne_eqb c 36 (λ h. omega (arith, f.least)) in
    rw (a, b) refl

-- a word that no name is, nor `[`, nor a brace
pub record IsPlain (w : Word) : Type 0 where
  pub name : begins_name (slice_index w 0) ≡ false
  pub slice : begins_slice w ≡ false
  pub opening : bytes_eq w (codes "{") ≡ false
  pub closing : bytes_eq w (codes "}") ≡ false

pub plain_figures : (n : ℕ) (w rest : Word) → IsDecimal n w → IsPlain (w ++ rest)
plain_figures n w rest d =
    let f = d.figures.0 in
    let name = figure_no_name d.head f in
    let slice : (d.head == 91) ≡ false = ne_eqb d.head 91 (λ h. omega (arith, f.most)) in
    let o : (d.head == 123) ≡ false = ne_eqb d.head 123 (λ h. omega (arith, f.most)) in
    let e : (d.head == 125) ≡ false = ne_eqb d.head 125 (λ h. omega (arith, f.most)) in
    record { name = rw (d.are, name) refl; slice = rw (d.are, slice) refl; opening = rw (d.are, o) refl; closing = rw (d.are, e) refl }
