-- Numbers and constants, step by step.
use Rattle.std.proofs.Common.{◌≡◌, ℕ, zero, suc, ◌+◌, ◌-◌, ◌*◌, ◌/◌, ◌%◌, ◌<◌, ◌≤◌, ◌^◌, min, Bool, true, false, cond, List, [], ◌∷◌, ◌++◌, length, take, drop, get_or, Option, Some, None, refl, sym, ap, ◌∙◌, append_assoc, ne_eqb, arith}
use Rattle.std.specs.Prelude.{◌==◌, nat_le}
use Rattle.std.specs.List.{list_all}
use Rattle.std.proofs.lemmas.List.{take_all}
use Rattle.std.proofs.lemmas.Bool.{le-leb}
use Rattle.rtlil_lex.specs.Tokens.{is_backslash}
use Rattle.rtlil_constant.specs.Constants.{number_from, number_of, behind, cut, binary, escaped, escape_length, unescaped, string_digits, is_digit, extended, sized_digits}

-- what stands before a cut, with more before it
abbrev pub behind_all : List ℕ → Option (List ℕ × List ℕ) → Option (List ℕ × List ℕ)
behind_all front None = None
behind_all front (Some (before, after)) = Some (front ++ before, after)

-- bytes that an escape took are passed over
pub unescaped_past : (n : ℕ) (bytes : List ℕ) → unescaped n bytes ≡ unescaped 0 (drop n bytes)
unescaped_past zero bytes = refl
unescaped_past (suc n) [] = refl
unescaped_past (suc n) (b ∷ bytes) = unescaped_past n bytes

pub number_some : (word : List ℕ) → 0 < length word → number_from 0 word ≡ number_of word
number_some [] h = absurd (omega arith)
number_some (c ∷ cs) h = refl

-- cutting after each digit is cutting once
pub cut_once : (n d value : ℕ) → value ≡ min n 18446744073709551615 → min (min (value * 10) 18446744073709551615 + d) 18446744073709551615 ≡ min (n * 10 + d) 18446744073709551615
cut_once n d value e = omega arith

abbrev pub pair : List ℕ → List ℕ → Option (List ℕ × List ℕ)
pair x y = Some (x, y)

behind_push : (front : List ℕ) (b : ℕ) (found : Option (List ℕ × List ℕ)) → behind_all front (behind b found) ≡ behind_all (front ++ b ∷ []) found
behind_push front b None = refl
behind_push front b (Some (before, after)) = ap (λ (x : List ℕ). pair x after) (sym (append_assoc front (b ∷ []) before))

-- a byte that is no mark is passed
pub cut_past : (word front after : List ℕ) (mark b : ℕ) → (b == mark) ≡ false → cut mark word ≡ behind_all front (cut mark (b ∷ after)) → cut mark word ≡ behind_all (front ++ b ∷ []) (cut mark after)
cut_past word front after mark b h e = e ∙ ap (λ (v : Bool). behind_all front (cond v (Some ([], after)) (behind b (cut mark after)))) h ∙ behind_push front b (cut mark after)

pub cut_at : (word front after : List ℕ) (mark b : ℕ) → (b == mark) ≡ true → cut mark word ≡ behind_all front (cut mark (b ∷ after)) → cut mark word ≡ Some (front ++ [], after)
cut_at word front after mark b h e = e ∙ ap (λ (v : Bool). behind_all front (cond v (Some ([], after)) (behind b (cut mark after)))) h

pub binary_step : (digits total : List ℕ) (k n bit : ℕ) → bit ≡ n / 2 ^ k % 2 → digits ++ binary (suc k) n ≡ total → (digits ++ (48 + bit) ∷ []) ++ binary k n ≡ total
binary_step digits total k n bit e h = append_assoc digits ((48 + bit) ∷ []) (binary k n) ∙ ap (λ (x : ℕ). digits ++ (48 + x) ∷ binary k n) e ∙ h

pub plain_step : (digits after total : List ℕ) (b : ℕ) → is_backslash b ≡ false → digits ++ string_digits (unescaped 0 (b ∷ after)) ≡ total → (digits ++ binary 8 b) ++ string_digits (unescaped 0 after) ≡ total
plain_step digits after total b h e =
    append_assoc digits (binary 8 b) (string_digits (unescaped 0 after))
    ∙ ap (λ (v : Bool). digits ++ string_digits (cond v (escaped after ∷ unescaped (escape_length after) after) (b ∷ unescaped 0 after))) (sym h) ∙ e

pub escape_step : (digits after total : List ℕ) (b : ℕ) → is_backslash b ≡ true → digits ++ string_digits (unescaped 0 (b ∷ after)) ≡ total
    → (digits ++ binary 8 (escaped after)) ++ string_digits (unescaped 0 (drop (escape_length after) after)) ≡ total
escape_step digits after total b h e =
    append_assoc digits (binary 8 (escaped after)) (string_digits (unescaped 0 (drop (escape_length after) after)))
    ∙ ap (λ (x : List ℕ). digits ++ (binary 8 (escaped after) ++ string_digits x)) (sym (unescaped_past (escape_length after) after))
    ∙ ap (λ (v : Bool). digits ++ string_digits (cond v (escaped after ∷ unescaped (escape_length after) after) (b ∷ unescaped 0 after))) (sym h) ∙ e

not_same : (b mark : ℕ) → (b ≡ mark → ⊥) → (b == mark) ≡ false
not_same b mark h = ne_eqb b mark h

pub cut_goes : (word rest front : List ℕ) (mark d : ℕ) → 1 ≤ length rest → (get_or rest 0 d ≡ mark → ⊥) → word ≡ front ++ rest → cut mark word ≡ behind_all front (cut mark rest)
    → (x : List ℕ) × (word ≡ x ++ take (length rest - 1) (drop 1 rest)) × (cut mark word ≡ behind_all x (cut mark (take (length rest - 1) (drop 1 rest))))
cut_goes word [] front mark d some h e f = absurd (omega arith)
cut_goes word (b ∷ after) front mark d some h e f =
    let same : take (length (b ∷ after) - 1) after ≡ after = take_all _ after (omega arith) in
    let differs : (b == mark) ≡ false = not_same b mark h in
    (front ++ (b ∷ []), rw same (e ∙ sym (append_assoc front (b ∷ []) after)), rw same (cut_past word front after mark b differs f))

pub binary_down : (digits total : List ℕ) (place n bit : ℕ) → 0 < place → bit ≡ n / 2 ^ (place - 1) % 2 → digits ++ binary place n ≡ total → (digits ++ (48 + bit) ∷ []) ++ binary (place - 1) n ≡ total
binary_down digits total zero n bit some e h = absurd (omega arith)
binary_down digits total (suc k) n bit some e h =
    let down : suc k - 1 ≡ k = omega arith in
    rw down (binary_step digits total k n bit (rw down at e) h)

pub sized_yes : (least n cut : ℕ) (digits : List ℕ) → cut ≡ min n 18446744073709551615 → least ≤ length digits → length digits ≤ cut → list_all is_digit digits ≡ true → sized_digits least (Some n) digits ≡ Some (extended n digits)
sized_yes least n cut digits e low high all =
    let a : nat_le least (length digits) ≡ true = le-leb least (length digits) low in
    let b : nat_le (length digits) n ≡ true = le-leb (length digits) n (omega arith) in
    rw (a, b, all) refl
