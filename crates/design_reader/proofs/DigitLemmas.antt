-- Digits of constants, by their runs.
use Rattle.std.proofs.Common.{◌≡◌, ℕ, zero, suc, ◌+◌, ◌-◌, ◌*◌, ◌/◌, ◌%◌, ◌<◌, ◌≤◌, ◌^◌, min, Bool, true, false, cond, ◌||◌, eqb, List, [], ◌∷◌, ◌++◌, length, take, replicate, map, refl, sym, ap, ◌∙◌, subst, append_assoc, ne_eqb, arith}
use Rattle.std.specs.Prelude.{reverse, ◌==◌}
use Rattle.std.proofs.lemmas.List.{reverse-append, replicate_more, length-map, length-take}
use Rattle.std.proofs.lemmas.Bool.{eqb-true}
use Rattle.sby_bits.specs.Rows.{Row, low_bits}
use Rattle.sby_bits.proofs.Numbers.{half_first}
use Rattle.design_core.specs.Digits.{number_digits}
use Rattle.design_core.specs.declared.digit.Digit.{Digit}
use Rattle.design_core.specs.declared.digit.Digit.TheVariants.{Const as ConstDigit, Free as FreeDigit, Marker}
use Rattle.design_signals.specs.declared.sig_bit.SigBit.{SigBit}
use Rattle.design_signals.specs.declared.sig_bit.SigBit.TheVariants.{Free}
use Rattle.rtlil_constant.specs.Constants.{binary, is_fill, is_open, open_digits}
use Rattle.rtlil_constant.proofs.DigitLemmas.{open_below, open_past}
use Rattle.design_reader.specs.Grammar.{numbered_bits, numbered_digits, plain_bit, plain_digit, start_digit, start_digits}
use Rattle.design_reader.specs.Runs.{bits_run, free_digits}
use Rattle.design_signals.specs.Parts.{free_row}

-- ---- lists

take_both : {X : Type 0} (n : ℕ) (xs ys : List X) → take n (xs ++ ys) ≡ take n xs ++ take (n - length xs) ys
take_both zero [] ys = refl
take_both (suc n) [] ys = let all : suc n ≡ suc n - 0 = omega arith in ap (λ (k : ℕ). take k ys) all
take_both zero (x ∷ xs) ys = let none : 0 - suc (length xs) ≡ 0 = omega arith in ap (λ (k : ℕ). take k ys) (sym none)
take_both {X = X} (suc n) (x ∷ xs) ys =
    let less : n - length xs ≡ suc n - suc (length xs) = omega arith in
    ap (λ (l : List X). x ∷ l) (take_both n xs ys) ∙ ap (λ (k : ℕ). x ∷ (take n xs ++ take k ys)) less

take_run : {X : Type 0} (n m : ℕ) (x : X) → take n (replicate m x) ≡ replicate (min n m) x
take_run zero zero x = refl
take_run zero (suc m) x = let none : min 0 (suc m) ≡ 0 = omega arith in ap (λ (k : ℕ). replicate k x) (sym none)
take_run (suc n) zero x = let none : min (suc n) 0 ≡ 0 = omega arith in ap (λ (k : ℕ). replicate k x) (sym none)
take_run {X = X} (suc n) (suc m) x =
    let more : suc (min n m) ≡ min (suc n) (suc m) = omega arith in
    ap (λ (l : List X). x ∷ l) (take_run n m x) ∙ ap (λ (k : ℕ). replicate k x) more

map_both : {X Y : Type 0} (f : X → Y) (xs ys : List X) → map f (xs ++ ys) ≡ map f xs ++ map f ys
map_both f [] ys = refl
map_both {Y = Y} f (x ∷ xs) ys = ap (λ (l : List Y). f x ∷ l) (map_both f xs ys)

map_run : {X Y : Type 0} (f : X → Y) (n : ℕ) (x : X) → map f (replicate n x) ≡ replicate n (f x)
map_run f zero x = refl
map_run {Y = Y} f (suc n) x = ap (λ (l : List Y). f x ∷ l) (map_run f n x)

map_turned : {X Y : Type 0} (f : X → Y) (xs : List X) → reverse (map f xs) ≡ map f (reverse xs)
map_turned f [] = refl
map_turned {X = X} {Y = Y} f (x ∷ xs) =
    reverse-append (f x ∷ []) (map f xs) ∙ ap (λ (l : List Y). l ++ f x ∷ []) (map_turned f xs) ∙ sym (map_both f (reverse xs) (x ∷ []))
    ∙ ap (λ (l : List X). map f l) (sym (reverse-append (x ∷ []) xs))

run_turned : {X : Type 0} (n : ℕ) (c : X) → reverse (replicate n c) ≡ replicate n c
run_turned zero c = refl
run_turned {X = X} (suc n) c =
    let more : n + 1 ≡ suc n = omega arith in
    reverse-append (c ∷ []) (replicate n c) ∙ ap (λ (l : List X). l ++ c ∷ []) (run_turned n c) ∙ replicate_more n c ∙ ap (λ (k : ℕ). replicate k c) more

-- what stands below a run, read from the lowest
fill_turned : {X : Type 0} (n : ℕ) (c : X) (digits : List X) → reverse (replicate n c ++ digits) ≡ reverse digits ++ replicate n c
fill_turned {X = X} n c digits = reverse-append (replicate n c) digits ∙ ap (λ (l : List X). reverse digits ++ l) (run_turned n c)

-- ---- start digits

pub start_is : (width n c more : ℕ) (digits written : List ℕ) (start : List _) → digits ≡ replicate n c ++ written → start ≡ map start_digit (take width (reverse written))
    → more ≡ min (width - length start) n → start ++ replicate more (start_digit c) ≡ start_digits width digits
start_is width n c more digits written start d e m =
    let low : List ℕ = reverse written in
    let long : length start ≡ min width (length low) = omega (arith, ap (λ (l : List _). length l) e, length-map (take width low) start_digit, length-take width low) in
    let count : min (width - length low) n ≡ more = omega (arith, long, m) in
    sym (
    ap (λ (l : List ℕ). map start_digit (take width (reverse l))) d
    ∙ ap (λ (l : List ℕ). map start_digit (take width l)) (fill_turned n c written)
    ∙ ap (λ (l : List ℕ). map start_digit l) (take_both width low (replicate n c) ∙ ap (λ (l : List ℕ). take width low ++ l) (take_run (width - length low) n c))
    ∙ map_both start_digit (take width low) (replicate (min (width - length low) n) c)
    ∙ ap (λ (l : List _). map start_digit (take width low) ++ l) (map_run start_digit (min (width - length low) n) c)
    ∙ ap (λ (k : ℕ). map start_digit (take width low) ++ replicate k (start_digit c)) count
    ∙ ap (λ (l : List _). l ++ replicate more (start_digit c)) (sym e)
    )

-- ---- digits without free bits

pub plain_is : (n c : ℕ) (digits written : List ℕ) → digits ≡ replicate n c ++ written → map plain_digit (reverse written) ++ replicate n (plain_digit c) ≡ map plain_digit (reverse digits)
plain_is n c digits written d =
    sym (
    ap (λ (l : List ℕ). map plain_digit (reverse l)) d
    ∙ ap (λ (l : List ℕ). map plain_digit l) (fill_turned n c written)
    ∙ map_both plain_digit (reverse written) (replicate n c)
    ∙ ap (λ (l : List Digit). map plain_digit (reverse written) ++ l) (map_run plain_digit n c)
    )

pub plain_bits : (n c : ℕ) (digits written : List ℕ) → digits ≡ replicate n c ++ written → replicate n (plain_bit c) ++ map plain_bit written ≡ map plain_bit digits
plain_bits n c digits written d = sym (ap (λ (l : List ℕ). map plain_bit l) d ∙ map_both plain_bit (replicate n c) written ∙ ap (λ (l : List _). l ++ map plain_bit written) (map_run plain_bit n c))

-- where no digit is x, z or -
pub no_free : (n : ℕ) (digits : List ℕ) → open_digits digits ≡ 0 → numbered_digits n digits ≡ map plain_digit digits
no_free n [] h = refl
no_free n (c ∷ digits) h =
    elim (is_open c) as (λ v. cond v (1 + open_digits digits) (open_digits digits) ≡ 0 → cond v (FreeDigit n ∷ numbered_digits (n + 1) digits) (plain_digit c ∷ numbered_digits n digits) ≡ plain_digit c ∷ map plain_digit digits) [
      | true ↦ λ e. absurd (omega arith)
      | false ↦ λ e. ap (λ (l : List Digit). plain_digit c ∷ l) (no_free n digits e)
    ] h

pub closed_is : (n : ℕ) (digits : List ℕ) (row : List Digit) → open_digits digits ≡ 0 → row ≡ map plain_digit (reverse digits) → row ≡ reverse (numbered_digits n digits)
closed_is n digits row h e = e ∙ sym (map_turned plain_digit digits) ∙ ap (λ (l : List Digit). reverse l) (sym (no_free n digits h))

-- what extends a constant is 0 where it isn't x, z or -
closed_fill : (c : ℕ) → is_fill c ≡ true → is_open c ≡ false → plain_digit c ≡ ConstDigit false
closed_fill c fill e =
    elim (c == 48) as (λ v. (v || is_open c) ≡ true → cond v (ConstDigit false) (cond (c == 49) (ConstDigit true) Marker) ≡ ConstDigit false) [
      | true ↦ λ f. refl
      | false ↦ λ f. absurd cc
    ] fill

not_open : (c : ℕ) → c ≡ 49 → is_open c ≡ true → ⊥
not_open c e o = let no : false ≡ true = subst (λ (k : ℕ). is_open k ≡ true) e o in absurd cc

pub open_fill : (c : ℕ) → is_fill c ≡ true → (c ≡ 48 → ⊥) → plain_digit c ≡ Marker
open_fill c fill h =
    let other : (c == 48) ≡ false = ne_eqb c 48 h in
    let open_c : is_open c ≡ true = rw other at fill in
    rw other (elim (c == 49) as (λ v. (c == 49) ≡ v → cond v (ConstDigit true) Marker ≡ Marker) [
      | true ↦ λ e. absurd (not_open c (eqb-true c 49 e) open_c)
      | false ↦ λ e. refl
    ] refl)

-- ---- digits with free bits

numbered_free : (n count c : ℕ) (digits : List ℕ) → is_open c ≡ true → numbered_digits n (replicate count c ++ digits) ≡ free_digits n count ++ numbered_digits (n + count) digits
numbered_free n zero c digits h = let at : n ≡ n + 0 = omega arith in ap (λ (k : ℕ). numbered_digits k digits) at
numbered_free n (suc count) c digits h =
    let at : n + 1 + count ≡ n + suc count = omega arith in
    rw h (ap (λ (l : List Digit). FreeDigit n ∷ l) (numbered_free (n + 1) count c digits h ∙ ap (λ (k : ℕ). free_digits (n + 1) count ++ numbered_digits k digits) at))

numbered_plain : (n count c : ℕ) (digits : List ℕ) → is_open c ≡ false → numbered_digits n (replicate count c ++ digits) ≡ replicate count (plain_digit c) ++ numbered_digits n digits
numbered_plain n zero c digits h = refl
numbered_plain n (suc count) c digits h = rw h (ap (λ (l : List Digit). plain_digit c ∷ l) (numbered_plain n count c digits h))

pub free_is : (n count c : ℕ) (digits written : List ℕ) → digits ≡ replicate count c ++ written → is_open c ≡ true → reverse (free_digits n count ++ numbered_digits (n + count) written) ≡ reverse (numbered_digits n digits)
free_is n count c digits written d e = ap (λ (l : List Digit). reverse l) (sym (numbered_free n count c written e) ∙ ap (λ (l : List ℕ). numbered_digits n l) (sym d))

pub zeros_is : (n count c : ℕ) (digits written : List ℕ) → digits ≡ replicate count c ++ written → is_fill c ≡ true → is_open c ≡ false → reverse (numbered_digits n written) ++ replicate count (ConstDigit false) ≡ reverse (numbered_digits n digits)
zeros_is n count c digits written d fill e =
    ap (λ (x : Digit). reverse (numbered_digits n written) ++ replicate count x) (sym (closed_fill c fill e))
    ∙ sym (fill_turned count (plain_digit c) (numbered_digits n written))
    ∙ ap (λ (l : List Digit). reverse l) (sym (numbered_plain n count c written e) ∙ ap (λ (l : List ℕ). numbered_digits n l) (sym d))

-- how many free bits stand below a run
pub open_left : (n c first most : ℕ) (digits written : List ℕ) → digits ≡ replicate n c ++ written → first + open_digits digits < most → is_open c ≡ true → first + n + open_digits written < most
open_left n c first most digits written d h e = omega (arith, h, ap (λ (l : List ℕ). open_digits l) d, open_below n c written e)

pub open_all : (n c first most : ℕ) (digits written : List ℕ) → digits ≡ replicate n c ++ written → first + open_digits digits < most → is_open c ≡ false → first + open_digits written < most
open_all n c first most digits written d h e = omega (arith, h, ap (λ (l : List ℕ). open_digits l) d, open_past n c written e)

bits_free : (n count c : ℕ) (digits : List ℕ) → is_open c ≡ true → numbered_bits n (replicate count c ++ digits) ≡ free_row n count ++ numbered_bits (n + count) digits
bits_free n zero c digits h = let at : n ≡ n + 0 = omega arith in ap (λ (k : ℕ). numbered_bits k digits) at
bits_free n (suc count) c digits h =
    let at : n + 1 + count ≡ n + suc count = omega arith in
    rw h (ap (λ (l : List SigBit). Free n ∷ l) (bits_free (n + 1) count c digits h ∙ ap (λ (k : ℕ). free_row (n + 1) count ++ numbered_bits k digits) at))

bits_plain : (n count c : ℕ) (digits : List ℕ) → is_open c ≡ false → numbered_bits n (replicate count c ++ digits) ≡ replicate count (plain_bit c) ++ numbered_bits n digits
bits_plain n zero c digits h = refl
bits_plain n (suc count) c digits h = rw h (ap (λ (l : List SigBit). plain_bit c ∷ l) (bits_plain n count c digits h))

pub bits_are : (n behind count c : ℕ) (digits written : List ℕ) → digits ≡ replicate count c ++ written → behind ≡ cond (is_open c) (n + count) n
    → bits_run n c count ++ numbered_bits behind written ≡ numbered_bits n digits
bits_are n behind count c digits written d b =
    elim (is_open c) as (λ v. is_open c ≡ v → behind ≡ cond v (n + count) n → cond v (free_row n count) (replicate count (plain_bit c)) ++ numbered_bits behind written ≡ numbered_bits n digits) [
      | true ↦ λ e f. ap (λ (k : ℕ). free_row n count ++ numbered_bits k written) f ∙ sym (bits_free n count c written e) ∙ ap (λ (l : List ℕ). numbered_bits n l) (sym d)
      | false ↦ λ e f. ap (λ (k : ℕ). replicate count (plain_bit c) ++ numbered_bits k written) f ∙ sym (bits_plain n count c written e) ∙ ap (λ (l : List ℕ). numbered_bits n l) (sym d)
    ] refl b

-- the numbers of free bits in the run and after it
pub open_run : (n c first most : ℕ) (digits written : List ℕ) → digits ≡ replicate n c ++ written → first + open_digits digits < most → is_open c ≡ true → first + n < most
open_run n c first most digits written d h e = omega (arith, h, ap (λ (l : List ℕ). open_digits l) d, open_below n c written e)

pub open_behind : (n c first most : ℕ) (digits written : List ℕ) → digits ≡ replicate n c ++ written → first + open_digits digits < most → cond (is_open c) (first + n) first + open_digits written < most
open_behind n c first most digits written d h =
    elim (is_open c) as (λ v. is_open c ≡ v → cond v (first + n) first + open_digits written < most) [
      | true ↦ λ e. omega (arith, h, ap (λ (l : List ℕ). open_digits l) d, open_below n c written e)
      | false ↦ λ e. omega (arith, h, ap (λ (l : List ℕ). open_digits l) d, open_past n c written e)
    ] refl

-- ---- numbers

low_push : (k n : ℕ) → low_bits (suc k) n ≡ low_bits k n ++ eqb (n / 2 ^ k % 2) 1 ∷ []
low_push zero n = let at : n / 2 ^ 0 ≡ n = omega arith in ap (λ (m : ℕ). eqb (m % 2) 1 ∷ []) (sym at)
low_push (suc k) n =
    ap (λ (r : Row). eqb (n % 2) 1 ∷ r) (low_push k (n / 2)) ∙ ap (λ (m : ℕ). eqb (n % 2) 1 ∷ (low_bits k (n / 2) ++ eqb (m % 2) 1 ∷ [])) (sym (half_first n k))

bit_digit : (b : ℕ) → b < 2 → plain_digit (48 + b) ≡ ConstDigit (eqb b 1)
bit_digit zero h = refl
bit_digit (suc zero) h = refl
bit_digit (suc (suc b)) h = absurd (omega arith)

pub decimal_is : (k n : ℕ) → number_digits k n ≡ map plain_digit (reverse (binary k n))
decimal_is zero n = refl
decimal_is (suc k) n =
    let two : n / 2 ^ k % 2 < 2 = omega arith in
    ap (λ (r : Row). map (λ (b : Bool). ConstDigit b) r) (low_push k n)
    ∙ map_both (λ (b : Bool). ConstDigit b) (low_bits k n) (eqb (n / 2 ^ k % 2) 1 ∷ [])
    ∙ ap (λ (l : List Digit). l ++ ConstDigit (eqb (n / 2 ^ k % 2) 1) ∷ []) (decimal_is k n)
    ∙ ap (λ (x : Digit). map plain_digit (reverse (binary k n)) ++ x ∷ []) (sym (bit_digit (n / 2 ^ k % 2) two))
    ∙ sym (map_both plain_digit (reverse (binary k n)) ((48 + n / 2 ^ k % 2) ∷ []))
    ∙ ap (λ (l : List ℕ). map plain_digit l) (sym (reverse-append ((48 + n / 2 ^ k % 2) ∷ []) (binary k n)))

zeros : (n : ℕ) → low_bits n 0 ≡ replicate n false
zeros zero = refl
zeros (suc n) = ap (λ (r : Row). false ∷ r) (zeros n)

padded : (width n value : ℕ) → value < 2 ^ width → low_bits (width + n) value ≡ low_bits width value ++ replicate n false
padded zero n value h =
    let at : value ≡ 0 = omega arith in
    let size : 0 + n ≡ n = omega arith in
    ap (λ (k : ℕ). low_bits k value) size ∙ ap (λ (k : ℕ). low_bits n k) at ∙ zeros n
padded (suc width) n value h =
    let size : suc width + n ≡ suc (width + n) = omega arith in
    ap (λ (k : ℕ). low_bits k value) size ∙ ap (λ (r : Row). eqb (value % 2) 1 ∷ r) (padded width n (value / 2) (omega arith))

-- zeros above a number
pub filled_is : (width n value : ℕ) (digits written : List ℕ) → value < 2 ^ width → digits ≡ replicate n 48 ++ written → number_digits width value ≡ map plain_digit (reverse written)
    → number_digits (width + n) value ≡ map plain_digit (reverse digits)
filled_is width n value digits written h d e =
    ap (λ (r : Row). map (λ (b : Bool). ConstDigit b) r) (padded width n value h)
    ∙ map_both (λ (b : Bool). ConstDigit b) (low_bits width value) (replicate n false)
    ∙ ap (λ (l : List Digit). l ++ map (λ (b : Bool). ConstDigit b) (replicate n false)) e
    ∙ ap (λ (l : List Digit). map plain_digit (reverse written) ++ l) (map_run (λ (b : Bool). ConstDigit b) n false)
    ∙ plain_is n 48 digits written d

pub pow_more : (value n m : ℕ) → value < 2 ^ n → value < 2 ^ (m + n)
pow_more value n zero h = let at : 0 + n ≡ n = omega arith in subst (λ (k : ℕ). value < 2 ^ k) (sym at) h
pow_more value n (suc m) h =
    let at : suc m + n ≡ suc (m + n) = omega arith in
    let less : value < 2 ^ suc (m + n) = omega (arith, pow_more value n m h) in
    subst (λ (k : ℕ). value < 2 ^ k) (sym at) less

pub short_is : (zeros value : ℕ) (digits written : List ℕ) → value < 2 ^ length written → digits ≡ replicate zeros 48 ++ written → number_digits (length written) value ≡ map plain_digit (reverse written)
    → number_digits (zeros + length written) value ≡ map plain_digit (reverse digits)
short_is zeros value digits written h d e =
    let turn : zeros + length written ≡ length written + zeros = omega arith in
    ap (λ (k : ℕ). number_digits k value) turn ∙ filled_is (length written) zeros value digits written h d e

-- one more digit below
pub number_step : (k value digit : ℕ) (digits : List ℕ) → 48 ≤ digit → digit ≤ 49 → number_digits k value ≡ map plain_digit (reverse digits)
    → number_digits (k + 1) (value * 2 + (digit - 48)) ≡ map plain_digit (reverse (digits ++ digit ∷ []))
number_step k value digit digits low high e =
    let more : k + 1 ≡ suc k = omega arith in
    let bit : (value * 2 + (digit - 48)) % 2 ≡ digit - 48 = omega arith in
    let rest : (value * 2 + (digit - 48)) / 2 ≡ value = omega arith in
    let back : 48 + (digit - 48) ≡ digit = omega arith in
    let two : digit - 48 < 2 = omega arith in
    ap (λ (j : ℕ). number_digits j (value * 2 + (digit - 48))) more
    ∙ ap (λ (b : ℕ). ConstDigit (eqb b 1) ∷ number_digits k ((value * 2 + (digit - 48)) / 2)) bit
    ∙ ap (λ (v : ℕ). ConstDigit (eqb (digit - 48) 1) ∷ number_digits k v) rest
    ∙ ap (λ (x : Digit). x ∷ number_digits k value) (sym (bit_digit (digit - 48) two))
    ∙ ap (λ (c : ℕ). plain_digit c ∷ number_digits k value) back
    ∙ ap (λ (l : List Digit). plain_digit digit ∷ l) e
    ∙ ap (λ (l : List ℕ). map plain_digit l) (sym (reverse-append digits (digit ∷ [])))

-- ---- one free digit more

free_more : (n count : ℕ) → free_digits n count ++ FreeDigit (n + count) ∷ [] ≡ free_digits n (count + 1)
free_more n zero = let at : n + 0 ≡ n = omega arith in ap (λ (k : ℕ). FreeDigit k ∷ []) at
free_more n (suc count) =
    let at : n + suc count ≡ n + 1 + count = omega arith in
    let size : suc count + 1 ≡ suc (count + 1) = omega arith in
    ap (λ (k : ℕ). FreeDigit n ∷ (free_digits (n + 1) count ++ FreeDigit k ∷ [])) at
    ∙ ap (λ (l : List Digit). FreeDigit n ∷ l) (free_more (n + 1) count)
    ∙ ap (λ (k : ℕ). free_digits n k) (sym size)

pub free_step : (row old : List Digit) (first place : ℕ) → row ≡ old ++ free_digits first place → row ++ FreeDigit (first + place) ∷ [] ≡ old ++ free_digits first (place + 1)
free_step row old first place e =
    ap (λ (l : List Digit). l ++ FreeDigit (first + place) ∷ []) e ∙ append_assoc old (free_digits first place) (FreeDigit (first + place) ∷ [])
    ∙ ap (λ (l : List Digit). old ++ l) (free_more first place)
