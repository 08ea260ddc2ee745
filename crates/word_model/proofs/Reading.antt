-- What a design's bits, rows and parameters have in a cycle of its model.
use Rattle.std.proofs.Common.{◌≡◌, ℕ, suc, ◌+◌, ◌*◌, Bool, true, false, cond, not, eqb, List, [], ◌∷◌, map, Option, Some, None, refl, ap, sym, ◌∙◌, add-zero, add-one}
use Rattle.std.specs.List.{range_with_len}
use Rattle.sby_bits.specs.Rows.{Row, num}
use Rattle.design_check.specs.Faults.{flag}
use Rattle.design_core.specs.Asked.{number_at, number_of}
use Rattle.design_core.specs.Cells.{is_set}
use Rattle.design_core.specs.Digits.{digits_number, is_binary, is_number}
use Rattle.design_core.specs.Places.{place_of}
use Rattle.design_core.specs.Ports.{digits_at}
use Rattle.design_core.specs.Shape.{CellOf, DesignOf}
use Rattle.design_core.specs.declared.digit.Digit.{Digit}
use Rattle.design_core.specs.declared.digit.Digit.TheVariants.{Const as ConstDigit, Free as FreeDigit, Marker}
use Rattle.design_core.specs.declared.names.ParameterName.{ParameterName}
use Rattle.design_meaning.specs.Meaning.{Valuation, bit_in, row_in, digit_in, digits_in, parameters_in}
use Rattle.design_signals.specs.declared.sig_bit.SigBit.{SigBit}
use Rattle.design_signals.specs.declared.sig_bit.SigBit.TheVariants.{Wire, Const, Free}
use Rattle.model_core.specs.Meaning.{Cycle, row_at}
use Rattle.word_model.specs.Layout.{digit_place, digits_places, kept_place, kept_places, signal_places, valued, zero_place}
use Rattle.word_model.specs.Served.{IsPlain}

module _ (d : DesignOf) (c : Cycle) (low : c (zero_place d) ≡ false) (high : c (suc (zero_place d)) ≡ true) where
  pub const-read : (b : Bool) → b ≡ c (place_of d (Const b))
  const-read false = sym (ap c (add-zero (zero_place d)) ∙ low)
  const-read true = sym (ap c (add-one (zero_place d)) ∙ high)

  pub bit-read : (b : SigBit) → bit_in (valued d c) b ≡ c (place_of d b)
  bit-read (Wire w b) = refl
  bit-read (Const b) = const-read b
  bit-read (Free n) = refl

  pub row-read : (bits : List SigBit) → row_in (valued d c) bits ≡ row_at c (signal_places d bits)
  row-read [] = refl
  row-read (b ∷ bits) = ap (λ (x : Bool). x ∷ row_in (valued d c) bits) (bit-read b) ∙ ap (λ (r : Row). c (place_of d b) ∷ r) (row-read bits)

  digit-read : (x : Digit) → digit_in (valued d c) x ≡ c (digit_place d x)
  digit-read (ConstDigit b) = const-read b
  digit-read (FreeDigit n) = refl
  digit-read Marker = const-read false

  digit-rows : (xs : List Digit) → map (digit_in (valued d c)) xs ≡ row_at c (map (digit_place d) xs)
  digit-rows [] = refl
  digit-rows (x ∷ xs) = ap (λ (b : Bool). b ∷ map (digit_in (valued d c)) xs) (digit-read x) ∙ ap (λ (r : Row). c (digit_place d x) ∷ r) (digit-rows xs)

  pub digits-read : (o : Option (List Digit)) → digits_in (valued d c) o ≡ row_at c (digits_places d o)
  digits-read None = refl
  digits-read (Some xs) = digit-rows xs

kept-rows : (d : DesignOf) (c : Cycle) (i : ℕ) (ks : List ℕ) → map ((valued d c).kept i) ks ≡ row_at c (map (kept_place d i) ks)
kept-rows d c i [] = refl
kept-rows d c i (k ∷ ks) = ap (λ (r : Row). c (kept_place d i k) ∷ r) (kept-rows d c i ks)

pub kept-read : (d : DesignOf) (c : Cycle) (i width : ℕ) → map ((valued d c).kept i) (range_with_len 0 width) ≡ row_at c (kept_places d i width)
kept-read d c i width = kept-rows d c i (range_with_len 0 width)

-- ---- parameters as numbers and flags

both : (a b : Bool) → cond a b false ≡ true → (a ≡ true) × (b ≡ true)
both true b h = (refl, h)
both false b h = absurd cc

num-digits : (v : Valuation) (xs : List Digit) → is_number xs ≡ true → num (map (digit_in v) xs) ≡ digits_number xs
num-digits v [] h = refl
num-digits v (ConstDigit true ∷ xs) h = ap (λ (n : ℕ). 1 + 2 * n) (num-digits v xs h)
num-digits v (ConstDigit false ∷ xs) h = ap (λ (n : ℕ). 0 + 2 * n) (num-digits v xs h)
num-digits v (FreeDigit n ∷ xs) h = absurd cc
num-digits v (Marker ∷ xs) h = absurd cc

number-in : (v : Valuation) (o : Option (List Digit)) → ((xs : List Digit) → o ≡ Some xs → is_number xs ≡ true) → num (digits_in v o) ≡ number_of o
number-in v None plain = refl
number-in v (Some xs) plain = num-digits v xs (plain xs refl)

pub number-read : (v : Valuation) (c : CellOf) (name : ParameterName) → IsPlain c name → num (parameters_in v c name) ≡ number_at c.parameters name
number-read v c name plain = number-in v (digits_at c.parameters name) plain

pub flag-read : (v : Valuation) (c : CellOf) (name : ParameterName) → IsPlain c name → is_set (parameters_in v c name) ≡ flag c name
flag-read v c name plain = ap (λ (n : ℕ). not (eqb n 0)) (number-read v c name plain)

-- a row of one bit as that bit
pub set-bit : (b : Bool) → is_set (b ∷ []) ≡ b
set-bit true = refl
set-bit false = refl
