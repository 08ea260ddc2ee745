-- Bits below the last row.
use Rattle.std.proofs.Common.{◌≡◌, ℕ, ◌+◌, ◌<◌, ◌≤◌, true, false, cond, List, [], ◌∷◌, ◌++◌, length, drop, get_or, map, refl, sym, ap, ◌∙◌, append_assoc, append-nil, arith}
use Rattle.std.proofs.lemmas.List.{drop_more}
use Rattle.design_signals.specs.declared.sig_bit.SigBit.{SigBit}
use Rattle.design_signals.specs.declared.sig_bit.SigBit.TheVariants.{Free}
use Rattle.rtlil_constant.specs.Constants.{is_open, open_digits}
use Rattle.design_reader.specs.Grammar.{numbered_bits, plain_bit}
use Rattle.design_reader.specs.Runs.{below}

abbrev Bits : Type 0
Bits = List SigBit

abbrev Rows : Type 0
Rows = List (List SigBit)

abbrev pub Pushed : Rows → Rows → SigBit → Type 0
Pushed old new bit = (row : Bits) (rows : Rows) → old ≡ row ∷ rows → new ≡ (row ++ bit ∷ []) ∷ rows

pub below_none : (rows : Rows) → below rows [] ≡ rows
below_none [] = refl
below_none (row ∷ rows) = ap (λ (x : Bits). x ∷ rows) (append-nil row)

pub below_push : (old new : Rows) (bit : SigBit) (bits : Bits) → 1 ≤ length old → Pushed old new bit → below new bits ≡ below old (bit ∷ bits)
below_push [] new bit bits some h = absurd (omega arith)
below_push (row ∷ rows) new bit bits some h = ap (λ (x : Rows). below x bits) (h row rows refl) ∙ ap (λ (x : Bits). x ∷ rows) (append_assoc row (bit ∷ []) bits)

pub pushed_long : (old new : Rows) (bit : SigBit) → 1 ≤ length old → Pushed old new bit → 1 ≤ length new
pushed_long [] new bit some h = absurd (omega arith)
pushed_long (row ∷ rows) new bit some h = omega (arith, ap (λ (x : Rows). length x) (h row rows refl))

-- ---- one digit more

numbered_first : (n next c : ℕ) (bit : SigBit) (digits : List ℕ) → bit ≡ cond (is_open c) (Free n) (plain_bit c) → next ≡ cond (is_open c) (n + 1) n → numbered_bits n (c ∷ digits) ≡ bit ∷ numbered_bits next digits
numbered_first n next c bit digits e f =
    elim (is_open c) as (λ v. bit ≡ cond v (Free n) (plain_bit c) → next ≡ cond v (n + 1) n → cond v (Free n ∷ numbered_bits (n + 1) digits) (plain_bit c ∷ numbered_bits n digits) ≡ bit ∷ numbered_bits next digits) [
      | true ↦ λ g h. rw (g, h) refl
      | false ↦ λ g h. rw (g, h) refl
    ] e f

numbered_count : (n next c : ℕ) (digits : List ℕ) → next ≡ cond (is_open c) (n + 1) n → next + open_digits digits ≡ n + open_digits (c ∷ digits)
numbered_count n next c digits f =
    elim (is_open c) as (λ v. next ≡ cond v (n + 1) n → next + open_digits digits ≡ n + cond v (1 + open_digits digits) (open_digits digits)) [
      | true ↦ λ h. omega arith
      | false ↦ λ h. omega arith
    ] f

module _ (old new : Rows) (bit : SigBit) (some : 1 ≤ length old) (pushed : Pushed old new bit) (digits : List ℕ) (i d : ℕ) (within : i < length digits) where
  pub plain_go : (total : Rows) → bit ≡ plain_bit (get_or digits i d) → below old (map plain_bit (drop i digits)) ≡ total → below new (map plain_bit (drop (i + 1) digits)) ≡ total
  plain_go total e h =
      below_push old new bit (map plain_bit (drop (i + 1) digits)) some pushed
      ∙ ap (λ (b : SigBit). below old (b ∷ map plain_bit (drop (i + 1) digits))) e
      ∙ ap (λ (l : List ℕ). below old (map plain_bit l)) (sym (drop_more digits i d within)) ∙ h

  pub numbered_go : (total : Rows) (n next : ℕ) → bit ≡ cond (is_open (get_or digits i d)) (Free n) (plain_bit (get_or digits i d)) → next ≡ cond (is_open (get_or digits i d)) (n + 1) n
      → below old (numbered_bits n (drop i digits)) ≡ total → below new (numbered_bits next (drop (i + 1) digits)) ≡ total
  numbered_go total n next e f h =
      below_push old new bit (numbered_bits next (drop (i + 1) digits)) some pushed
      ∙ ap (λ (l : Bits). below old l) (sym (numbered_first n next (get_or digits i d) bit (drop (i + 1) digits) e f))
      ∙ ap (λ (l : List ℕ). below old (numbered_bits n l)) (sym (drop_more digits i d within)) ∙ h

  pub count_go : (n next total : ℕ) → next ≡ cond (is_open (get_or digits i d)) (n + 1) n → n + open_digits (drop i digits) ≡ total → next + open_digits (drop (i + 1) digits) ≡ total
  count_go n next total f h =
      numbered_count n next (get_or digits i d) (drop (i + 1) digits) f ∙ ap (λ (l : List ℕ). n + open_digits l) (sym (drop_more digits i d within)) ∙ h
