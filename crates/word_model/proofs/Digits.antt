-- The digits that a register's bits start with, bit by bit.
use Rattle.std.proofs.Common.{◌≡◌, ◌⊎◌, inl, inr, ℕ, zero, suc, ◌+◌, ◌<◌, ◌≤◌, Bool, true, false, List, [], ◌∷◌, ◌++◌, length, drop, map, Option, Some, refl, ap, sym, subst, ◌∙◌, arith}
use Rattle.std.specs.Prelude.{◌↔◌, slice_get}
use Rattle.std.specs.List.{range_with_len}
use Rattle.std.proofs.lemmas.Bool.{cases_lt, false≢true}
use Rattle.std.proofs.lemmas.Option.{slice_get_within}
use Rattle.std.proofs.lemmas.List.{drop_all, length-map, length_push}
use Rattle.design_core.specs.Asked.{output_of}
use Rattle.design_core.specs.Shape.{CellOf, DesignOf}
use Rattle.design_core.specs.Table.{role_of}
use Rattle.design_core.specs.declared.table.Role.{Role}
use Rattle.design_core.specs.declared.table.Role.TheVariants.{Combinational, Register, AsyncResetRegister, Constant, Initial, Source, Statement, Unsupported}
use Rattle.design_meaning.specs.Meaning.{IsCell, IsRegisterBit, IsStart, is_register}
use Rattle.design_meaning.specs.States.{Kept, Signal, state_of, state_of_role}
use Rattle.design_signals.specs.declared.sig_bit.SigBit.{SigBit}
use Rattle.model_core.proofs.Lists.{push-either, push-new, push-old}
use Rattle.word_model.specs.Registers.{AreDigits, BeginsWith}

-- what is left of a list from a place on
dropped : {X : Type 0} (xs : List X) (n : ℕ) (y : X) (ys : List X) → drop n xs ≡ y ∷ ys → (slice_get xs n ≡ Some y) × (ys ≡ drop (n + 1) xs)
dropped [] zero y ys e = absurd cc
dropped [] (suc n) y ys e = absurd cc
dropped {X = X} (x ∷ xs) zero y ys e = let first : x ≡ y = cc in let rest : xs ≡ ys = cc in (ap (λ (z : X). Some z) first, sym rest)
dropped {X = X} (x ∷ xs) (suc n) y ys e =
    let r = dropped xs n y ys e in
    let next : suc (n + 1) ≡ suc n + 1 = omega arith in
    (r.0, r.1 ∙ ap (λ (k : ℕ). drop k (x ∷ xs)) next)

all-dropped : {X : Type 0} (xs : List X) (n : ℕ) → n ≤ length xs → drop n xs ≡ [] → length xs ≡ n
all-dropped [] zero h e = refl
all-dropped [] (suc n) h e = absurd (omega arith)
all-dropped (x ∷ xs) zero h e = absurd cc
all-dropped (x ∷ xs) (suc n) h e = ap suc (all-dropped xs n (omega arith) e)

within-dropped : {X : Type 0} (xs : List X) (n : ℕ) (y : X) (ys : List X) → drop n xs ≡ y ∷ ys → n < length xs
within-dropped [] zero y ys e = absurd cc
within-dropped [] (suc n) y ys e = absurd cc
within-dropped (x ∷ xs) zero y ys e = omega arith
within-dropped (x ∷ xs) (suc n) y ys e = let lt : n < length xs = within-dropped xs n y ys e in omega (arith, lt)

-- each of these digits is that of its bit, wherever the cell is
abbrev pub AreStartDigits : DesignOf → CellOf → List (Option Bool) → Type 0
AreStartDigits d c digits = (i : ℕ) → IsCell d i c → is_register (role_of c.kind) ≡ true → (k : ℕ) (x : Bool) → k < length digits → (slice_get digits k ≡ Some (Some x)) ↔ IsStart d i k x

pub no-digits : (d : DesignOf) (c : CellOf) (digits : List (Option Bool)) → digits ≡ [] → AreStartDigits d c digits
no-digits d c digits e i at register k x lt = let none : length digits ≡ 0 = ap length e in absurd (omega (arith, none, lt))

module _ (d : DesignOf) (c : CellOf) (digits : List (Option Bool)) (left : List SigBit) (at : left ≡ drop (length digits) (output_of c)) (bit : SigBit) (rest : List SigBit) (e : left ≡ bit ∷ rest) where
  here : slice_get (output_of c) (length digits) ≡ Some bit
  here = (dropped (output_of c) (length digits) bit rest (sym at ∙ e)).0

  pub next-at : (o : Option Bool) → rest ≡ drop (length (digits ++ o ∷ [])) (output_of c)
  next-at o = (dropped (output_of c) (length digits) bit rest (sym at ∙ e)).1 ∙ ap (λ (n : ℕ). drop n (output_of c)) (sym (length_push digits o))

  pub next-within : (o : Option Bool) → length (digits ++ o ∷ []) ≤ length (output_of c)
  next-within o = let lt : length digits < length (output_of c) = within-dropped (output_of c) (length digits) bit rest (sym at ∙ e) in omega (arith, lt, length_push digits o)

  pub next-digits : (o : Option Bool) → ((i k : ℕ) (x : Bool) → IsRegisterBit d i k bit → (o ≡ Some x) ↔ IsStart d i k x) → AreStartDigits d c digits → AreStartDigits d c (digits ++ o ∷ [])
  next-digits o start before i cell register k x lt = (to, from)
    where
      one : (p q : Option Bool) → Some p ≡ Some q → p ≡ q
      one p q h = cc

      here-start : k ≡ length digits → (o ≡ Some x) ↔ IsStart d i k x
      here-start k-is = start i k x (c, cell, register, ap (λ (n : ℕ). slice_get (output_of c) n) k-is ∙ here)

      to : slice_get (digits ++ o ∷ []) k ≡ Some (Some x) → IsStart d i k x
      to h = elim (push-either digits o (Some x) k h) as (λ _. IsStart d i k x) [
        | inl old ↦ (before i cell register k x (slice_get_within digits k (Some x) old)).0 old
        | inr new ↦ (here-start new.0).0 (sym new.1)
      ]

      from : IsStart d i k x → slice_get (digits ++ o ∷ []) k ≡ Some (Some x)
      from h = elim (cases_lt k (length digits)) as (λ _. slice_get (digits ++ o ∷ []) k ≡ Some (Some x)) [
        | inl less ↦ push-old digits o (Some x) k ((before i cell register k x less).1 h)
        | inr most ↦
            let k-is : k ≡ length digits = omega (arith, most, lt, length_push digits o) in
            ap (λ (n : ℕ). slice_get (digits ++ o ∷ []) n) k-is ∙ (push-new digits o ∙ ap (λ (p : Option Bool). Some p) ((here-start k-is).1 h))
      ]

length-range : (a n : ℕ) → length (range_with_len a n) ≡ n
length-range a zero = refl
length-range a (suc n) = ap suc (length-range (a + 1) n)

-- all of them
pub digits-end : (d : DesignOf) (c : CellOf) (digits : List (Option Bool)) (left : List SigBit) → left ≡ drop (length digits) (output_of c) → length digits ≤ length (output_of c) → left ≡ []
    → AreStartDigits d c digits → (i : ℕ) → IsCell d i c → is_register (role_of c.kind) ≡ true → AreDigits d i c digits
digits-end d c digits left at within none are i cell register =
    let all : length (output_of c) ≡ length digits = all-dropped (output_of c) (length digits) within (sym at ∙ none) in
    let r = by (role_of c.kind) register (sym all) in
    record { size = r.0; each = λ k x lt. r.1 k x (are i cell register k x lt) }
  where
    by : (r : Role) → is_register r ≡ true → length digits ≡ length (output_of c)
        → (length digits ≡ length (state_of_role r (map (λ b. Signal b) (output_of c)) (map (λ k. Kept i k) (range_with_len 0 (length (output_of c))))))
        × ((k : ℕ) (x : Bool) → (slice_get digits k ≡ Some (Some x)) ↔ IsStart d i k x → (slice_get digits k ≡ Some (Some x)) ↔ BeginsWith r d i k x)
    by Combinational t e = absurd (false≢true t)
    by Register t e = (e ∙ sym (length-map (output_of c) (λ (b : SigBit). Signal b)), λ k x h. h)
    by AsyncResetRegister t e = (e ∙ (sym (length-range 0 (length (output_of c))) ∙ sym (length-map (range_with_len 0 (length (output_of c))) (λ (k : ℕ). Kept i k))), λ k x h. h)
    by Constant t e = absurd (false≢true t)
    by Initial t e = absurd (false≢true t)
    by Source t e = absurd (false≢true t)
    by Statement t e = absurd (false≢true t)
    by Unsupported t e = absurd (false≢true t)
