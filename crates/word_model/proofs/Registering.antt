-- A cell's register as it is added.
use Rattle.std.proofs.Common.{◌≡◌, ◌⊎◌, inl, inr, ℕ, zero, suc, ◌<◌, Bool, true, List, [], ◌∷◌, ◌++◌, length, map, Option, Some, refl, ap, sym, subst, ◌∙◌, arith}
use Rattle.std.specs.Prelude.{slice_get}
use Rattle.std.specs.List.{range_with_len}
use Rattle.std.proofs.lemmas.List.{append-nil}
use Rattle.design_core.specs.Asked.{output_of}
use Rattle.design_core.proofs.Lists.{one_at}
use Rattle.design_core.specs.Shape.{CellOf, DesignOf}
use Rattle.design_core.specs.Table.{role_of}
use Rattle.design_core.specs.declared.table.Role.{Role}
use Rattle.design_core.specs.declared.table.Role.TheVariants.{Combinational, Register, AsyncResetRegister, Constant, Initial, Source, Statement, Unsupported}
use Rattle.design_meaning.specs.Meaning.{IsCell}
use Rattle.design_meaning.specs.States.{Kept, Signal, state_of, state_of_role}
use Rattle.model_core.specs.Shape.{ModelOf, RegisterOf}
use Rattle.word_model.specs.Registers.{AreDigits, BeginsWith, IsRegistered, registers_of, registers_of_role}

module _ (d : DesignOf) (i : ℕ) (x : CellOf) (at : IsCell d i x) (old new : ModelOf) where
  -- what was added for one cell at the place was added for each
  pub for-each : IsRegistered d i x (registers_of d (i, x)) old new → (y : CellOf) → IsCell d i y → IsRegistered d i y (registers_of d (i, y)) old new
  for-each h y there = subst (λ (z : CellOf). IsRegistered d i z (registers_of d (i, z)) old new) (one_at d.cells i x y at there) h

  pub by-role : (r : Role) → role_of x.kind ≡ r → IsRegistered d i x (registers_of_role r d i x) old new → (y : CellOf) → IsCell d i y → IsRegistered d i y (registers_of d (i, y)) old new
  by-role r e h = for-each (subst (λ (z : Role). IsRegistered d i x (registers_of_role z d i x) old new) (sym e) h)

module _ (d : DesignOf) (i : ℕ) (x : CellOf) (at : IsCell d i x) (old : ModelOf) where
  unchanged : old ≡ record old { registers = old.registers ++ []; starts = old.starts ++ [] }
  unchanged =
      ap (λ (l : List RegisterOf). record old { registers = l }) (sym (append-nil old.registers))
      ∙ ap (λ (l : List (Option Bool)). record old { registers = old.registers ++ []; starts = l }) (sym (append-nil old.starts))

  no-digits : (r : Role) → role_of x.kind ≡ r → length (state_of (i, x)) ≡ 0 → AreDigits d i x []
  no-digits r e none = record { size = sym none; each = λ k b lt. absurd (omega (arith, lt)) }

  -- a cell that keeps nothing adds nothing
  pub none-kept : (r : Role) → role_of x.kind ≡ r → (r ≡ Combinational) ⊎ ((r ≡ Source) ⊎ ((r ≡ Statement) ⊎ (r ≡ Unsupported))) → (y : CellOf) → IsCell d i y → IsRegistered d i y (registers_of d (i, y)) old old
  none-kept r e is = by r e is
    where
      kept : (s : Role) → role_of x.kind ≡ s → registers_of_role s d i x ≡ [] → length (state_of (i, x)) ≡ 0 → (y : CellOf) → IsCell d i y → IsRegistered d i y (registers_of d (i, y)) old old
      kept s f none short =
          by-role d i x at old old s f (subst (λ (l : List RegisterOf). IsRegistered d i x l old old) (sym none) ([], no-digits s f short, unchanged))

      long : (s : Role) → role_of x.kind ≡ s → length (state_of_role s (map (λ b. Signal b) (output_of x)) (map (λ k. Kept i k) (range_with_len 0 (length (output_of x))))) ≡ 0 → length (state_of (i, x)) ≡ 0
      long s f g = ap (λ (z : Role). length (state_of_role z (map (λ b. Signal b) (output_of x)) (map (λ k. Kept i k) (range_with_len 0 (length (output_of x)))))) f ∙ g

      by : (s : Role) → role_of x.kind ≡ s → (s ≡ Combinational) ⊎ ((s ≡ Source) ⊎ ((s ≡ Statement) ⊎ (s ≡ Unsupported))) → (y : CellOf) → IsCell d i y → IsRegistered d i y (registers_of d (i, y)) old old
      by s f (inl g) = kept Combinational (f ∙ g) refl (long Combinational (f ∙ g) refl)
      by s f (inr (inl g)) = kept Source (f ∙ g) refl (long Source (f ∙ g) refl)
      by s f (inr (inr (inl g))) = kept Statement (f ∙ g) refl (long Statement (f ∙ g) refl)
      by s f (inr (inr (inr g))) = kept Unsupported (f ∙ g) refl (long Unsupported (f ∙ g) refl)
