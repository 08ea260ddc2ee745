-- What the `$mux` of a lowered register gives.
use Rattle.std.proofs.Common.{◌≡◌, ℕ, Bool, true, false, cond, not, List, [], ◌∷◌, map, Option, Some, None, refl, ap, sym, ◌∙◌}
use Rattle.sby_bits.specs.Rows.{Row}
use Rattle.cell_table.specs.declared.kind.Kind.TheVariants.{Mux}
use Rattle.design_signals.specs.declared.sig_bit.SigBit.{SigBit}
use Rattle.design_core.specs.Cells.{cell_fn, is_reset, is_set}
use Rattle.design_core.specs.Ports.{signal_at, digits_at}
use Rattle.design_core.specs.Shape.{CellOf}
use Rattle.design_core.specs.declared.digit.Digit.{Digit}
use Rattle.design_core.specs.declared.digit.Digit.TheVariants.{Const as ConstDigit, Free as FreeDigit, Marker}
use Rattle.design_core.specs.declared.names.PortName.TheVariants.{Arst}
use Rattle.design_core.specs.declared.names.ParameterName.TheVariants.{ArstPolarity, ArstValue}
use Rattle.design_core.specs.declared.table.Role.TheVariants.{AsyncResetRegister}
use Rattle.design_check.specs.Faults.{flag}
use Rattle.design_meaning.specs.Meaning.{Valuation, row_in, digit_in, digits_in, parameters_in, ports_in}
use Rattle.design_lower.specs.Lowering.{FitsReset, digit_bit, digits_or_none, kept_signal, reset_signal, shown}
use Rattle.design_lower.proofs.Fitting.{flag-set, has-reset}

-- the cell is reset in w
abbrev pub reset_in : Valuation → CellOf → Bool
reset_in w c = is_reset AsyncResetRegister (parameters_in w c) (ports_in w c)

module _ (w : Valuation) where
  digits-bits : (xs : List Digit) → row_in w (map digit_bit xs) ≡ map (digit_in w) xs
  digits-bits [] = refl
  digits-bits (ConstDigit b ∷ xs) = ap (λ (r : Row). b ∷ r) (digits-bits xs)
  digits-bits (FreeDigit n ∷ xs) = ap (λ (r : Row). w.free n ∷ r) (digits-bits xs)
  digits-bits (Marker ∷ xs) = ap (λ (r : Row). false ∷ r) (digits-bits xs)

  option-bits : (o : Option (List Digit)) → row_in w (map digit_bit (digits_or_none o)) ≡ digits_in w o
  option-bits None = refl
  option-bits (Some xs) = digits-bits xs

  -- ARST_VALUE as a signal has the row of the parameter
  pub reset-row : (c : CellOf) → row_in w (reset_signal c) ≡ parameters_in w c ArstValue
  reset-row c = option-bits (digits_at c.parameters ArstValue)

  -- digits that are there are those of the parameter
  pub digits-kept : (o : Option (List Digit)) → digits_in w (Some (digits_or_none o)) ≡ digits_in w o
  digits-kept None = refl
  digits-kept (Some xs) = refl

  chosen : (f s : Bool) (x y : List SigBit) → cond s (row_in w (cond f x y)) (row_in w (cond f y x)) ≡ cond (cond f s (not s)) (row_in w x) (row_in w y)
  chosen true true x y = refl
  chosen true false x y = refl
  chosen false true x y = refl
  chosen false false x y = refl

  -- the `$mux` gives ARST_VALUE while the cell is reset, else the stored row
  pub shown-gives : (n : ℕ) (c : CellOf) → FitsReset c
      → cell_fn Mux (parameters_in w (shown n c)) (ports_in w (shown n c)) ≡ cond (reset_in w c) (row_in w (reset_signal c)) (row_in w (kept_signal n c))
  shown-gives n c fits =
      let s : Bool = is_set (row_in w (signal_at c.ports Arst)) in
      chosen (flag c ArstPolarity) s (reset_signal c) (kept_signal n c)
      ∙ ap (λ (f : Bool). cond (cond f (is_set (row_in w (signal_at c.ports Arst))) (not (is_set (row_in w (signal_at c.ports Arst))))) (row_in w (reset_signal c)) (row_in w (kept_signal n c)))
      (sym (flag-set w c.parameters ArstPolarity (has-reset c fits).polarity))
