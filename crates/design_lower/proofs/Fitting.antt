-- What a register with an asynchronous reset has that fits its line of the table.
use Rattle.std.proofs.Common.{◌≡◌, ◌⊎◌, inl, inr, ℕ, zero, suc, ◌+◌, ◌*◌, ◌<◌, Bool, true, false, not, ◌&&◌, eqb, List, [], ◌∷◌, length, map, Option, Some, None, Contains, refl, ap, sym, subst, ◌∙◌, arith}
use Rattle.std.proofs.lemmas.Bool.{eqb-true}
use Rattle.sby_bits.specs.Rows.{num}
use Rattle.cell_table.specs.declared.kind.Kind.{Kind}
use Rattle.cell_table.specs.declared.kind.Kind.TheVariants.{Unary as UnaryCell, Binary as BinaryCell, Reduce as ReduceCell, Logic as LogicCell, Compare as CompareCell, ShiftLeft, ShiftRight, ShiftSign, ShiftAny, Divide as DivideCell, Mux, Pmux, Bmux, Slice, Concat, Ff, Dff, Dffe, Sdff, Sdffe, Sdffce, Adff, Adffe, Statement as StatementCell, Any as AnyCell, InitState, LeftOut as LeftOutCell, Unknown}
use Rattle.cell_table.specs.declared.kind.Any.TheVariants.{Const as AnyConst, Seq as AnySeq}
use Rattle.design_signals.specs.declared.sig_bit.SigBit.{SigBit}
use Rattle.design_core.specs.Asked.{are_number, has_number, has_parameters, number_at, number_of, output_of, HasPort}
use Rattle.design_core.specs.Cells.{is_set}
use Rattle.design_core.specs.Digits.{is_number, digits_number}
use Rattle.design_core.specs.Ports.{signal_at, digits_at}
use Rattle.design_core.specs.Shape.{CellOf}
use Rattle.design_core.specs.Table.{role_of, ports_of, width_of, port}
use Rattle.design_core.specs.declared.digit.Digit.{Digit}
use Rattle.design_core.specs.declared.digit.Digit.TheVariants.{Const as ConstDigit, Free as FreeDigit, Marker}
use Rattle.design_core.specs.declared.names.PortName.TheVariants.{En, D, Q, Clk, Arst}
use Rattle.design_core.specs.declared.names.ParameterName.{ParameterName}
use Rattle.design_core.specs.declared.names.ParameterName.TheVariants.{Width, EnPolarity}
use Rattle.design_core.specs.declared.parts.Parameter.{Parameter}
use Rattle.design_core.specs.declared.table.PortLine.{PortLine}
use Rattle.design_core.specs.declared.table.PortWidth.TheVariants.{One, Of}
use Rattle.design_core.specs.declared.table.Role.TheVariants.{AsyncResetRegister}
use Rattle.design_meaning.specs.Meaning.{Valuation, digit_in, digits_in}
use Rattle.design_lower.specs.Asks.{HasReset, HasSignal, HasSignals}
use Rattle.design_lower.specs.Lowering.{FitsReset}

pub kind-cases : (k : Kind) → role_of k ≡ AsyncResetRegister → (k ≡ Adff) ⊎ (k ≡ Adffe)
kind-cases (UnaryCell k) h = absurd cc
kind-cases (BinaryCell k) h = absurd cc
kind-cases (ReduceCell k) h = absurd cc
kind-cases (LogicCell k) h = absurd cc
kind-cases (CompareCell k) h = absurd cc
kind-cases ShiftLeft h = absurd cc
kind-cases ShiftRight h = absurd cc
kind-cases ShiftSign h = absurd cc
kind-cases ShiftAny h = absurd cc
kind-cases (DivideCell k) h = absurd cc
kind-cases Mux h = absurd cc
kind-cases Pmux h = absurd cc
kind-cases Bmux h = absurd cc
kind-cases Slice h = absurd cc
kind-cases Concat h = absurd cc
kind-cases Ff h = absurd cc
kind-cases Dff h = absurd cc
kind-cases Dffe h = absurd cc
kind-cases Sdff h = absurd cc
kind-cases Sdffe h = absurd cc
kind-cases Sdffce h = absurd cc
kind-cases Adff h = inl refl
kind-cases Adffe h = inr refl
kind-cases (StatementCell k) h = absurd cc
kind-cases (AnyCell AnyConst) h = absurd cc
kind-cases (AnyCell AnySeq) h = absurd cc
kind-cases InitState h = absurd cc
kind-cases (LeftOutCell k) h = absurd cc
kind-cases Unknown h = absurd cc

both : (a b : Bool) → (a && b) ≡ true → (a ≡ true) × (b ≡ true)
both true true h = (refl, refl)
both true false h = absurd cc
both false b h = absurd cc

not-zero : (n : ℕ) → not (eqb n 0) ≡ true → 0 < n
not-zero zero h = absurd cc
not-zero (suc n) h = omega arith

plain-reset : (ps : List Parameter) → has_parameters Adff ps ≡ true → HasReset ps
plain-reset ps h =
    let a = both _ _ (both _ _ h).0 in
    let b = both _ _ a.1 in
    let c = both _ _ b.1 in
    let d = both _ _ c.1 in
    let value = both _ _ b.0 in
    let width = both _ _ d.0 in
    record { polarity = a.0; values = value.0; count = eqb-true _ _ value.1; clock = c.0; width = width.0; some = not-zero _ width.1 }

enabled-reset : (ps : List Parameter) → has_parameters Adffe ps ≡ true → HasReset ps × (has_number ps EnPolarity ≡ true)
enabled-reset ps h =
    let a = both _ _ (both _ _ h).0 in
    let b = both _ _ a.1 in
    let c = both _ _ b.1 in
    let d = both _ _ c.1 in
    let f = both _ _ d.1 in
    let value = both _ _ b.0 in
    let width = both _ _ f.0 in
    (record { polarity = a.0; values = value.0; count = eqb-true _ _ value.1; clock = c.0; width = width.0; some = not-zero _ width.1 }, d.0)

module _ (c : CellOf) (fits : FitsReset c) where
  asked : (k : Kind) → c.kind ≡ k → (l : PortLine) → Contains (ports_of k) l → HasPort c l
  asked k e l at = fits.ports.all l (subst (λ (x : Kind). Contains (ports_of x) l) (sym e) at)

  signal : (k : Kind) → c.kind ≡ k → (l : PortLine) → Contains (ports_of k) l → HasSignal c l.name (width_of (number_at c.parameters) l.width)
  signal k e l at = let p = asked k e l at in record { there = p.there; wide = p.wide }

  parameters-of : (k : Kind) → c.kind ≡ k → has_parameters k c.parameters ≡ true
  parameters-of k e = subst (λ (x : Kind). has_parameters x c.parameters ≡ true) e fits.parameters

  pub has-reset : HasReset c.parameters
  has-reset = elim (kind-cases c.kind fits.role) as (λ _. HasReset c.parameters) [
    | inl e ↦ plain-reset c.parameters (parameters-of Adff e)
    | inr e ↦ (enabled-reset c.parameters (parameters-of Adffe e)).0
  ]

  pub has-signals : HasSignals c (number_at c.parameters Width)
  has-signals = elim (kind-cases c.kind fits.role) as (λ _. HasSignals c (number_at c.parameters Width)) [
    | inl e ↦ record {
      reset = signal Adff e (port Arst One) (0, omega arith, refl);
      clock = signal Adff e (port Clk One) (1, omega arith, refl);
      taken = signal Adff e (port D (Of Width)) (2, omega arith, refl);
      shown = signal Adff e (port Q (Of Width)) (3, omega arith, refl);
    }
    | inr e ↦ record {
      reset = signal Adffe e (port Arst One) (0, omega arith, refl);
      clock = signal Adffe e (port Clk One) (1, omega arith, refl);
      taken = signal Adffe e (port D (Of Width)) (2, omega arith, refl);
      shown = signal Adffe e (port Q (Of Width)) (4, omega arith, refl);
    }
  ]

  -- with an enable, its polarity and its bit
  pub has-enable : c.kind ≡ Adffe → (has_number c.parameters EnPolarity ≡ true) × (length (signal_at c.ports En) ≡ 1)
  has-enable e = ((enabled-reset c.parameters (parameters-of Adffe e)).1, (asked Adffe e (port En One) (3, omega arith, refl)).wide)

  pub output-shown : output_of c ≡ signal_at c.ports Q
  output-shown = elim (kind-cases c.kind fits.role) as (λ _. output_of c ≡ signal_at c.ports Q) [
    | inl e ↦ by Adff e (λ _. refl)
    | inr e ↦ by Adffe e (λ _. refl)
  ]
    where
      out : Kind → List SigBit
      out k = output_of (record c { kind = k })

      by : (k : Kind) → c.kind ≡ k → (Unit {0} → output_of (record c { kind = k }) ≡ signal_at c.ports Q) → output_of c ≡ signal_at c.ports Q
      by k e h = ap (λ (x : Kind). output_of (record c { kind = x })) e ∙ h tt

  pub output-width : length (output_of c) ≡ number_at c.parameters Width
  output-width = ap (λ (s : List SigBit). length s) output-shown ∙ has-signals.shown.wide

-- a flag's row is set where its number isn't 0
module _ (v : Valuation) where
  digits-num : (xs : List Digit) → is_number xs ≡ true → num (map (digit_in v) xs) ≡ digits_number xs
  digits-num [] h = refl
  digits-num (ConstDigit true ∷ xs) h = ap (λ (n : ℕ). 1 + 2 * n) (digits-num xs h)
  digits-num (ConstDigit false ∷ xs) h = ap (λ (n : ℕ). 0 + 2 * n) (digits-num xs h)
  digits-num (FreeDigit n ∷ xs) h = absurd cc
  digits-num (Marker ∷ xs) h = absurd cc

  option-num : (o : Option (List Digit)) → are_number o ≡ true → num (digits_in v o) ≡ number_of o
  option-num None h = refl
  option-num (Some xs) h = digits-num xs h

  pub flag-set : (ps : List Parameter) (name : ParameterName) → has_number ps name ≡ true → is_set (digits_in v (digits_at ps name)) ≡ not (eqb (number_at ps name) 0)
  flag-set ps name h = ap (λ (n : ℕ). not (eqb n 0)) (option-num (digits_at ps name) h)
