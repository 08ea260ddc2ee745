-- Rows in two cycles that have the same at each declared bit.
use Rattle.std.proofs.Common.{◌≡◌, ℕ, zero, suc, ◌+◌, ◌<◌, ◌≤◌, Bool, List, [], ◌∷◌, map, Option, Some, None, All, refl, ap, ◌∙◌, arith}
use Rattle.std.specs.Prelude.{slice_get}
use Rattle.std.specs.List.{range_with_len}
use Rattle.std.proofs.lemmas.List.Elements.{All-head, All-tail, All-contains}
use Rattle.std.proofs.Math.Path.{fun_ext}
use Rattle.sby_bits.specs.Rows.{Row}
use Rattle.design_core.specs.Asked.{output_of}
use Rattle.design_core.specs.Ports.{digits_at, signal_at}
use Rattle.design_core.specs.Shape.{WireOf, CellOf, ConnectOf, DesignOf, IsCellOf, IsConnectOf, IsDeclared, IsDesign, IsNumbered}
use Rattle.design_core.specs.declared.digit.Digit.{Digit}
use Rattle.design_core.specs.declared.digit.Digit.TheVariants.{Const as ConstDigit, Free as FreeDigit, Marker}
use Rattle.design_core.proofs.Lists.{Contains-from_place}
use Rattle.design_graph.proofs.Declared.{All-signal_at, All-digits_at, outputs-declared}
use Rattle.design_meaning.specs.Meaning.{Valuation, IsCell, bit_in, row_in, digit_in, digits_in, parameters_in, ports_in}
use Rattle.design_signals.specs.declared.sig_bit.SigBit.{SigBit}
use Rattle.design_signals.specs.declared.sig_bit.SigBit.TheVariants.{Free}

-- the signals of a design speak of its own bits; it may have any number of them
pub record IsWired (d : DesignOf) : Type 0 where
  pub cells : All (IsCellOf d.wires d.free) d.cells
  pub connects : All (IsConnectOf d.wires d.free) d.connects

pub IsWired-design : (d : DesignOf) → IsDesign d → IsWired d
IsWired-design d h = record { cells = h.cells; connects = h.connects }

module _ (d : DesignOf) (wired : IsWired d) where
  pub cell-wired : (i : ℕ) (c : CellOf) → IsCell d i c → IsCellOf d.wires d.free c
  cell-wired i c h = All-contains (IsCellOf d.wires d.free) d.cells c wired.cells (Contains-from_place d.cells i c h)

  pub connect-wired : (i : ℕ) (j : ConnectOf) → slice_get d.connects i ≡ Some j → IsConnectOf d.wires d.free j
  connect-wired i j h = All-contains (IsConnectOf d.wires d.free) d.connects j wired.connects (Contains-from_place d.connects i j h)

pub range-same : (f g : ℕ → Bool) (n a : ℕ) → ((k : ℕ) → a ≤ k → k < a + n → f k ≡ g k) → map f (range_with_len a n) ≡ map g (range_with_len a n)
range-same f g zero a h = refl
range-same f g (suc n) a h =
    ap (λ (b : Bool). b ∷ map f (range_with_len (a + 1) n)) (h a (omega arith) (omega arith))
    ∙ ap (λ (r : Row). g a ∷ r) (range-same f g n (a + 1) (λ k from to. h k (omega (arith, from)) (omega (arith, to))))

module _ (wires : List WireOf) (free : ℕ) (v w : Valuation) (same : (b : SigBit) → IsDeclared wires free b → bit_in v b ≡ bit_in w b) where
  pub row-alike : (bits : List SigBit) → All (IsDeclared wires free) bits → row_in v bits ≡ row_in w bits
  row-alike [] h = refl
  row-alike (b ∷ bits) h =
      ap (λ (x : Bool). x ∷ row_in v bits) (same b (All-head (IsDeclared wires free) b bits h))
      ∙ ap (λ (r : Row). bit_in w b ∷ r) (row-alike bits (All-tail (IsDeclared wires free) b bits h))

  digit-alike : (x : Digit) → IsNumbered free x → digit_in v x ≡ digit_in w x
  digit-alike (ConstDigit b) h = refl
  digit-alike (FreeDigit n) h = same (Free n) h
  digit-alike Marker h = refl

  digits-alike : (xs : List Digit) → All (IsNumbered free) xs → map (digit_in v) xs ≡ map (digit_in w) xs
  digits-alike [] h = refl
  digits-alike (x ∷ xs) h =
      ap (λ (b : Bool). b ∷ map (digit_in v) xs) (digit-alike x (All-head (IsNumbered free) x xs h))
      ∙ ap (λ (r : Row). digit_in w x ∷ r) (digits-alike xs (All-tail (IsNumbered free) x xs h))

  option-alike : (o : Option (List Digit)) → ((xs : List Digit) → o ≡ Some xs → All (IsNumbered free) xs) → digits_in v o ≡ digits_in w o
  option-alike None h = refl
  option-alike (Some xs) h = digits-alike xs (h xs refl)

  module _ (c : CellOf) (is : IsCellOf wires free c) where
    pub ports-alike : ports_in v c ≡ ports_in w c
    ports-alike = fun_ext (λ name. row-alike (signal_at c.ports name) (All-signal_at (IsDeclared wires free) c.ports name is.ports))

    pub parameters-alike : parameters_in v c ≡ parameters_in w c
    parameters-alike = fun_ext (λ name. option-alike (digits_at c.parameters name) (λ xs e. All-digits_at (IsNumbered free) c.parameters name is.parameters xs e))

    pub output-alike : row_in v (output_of c) ≡ row_in w (output_of c)
    output-alike = row-alike (output_of c) (outputs-declared wires free c is)
