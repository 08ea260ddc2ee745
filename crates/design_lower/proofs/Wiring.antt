-- The signals of a lowered cell speak of bits that are there.
use Rattle.std.proofs.Common.{◌≡◌, ℕ, zero, suc, ◌+◌, ◌≤◌, Bool, true, false, cond, List, [], ◌∷◌, set, map, Option, Some, None, All, refl, arith}
use Rattle.std.specs.Prelude.{slice_get}
use Rattle.std.proofs.lemmas.List.Elements.{All-cons, All-head, All-nil, All-tail}
use Rattle.design_signals.specs.Chunks.{bits_from}
use Rattle.design_signals.specs.declared.sig_bit.SigBit.{SigBit}
use Rattle.design_signals.specs.declared.sig_bit.SigBit.TheVariants.{Wire}
use Rattle.design_core.specs.Asked.{number_at, output_of}
use Rattle.design_core.specs.Ports.{signal_at, digits_at}
use Rattle.design_core.specs.Shape.{WireOf, CellOf, IsCellOf, IsDeclared, IsNumbered}
use Rattle.design_core.specs.declared.digit.Digit.{Digit}
use Rattle.design_core.specs.declared.digit.Digit.TheVariants.{Const as ConstDigit, Free as FreeDigit, Marker}
use Rattle.design_core.specs.declared.names.ParameterName.{ParameterName}
use Rattle.design_core.specs.declared.names.PortName.{PortName}
use Rattle.design_core.specs.declared.names.PortName.TheVariants.{A, B, S, En, Y, Clk, D, Q, Srst, Arst}
use Rattle.design_core.specs.declared.names.ParameterName.TheVariants.{Width, ClkPolarity, EnPolarity, SrstPolarity, SrstValue, ArstPolarity, ArstValue}
use Rattle.design_core.specs.declared.parts.Parameter.{Parameter}
use Rattle.design_core.specs.declared.parts.Port.{Port}
use Rattle.design_graph.proofs.Declared.{All-digits_at, All-signal_at, outputs-declared}
use Rattle.design_check.specs.Faults.{flag}
use Rattle.design_lower.specs.Lowering.{digit_bit, digits_of_cell, digits_or_none, enabled_register, has_enable, kept_signal, plain_register, port, parameter, register, reset_signal, shown}

-- what holds of each of a few
module _ {X : Type 0} (P : X → Type 0) where
  pub one-of : (x : X) → P x → All P (x ∷ [])
  one-of x h = All-cons P x [] h (All-nil P)

  two-of : (x y : X) → P x → P y → All P (x ∷ y ∷ [])
  two-of x y h g = All-cons P x (y ∷ []) h (one-of y g)

  three-of : (x y z : X) → P x → P y → P z → All P (x ∷ y ∷ z ∷ [])
  three-of x y z h g f = All-cons P x (y ∷ z ∷ []) h (two-of y z g f)

  four-of : (x y z u : X) → P x → P y → P z → P u → All P (x ∷ y ∷ z ∷ u ∷ [])
  four-of x y z u h g f e = All-cons P x (y ∷ z ∷ u ∷ []) h (three-of y z u g f e)

  five-of : (x y z u v : X) → P x → P y → P z → P u → P v → All P (x ∷ y ∷ z ∷ u ∷ v ∷ [])
  five-of x y z u v h g f e d = All-cons P x (y ∷ z ∷ u ∷ v ∷ []) h (four-of y z u v g f e d)

-- each of these bits is there
module _ (ws : List WireOf) (free : ℕ) where
  pub wire-bits : (w : ℕ) (x : WireOf) → slice_get ws w ≡ Some x → (s j n : ℕ) → s + (j + n) ≤ x.width → All (IsDeclared ws free) (bits_from (Wire w s) j n)
  wire-bits w x at s j zero le = All-nil (IsDeclared ws free)
  wire-bits w x at s j (suc n) le = All-cons (IsDeclared ws free) (Wire w (s + j)) (bits_from (Wire w s) (j + 1) n) (x, at, omega arith) (wire-bits w x at s (j + 1) n (omega arith))

  digits-declared : (xs : List Digit) → All (IsNumbered free) xs → All (IsDeclared ws free) (map digit_bit xs)
  digits-declared [] h = All-nil (IsDeclared ws free)
  digits-declared (x ∷ xs) h =
      All-cons (IsDeclared ws free) (digit_bit x) (map digit_bit xs) (one x (All-head (IsNumbered free) x xs h)) (digits-declared xs (All-tail (IsNumbered free) x xs h))
    where
      one : (y : Digit) → IsNumbered free y → IsDeclared ws free (digit_bit y)
      one (ConstDigit b) g = tt
      one (FreeDigit n) g = g
      one Marker g = tt

  either-declared : (b : Bool) (xs ys : List SigBit) → All (IsDeclared ws free) xs → All (IsDeclared ws free) ys → All (IsDeclared ws free) (cond b xs ys)
  either-declared true xs ys h g = h
  either-declared false xs ys h g = g

  module _ (c : CellOf) (is : IsCellOf ws free c) where
    pub signal-declared : (name : PortName) → All (IsDeclared ws free) (signal_at c.ports name)
    signal-declared name = All-signal_at (IsDeclared ws free) c.ports name is.ports

    pub digits-numbered : (name : ParameterName) → All (IsNumbered free) (digits_of_cell c name)
    digits-numbered name = by (digits_at c.parameters name) (λ xs e. All-digits_at (IsNumbered free) c.parameters name is.parameters xs e)
      where
        by : (o : Option (List Digit)) → ((xs : List Digit) → o ≡ Some xs → All (IsNumbered free) xs) → All (IsNumbered free) (digits_or_none o)
        by None h = All-nil (IsNumbered free)
        by (Some xs) h = h xs refl

    pub reset-declared : All (IsDeclared ws free) (reset_signal c)
    reset-declared = digits-declared (digits_of_cell c ArstValue) (digits-numbered ArstValue)

    abbrev pub Fine : Port → Type 0
    Fine p = All (IsDeclared ws free) p.signal

    abbrev pub Numbered : Parameter → Type 0
    Numbered p = All (IsNumbered free) p.digits

  module _ (c : CellOf) (is : IsCellOf ws free c) (w : ℕ) (x : WireOf) (at : slice_get ws w ≡ Some x) (wide : x.width ≡ number_at c.parameters Width) where
    pub kept-declared : All (IsDeclared ws free) (kept_signal w c)
    kept-declared = wire-bits w x at 0 0 (number_at c.parameters Width) (omega (arith, wide))

    pub plain-is : IsCellOf ws free (plain_register w c)
    plain-is = record {
      ports =
          four-of (Fine c is) (port Clk (signal_at c.ports Clk)) (port D (signal_at c.ports D)) (port Q (kept_signal w c)) (port Srst (signal_at c.ports Arst))
          (signal-declared c is Clk) (signal-declared c is D) kept-declared (signal-declared c is Arst);
      parameters =
          four-of (Numbered c is) (parameter ClkPolarity (digits_of_cell c ClkPolarity)) (parameter SrstPolarity (digits_of_cell c ArstPolarity)) (parameter SrstValue (digits_of_cell c ArstValue))
          (parameter Width (digits_of_cell c Width)) (digits-numbered c is ClkPolarity) (digits-numbered c is ArstPolarity) (digits-numbered c is ArstValue) (digits-numbered c is Width);
      one_port = refl;
      one_parameter = refl;
      named = refl;
    }

    pub enabled-is : IsCellOf ws free (enabled_register w c)
    enabled-is = record {
      ports =
          five-of (Fine c is) (port Clk (signal_at c.ports Clk)) (port D (signal_at c.ports D)) (port En (signal_at c.ports En)) (port Q (kept_signal w c)) (port Srst (signal_at c.ports Arst))
          (signal-declared c is Clk) (signal-declared c is D) (signal-declared c is En) kept-declared (signal-declared c is Arst);
      parameters =
          five-of (Numbered c is) (parameter ClkPolarity (digits_of_cell c ClkPolarity)) (parameter EnPolarity (digits_of_cell c EnPolarity)) (parameter SrstPolarity (digits_of_cell c ArstPolarity))
          (parameter SrstValue (digits_of_cell c ArstValue)) (parameter Width (digits_of_cell c Width)) (digits-numbered c is ClkPolarity) (digits-numbered c is EnPolarity)
          (digits-numbered c is ArstPolarity) (digits-numbered c is ArstValue) (digits-numbered c is Width);
      one_port = refl;
      one_parameter = refl;
      named = refl;
    }

    pub register-is : IsCellOf ws free (register w c)
    register-is = by (has_enable c)
      where
        by : (b : Bool) → IsCellOf ws free (cond b (enabled_register w c) (plain_register w c))
        by true = enabled-is
        by false = plain-is

    pub shown-is : IsCellOf ws free (shown w c)
    shown-is = record {
      ports =
          four-of (Fine c is) (port A (cond (flag c ArstPolarity) (kept_signal w c) (reset_signal c))) (port B (cond (flag c ArstPolarity) (reset_signal c) (kept_signal w c))) (port S (signal_at c.ports Arst))
          (port Y (output_of c)) (either-declared (flag c ArstPolarity) (kept_signal w c) (reset_signal c) kept-declared (reset-declared c is))
          (either-declared (flag c ArstPolarity) (reset_signal c) (kept_signal w c) (reset-declared c is) kept-declared) (signal-declared c is Arst) (outputs-declared ws free c is);
      parameters = one-of (Numbered c is) (parameter Width (digits_of_cell c Width)) (digits-numbered c is Width);
      one_port = refl;
      one_parameter = refl;
      named = refl;
    }

pub All-set : {X : Type 0} (P : X → Type 0) (xs : List X) (i : ℕ) (x : X) → All P xs → P x → All P (set xs i x)
All-set P [] i x h g = h
All-set P (y ∷ xs) zero x h g = All-cons P x xs g (All-tail P y xs h)
All-set P (y ∷ xs) (suc i) x h g = All-cons P y (set xs i x) (All-head P y xs h) (All-set P xs i x (All-tail P y xs h) g)
