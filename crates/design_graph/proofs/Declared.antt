-- The bits of a design's cells and connects are declared.
use Rattle.std.proofs.Common.{◌≡◌, inl, inr, ℕ, Bool, true, false, cond, List, [], ◌∷◌, Option, Some, None, Contains, All, refl, sym, subst, arith}
use Rattle.std.specs.Prelude.{slice_get}
use Rattle.std.specs.List.{find}
use Rattle.std.proofs.lemmas.List.Elements.{All-contains, All-head, All-tail}
use Rattle.design_core.specs.Asked.{output_of, signal_of}
use Rattle.design_core.specs.Ports.{is_port, is_parameter, signal_at, signal_in, digits_at, digits_of}
use Rattle.design_core.specs.Shape.{WireOf, CellOf, ConnectOf, DesignOf, IsDeclared, IsNumbered, IsCellOf, IsConnectOf, IsDesign}
use Rattle.design_core.specs.Table.{role_of, output_port}
use Rattle.design_core.specs.declared.digit.Digit.{Digit}
use Rattle.design_core.specs.declared.digit.Digit.TheVariants.{Free as FreeDigit}
use Rattle.design_core.specs.declared.names.PortName.{PortName}
use Rattle.design_core.specs.declared.names.ParameterName.{ParameterName}
use Rattle.design_core.specs.declared.names.ParameterName.TheVariants.{ArstValue}
use Rattle.design_core.specs.declared.parts.Port.{Port}
use Rattle.design_core.specs.declared.parts.Parameter.{Parameter}
use Rattle.design_core.proofs.Lists.{Contains-from_place}
use Rattle.design_meaning.specs.Meaning.{IsCell}
use Rattle.design_meaning.specs.Rests.{IsDigit}
use Rattle.design_signals.specs.declared.sig_bit.SigBit.{SigBit}
use Rattle.design_graph.specs.Order.{IsRead}

-- what holds of each signal's bits holds of the bits of the signal of a name
pub All-signal_at : (P : SigBit → Type 0) (ports : List Port) (name : PortName) → All (λ (p : Port). All P p.signal) ports → All P (signal_at ports name)
All-signal_at P [] name h = λ k d lt. absurd (omega arith)
All-signal_at P (p ∷ ps) name h =
    by (is_port p.name name) (All-head (λ (q : Port). All P q.signal) p ps h) (All-signal_at P ps name (All-tail (λ (q : Port). All P q.signal) p ps h))
  where
    by : (b : Bool) → All P p.signal → All P (signal_at ps name) → All P (signal_in (cond b (Some p) (find (λ (q : Port). is_port q.name name) ps)))
    by true here rest = here
    by false here rest = rest

pub All-signal_of : (P : SigBit → Type 0) (c : CellOf) (name : Option PortName) → All (λ (p : Port). All P p.signal) c.ports → All P (signal_of c name)
All-signal_of P c None h = λ k d lt. absurd (omega arith)
All-signal_of P c (Some name) h = All-signal_at P c.ports name h

-- what holds of each parameter's digits holds of the digits of the parameter of a name
pub All-digits_at : (P : Digit → Type 0) (ps : List Parameter) (name : ParameterName) → All (λ (p : Parameter). All P p.digits) ps
    → (digits : List Digit) → digits_at ps name ≡ Some digits → All P digits
All-digits_at P [] name h digits e = cc
All-digits_at P (p ∷ ps) name h digits e =
    by (is_parameter p.name name) (All-head (λ (q : Parameter). All P q.digits) p ps h)
    (All-digits_at P ps name (All-tail (λ (q : Parameter). All P q.digits) p ps h)) digits e
  where
    by : (b : Bool) → All P p.digits → ((ds : List Digit) → digits_at ps name ≡ Some ds → All P ds)
        → (ds : List Digit) → digits_of (cond b (Some p) (find (λ (q : Parameter). is_parameter q.name name) ps)) ≡ Some ds → All P ds
    by true here rest ds f = let same : p.digits ≡ ds = cc in subst (λ (l : List Digit). All P l) same here
    by false here rest ds f = rest ds f

pub one-option : {X : Type 0} (x y : X) → Some x ≡ Some y → x ≡ y
one-option x y e = cc

-- a digit of a parameter that is there
pub digit-in : (o : Option (List Digit)) (x : Digit) → IsDigit o x → (digits : List Digit) × (o ≡ Some digits) × Contains digits x
digit-in None x h = absurd h
digit-in (Some digits) x h = (digits, refl, h)

pub in-digit : (o : Option (List Digit)) (x : Digit) (digits : List Digit) → o ≡ Some digits → Contains digits x → IsDigit o x
in-digit o x digits e h = subst (λ (p : Option (List Digit)). IsDigit p x) (sym e) h

module _ (wires : List WireOf) (free : ℕ) (c : CellOf) (is : IsCellOf wires free c) where
  pub read-numbered : (a : SigBit) → IsRead c a → IsDeclared wires free a
  read-numbered a (inl h) = All-contains (IsDeclared wires free) (signal_at c.ports h.0) a (All-signal_at (IsDeclared wires free) c.ports h.0 is.ports) h.2
  read-numbered a (inr h) =
      let r = h.1 in
      let digits = digit-in (digits_at c.parameters ArstValue) (FreeDigit r.0) r.2 in
      let all = All-digits_at (IsNumbered free) c.parameters ArstValue is.parameters digits.0 digits.1 in
      subst (λ (x : SigBit). IsDeclared wires free x) (sym r.1) (All-contains (IsNumbered free) digits.0 (FreeDigit r.0) all digits.2)

  pub outputs-declared : All (IsDeclared wires free) (output_of c)
  outputs-declared = All-signal_of (IsDeclared wires free) c (output_port (role_of c.kind)) is.ports

module _ (d : DesignOf) (shape : IsDesign d) where
  pub cell-declared : (i : ℕ) (c : CellOf) → IsCell d i c → IsCellOf d.wires d.free c
  cell-declared i c h = All-contains (IsCellOf d.wires d.free) d.cells c shape.cells (Contains-from_place d.cells i c h)

  pub connect-declared : (i : ℕ) (j : ConnectOf) → slice_get d.connects i ≡ Some j → IsConnectOf d.wires d.free j
  connect-declared i j h = All-contains (IsConnectOf d.wires d.free) d.connects j shape.connects (Contains-from_place d.connects i j h)

  pub left-declared : (i k : ℕ) (j : ConnectOf) (a : SigBit) → slice_get d.connects i ≡ Some j → slice_get j.left k ≡ Some a → IsDeclared d.wires d.free a
  left-declared i k j a h g = All-contains (IsDeclared d.wires d.free) j.left a (connect-declared i j h).0 (Contains-from_place j.left k a g)

  pub right-declared : (i k : ℕ) (j : ConnectOf) (a : SigBit) → slice_get d.connects i ≡ Some j → slice_get j.right k ≡ Some a → IsDeclared d.wires d.free a
  right-declared i k j a h g = All-contains (IsDeclared d.wires d.free) j.right a (connect-declared i j h).1 (Contains-from_place j.right k a g)

  pub output-declared : (i : ℕ) (c : CellOf) (a : SigBit) → IsCell d i c → Contains (output_of c) a → IsDeclared d.wires d.free a
  output-declared i c a h has = All-contains (IsDeclared d.wires d.free) (output_of c) a (outputs-declared d.wires d.free c (cell-declared i c h)) has

  pub read-declared : (i : ℕ) (c : CellOf) (a : SigBit) → IsCell d i c → IsRead c a → IsDeclared d.wires d.free a
  read-declared i c a h r = read-numbered d.wires d.free c (cell-declared i c h) a r
