-- Clocks and start digits of a design, and of the design with one cell lowered.
use Rattle.std.proofs.Common.{◌≡◌, inl, inr, ℕ, Bool, true, false, not, eqb, List, length, Option, Some, None, refl, ap, sym, subst, ◌∙◌}
use Rattle.design_signals.specs.declared.sig_bit.SigBit.{SigBit}
use Rattle.design_core.specs.Asked.{number_of}
use Rattle.design_core.specs.Ports.{digits_at}
use Rattle.design_core.specs.Shape.{WireOf, CellOf, DesignOf}
use Rattle.design_core.specs.Table.{is_clocked, role_of}
use Rattle.design_core.specs.declared.digit.Digit.{Digit}
use Rattle.design_core.specs.declared.names.ParameterName.TheVariants.{ClkPolarity}
use Rattle.design_check.specs.Faults.{IsConflict, IsFirstClocked, IsOneClock, IsOtherClock, clock_of, flag}
use Rattle.design_graph.specs.Edges.{IsOneNet}
use Rattle.design_meaning.specs.Meaning.{IsCell, IsStart, is_register}
use Rattle.design_lower.specs.Lowering.{FitsReset, IsKeptWire, digits_or_none, register, with_lowered}
use Rattle.design_lower.proofs.Alike.{IsWired}
use Rattle.design_lower.proofs.Beginning.{chain-from, chain-to, other-from, other-to, start-from, start-to}
use Rattle.design_lower.proofs.Cells.{enabled-form, form-of, lowered-cases, other-there, place-cases, plain-form, register-there}

pub number-kept : (o : Option (List Digit)) → number_of (Some (digits_or_none o)) ≡ number_of o
number-kept None = refl
number-kept (Some xs) = refl

-- the clock of the one is the clock of the other
pub record IsSameClock (x y : CellOf) : Type 0 where
  pub clocked : is_clocked x.kind ≡ is_clocked y.kind
  pub port : clock_of x ≡ clock_of y
  pub edge : flag x ClkPolarity ≡ flag y ClkPolarity

pub same-clock : (x : CellOf) → IsSameClock x x
same-clock x = record { clocked = refl; port = refl; edge = refl }

module _ (d : DesignOf) (wired : IsWired d) (i : ℕ) (c : CellOf) (at : IsCell d i c) (fits : FitsReset c) (wire : WireOf) (kept : IsKeptWire d i c wire) where
  register-clock : IsSameClock c (register (length d.wires) c)
  register-clock = elim (form-of c fits) as (λ _. IsSameClock c (register (length d.wires) c)) [
    | inl plain ↦ subst (λ (y : CellOf). IsSameClock c y) (sym (plain-form (length d.wires) c plain.1)) (record {
      clocked = ap is_clocked plain.0;
      port = refl;
      edge = ap (λ (n : ℕ). not (eqb n 0)) (sym (number-kept (digits_at c.parameters ClkPolarity)));
    })
    | inr enabled ↦ subst (λ (y : CellOf). IsSameClock c y) (sym (enabled-form (length d.wires) c enabled.1)) (record {
      clocked = ap is_clocked enabled.0;
      port = refl;
      edge = ap (λ (n : ℕ). not (eqb n 0)) (sym (number-kept (digits_at c.parameters ClkPolarity)));
    })
  ]

  clock-to : (j : ℕ) (x : CellOf) → IsCell d j x → (y : CellOf) × IsCell (with_lowered d i c wire) j y × IsSameClock x y
  clock-to j x there = elim (place-cases d i c at wire j x there) as (λ _. (y : CellOf) × IsCell (with_lowered d i c wire) j y × IsSameClock x y) [
    | inl e ↦ (
      register (length d.wires) c,
      subst (λ (n : ℕ). IsCell (with_lowered d i c wire) n (register (length d.wires) c)) (sym e.0) (register-there d i c at wire),
      subst (λ (z : CellOf). IsSameClock z (register (length d.wires) c)) (sym e.1) register-clock,
    )
    | inr n ↦ (x, other-there d i c at wire j x there n, same-clock x)
  ]

  clock-from : (j : ℕ) (y : CellOf) → IsCell (with_lowered d i c wire) j y → is_clocked y.kind ≡ true → (x : CellOf) × IsCell d j x × IsSameClock x y
  clock-from j y there clocked = elim (lowered-cases d i c at wire j y there) as (λ _. (x : CellOf) × IsCell d j x × IsSameClock x y) [
    | inl e ↦ (c, subst (λ (n : ℕ). IsCell d n c) (sym e.0) at, subst (λ (z : CellOf). IsSameClock c z) (sym e.1) register-clock)
    | inr rest ↦ elim rest as (λ _. (x : CellOf) × IsCell d j x × IsSameClock x y) [
      | inl o ↦ (y, o.1, same-clock y)
      | inr e ↦ let clash : true ≡ false = sym clocked ∙ ap (λ (z : CellOf). is_clocked z.kind) e in absurd cc
    ]
  ]

  net-to : (a b : SigBit) → IsOneNet d a b → IsOneNet (with_lowered d i c wire) a b
  net-to a b h = (h.0, h.1, h.2, chain-to d wired i c at fits wire kept h.0 a h.2 h.3, chain-to d wired i c at fits wire kept h.1 b h.2 h.4)

  net-from : (a b : SigBit) → IsOneNet (with_lowered d i c wire) a b → IsOneNet d a b
  net-from a b h = (h.0, h.1, h.2, chain-from d wired i c at fits wire kept h.0 a h.2 h.3, chain-from d wired i c at fits wire kept h.1 b h.2 h.4)

  one-to : (x y x' y' : CellOf) → IsSameClock x x' → IsSameClock y y' → IsOneClock d x y → IsOneClock (with_lowered d i c wire) x' y'
  one-to x y x' y' s t h =
      let n = h.net in
      record { net = (n.0, n.1, sym s.port ∙ n.2, sym t.port ∙ n.3, net-to n.0 n.1 n.4); edge = sym s.edge ∙ (h.edge ∙ t.edge) }

  one-from : (x y x' y' : CellOf) → IsSameClock x x' → IsSameClock y y' → IsOneClock (with_lowered d i c wire) x' y' → IsOneClock d x y
  one-from x y x' y' s t h =
      let n = h.net in
      record { net = (n.0, n.1, s.port ∙ n.2, t.port ∙ n.3, net-from n.0 n.1 n.4); edge = s.edge ∙ (h.edge ∙ sym t.edge) }

  first-to : (f : ℕ) (e e' : CellOf) → IsSameClock e e' → IsCell (with_lowered d i c wire) f e' → IsFirstClocked d f e → IsFirstClocked (with_lowered d i c wire) f e'
  first-to f e e' s there h = (there, sym s.clocked ∙ h.1, λ k y lt place clocked. let x = clock-from k y place clocked in h.2 k x.0 lt x.1 (x.2.clocked ∙ clocked))

  first-from : (f : ℕ) (e e' : CellOf) → IsSameClock e e' → IsCell d f e → IsFirstClocked (with_lowered d i c wire) f e' → IsFirstClocked d f e
  first-from f e e' s there h = (there, s.clocked ∙ h.1, λ k x lt place clocked. let y = clock-to k x place in h.2 k y.0 lt y.1 (sym y.2.clocked ∙ clocked))

  pub clock-other-from : (j : ℕ) (y : CellOf) → IsCell (with_lowered d i c wire) j y → IsOtherClock (with_lowered d i c wire) y → (x : CellOf) × IsCell d j x × IsOtherClock d x
  clock-other-from j y there h =
      let x = clock-from j y there h.0 in
      let f = h.1 in
      let e = clock-from f.0 f.1 f.2.0 f.2.1 in
      (x.0, x.1, (x.2.clocked ∙ h.0, (f.0, e.0, first-from f.0 e.0 f.1 e.2 e.1 f.2, λ one. f.3 (one-to e.0 x.0 f.1 y e.2 x.2 one))))

  pub clock-other-to : (j : ℕ) (x : CellOf) → IsCell d j x → IsOtherClock d x → (y : CellOf) × IsCell (with_lowered d i c wire) j y × IsOtherClock (with_lowered d i c wire) y
  clock-other-to j x there h =
      let y = clock-to j x there in
      let f = h.1 in
      let e = clock-to f.0 f.1 f.2.0 in
      (y.0, y.1, (sym y.2.clocked ∙ h.0, (f.0, e.0, first-to f.0 f.1 e.0 e.2 e.1 f.2, λ one. f.3 (one-from f.1 x e.0 y.0 e.2 y.2 one))))

  -- ---- start digits

  start-any-to : (j k : ℕ) (x : Bool) → IsStart d j k x → IsStart (with_lowered d i c wire) j k x
  start-any-to j k x h =
      let bit = h.4 in
      elim (place-cases d i c at wire j bit.0 bit.1) as (λ _. IsStart (with_lowered d i c wire) j k x) [
        | inl e ↦ subst (λ (n : ℕ). IsStart (with_lowered d i c wire) n k x) (sym e.0) (start-to d wired i c at fits wire kept k x (subst (λ (n : ℕ). IsStart d n k x) e.0 h))
        | inr n ↦ other-to d wired i c at fits wire kept j bit.0 bit.1 n k x h
      ]

  start-any-from : (j k : ℕ) (x : Bool) → IsStart (with_lowered d i c wire) j k x → IsStart d j k x
  start-any-from j k x h =
      let bit = h.4 in
      elim (lowered-cases d i c at wire j bit.0 bit.1) as (λ _. IsStart d j k x) [
        | inl e ↦ subst (λ (n : ℕ). IsStart d n k x) (sym e.0) (start-from d wired i c at fits wire kept k x (subst (λ (n : ℕ). IsStart (with_lowered d i c wire) n k x) e.0 h))
        | inr rest ↦ elim rest as (λ _. IsStart d j k x) [
          | inl o ↦ other-from d wired i c at fits wire kept j bit.0 o.1 o.0 k x h
          | inr e ↦ let role : false ≡ true = ap (λ (y : CellOf). is_register (role_of y.kind)) (sym e) ∙ bit.2 in absurd cc
        ]
      ]

  pub conflict-to : (j k : ℕ) → IsConflict d j k → IsConflict (with_lowered d i c wire) j k
  conflict-to j k h = (start-any-to j k false h.0, start-any-to j k true h.1)

  pub conflict-from : (j k : ℕ) → IsConflict (with_lowered d i c wire) j k → IsConflict d j k
  conflict-from j k h = (start-any-from j k false h.0, start-any-from j k true h.1)
