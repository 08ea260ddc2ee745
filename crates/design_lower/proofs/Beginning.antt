-- Start digits of a design, and of the design with one cell lowered.
use Rattle.std.proofs.Common.{◌≡◌, ◌⊎◌, inl, inr, ℕ, zero, suc, ◌+◌, ◌<◌, Bool, true, List, [], ◌∷◌, length, Option, Some, Contains, refl, ap, sym, subst, ◌∙◌, arith}
use Rattle.std.specs.Prelude.{slice_get}
use Rattle.std.proofs.lemmas.Option.{slice_get_within}
use Rattle.std.proofs.lemmas.List.Elements.{All-contains}
use Rattle.sby_bits.specs.Rows.{Row}
use Rattle.design_signals.specs.Chunks.{bits_from}
use Rattle.design_signals.specs.declared.sig_bit.SigBit.{SigBit}
use Rattle.design_signals.specs.declared.sig_bit.SigBit.TheVariants.{Wire}
use Rattle.design_core.specs.Asked.{number_at, output_of}
use Rattle.design_core.specs.Shape.{WireOf, CellOf, DesignOf, IsConnectOf, IsDeclared}
use Rattle.design_core.specs.Table.{role_of}
use Rattle.design_core.specs.declared.names.ParameterName.TheVariants.{Width}
use Rattle.design_core.specs.declared.table.Role.TheVariants.{Combinational, Register, AsyncResetRegister, Initial}
use Rattle.design_core.proofs.Designs.{slice_get-append}
use Rattle.design_core.proofs.Lists.{Contains-from_place, one_at}
use Rattle.design_graph.proofs.Declared.{outputs-declared}
use Rattle.digraph.proofs.Lists.{get-below, get-push-either, get-push-new}
use Rattle.design_meaning.specs.Meaning.{Valuation, Chain, IsCell, IsConnected, IsInit, IsStart, Starts, held_row, is_register}
use Rattle.design_lower.specs.Lowering.{FitsReset, IsKeptWire, kept_signal, register, with_lowered}
use Rattle.design_lower.proofs.Alike.{IsWired, cell-wired, connect-wired}
use Rattle.design_lower.proofs.Cells.{enabled-form, form-of, lowered-cases, other-there, place-cases, plain-form, register-there}
use Rattle.design_lower.proofs.Fitting.{output-width}
use Rattle.design_lower.proofs.Made.{IsSeenOnce, lowered-held, no-register, same-held}

-- the bits of a wire, by their places
pub wire-bit : (w s j n k : ℕ) → k < n → slice_get (bits_from (Wire w s) j n) k ≡ Some (Wire w (s + (j + k)))
wire-bit w s j zero k lt = absurd (omega arith)
wire-bit w s j (suc n) zero lt = let e : j ≡ j + 0 = omega arith in ap (λ (x : ℕ). Some (Wire w (s + x))) e
wire-bit w s j (suc n) (suc k) lt =
    let e : (j + 1) + k ≡ j + suc k = omega arith in
    wire-bit w s (j + 1) n k (omega arith) ∙ ap (λ (x : ℕ). Some (Wire w (s + x))) e

pub length-bits_from : (b : SigBit) (j n : ℕ) → length (bits_from b j n) ≡ n
length-bits_from b j zero = refl
length-bits_from b j (suc n) = ap suc (length-bits_from b (j + 1) n)

-- bit k of a wire's bits from the lowest on
pub first-bits : (w n k : ℕ) (a : SigBit) → slice_get (bits_from (Wire w 0) 0 n) k ≡ Some a → (k < n) × (a ≡ Wire w k)
first-bits w n k a h =
    let lt : k < n = omega (arith, slice_get_within (bits_from (Wire w 0) 0 n) k a h, length-bits_from (Wire w 0) 0 n) in
    let e : 0 + (0 + k) ≡ k = omega arith in
    let same : ◌≡◌ {A = Option SigBit} (Some a) (Some (Wire w (0 + (0 + k)))) = sym h ∙ wire-bit w 0 0 n k lt in
    let one : a ≡ Wire w (0 + (0 + k)) = cc in
    (lt, one ∙ ap (λ (x : ℕ). Wire w x) e)

pub first-bit : (w n k : ℕ) → k < n → slice_get (bits_from (Wire w 0) 0 n) k ≡ Some (Wire w k)
first-bit w n k lt = let e : 0 + (0 + k) ≡ k = omega arith in wire-bit w 0 0 n k lt ∙ ap (λ (x : ℕ). Some (Wire w x)) e

module _ (d : DesignOf) (wired : IsWired d) where
  connected-declared : (b a : SigBit) → IsConnected d b a → IsDeclared d.wires d.free b × IsDeclared d.wires d.free a
  connected-declared b a n =
      let both : IsConnectOf d.wires d.free n.1 = connect-wired d wired n.0 n.1 n.3 in (
        All-contains (IsDeclared d.wires d.free) n.1.left b both.0 (Contains-from_place n.1.left n.2 b n.4),
        All-contains (IsDeclared d.wires d.free) n.1.right a both.1 (Contains-from_place n.1.right n.2 a n.5),
      )

  -- a chain is one bit, or its ends are declared
  pub chain-ends : (n : ℕ) (b a : SigBit) → Chain d n b a → (b ≡ a) ⊎ (IsDeclared d.wires d.free b × IsDeclared d.wires d.free a)
  chain-ends zero b a h = inl h
  chain-ends (suc n) b a h =
      let step = connected-declared b h.0 h.1 in
      elim (chain-ends n h.0 a h.2) as (λ _. (b ≡ a) ⊎ (IsDeclared d.wires d.free b × IsDeclared d.wires d.free a)) [
        | inl e ↦ inr (step.0, subst (λ (x : SigBit). IsDeclared d.wires d.free x) e step.1)
        | inr both ↦ inr (step.0, both.1)
      ]

  -- no bit of a wire that isn't there is declared
  pub no-wire : (b : ℕ) → IsDeclared d.wires d.free (Wire (length d.wires) b) → ⊥
  no-wire b h = let lt = get-below d.wires (length d.wires) h.0 h.1 in absurd (omega (arith, lt))

  pub output-wired : (j k : ℕ) (x : CellOf) (a : SigBit) → IsCell d j x → slice_get (output_of x) k ≡ Some a → IsDeclared d.wires d.free a
  output-wired j k x a there h =
      All-contains (IsDeclared d.wires d.free) (output_of x) a (outputs-declared d.wires d.free x (cell-wired d wired j x there)) (Contains-from_place (output_of x) k a h)

module _ (d : DesignOf) (wired : IsWired d) (i : ℕ) (c : CellOf) (at : IsCell d i c) (fits : FitsReset c) (wire : WireOf) (kept : IsKeptWire d i c wire) where
  pub chain-to : (n : ℕ) (b a : SigBit) → Chain d n b a → Chain (with_lowered d i c wire) n b a
  chain-to zero b a h = h
  chain-to (suc n) b a h = (h.0, h.1, chain-to n h.0 a h.2)

  pub chain-from : (n : ℕ) (b a : SigBit) → Chain (with_lowered d i c wire) n b a → Chain d n b a
  chain-from zero b a h = h
  chain-from (suc n) b a h = (h.0, h.1, chain-from n h.0 a h.2)

  init-to : (w b : ℕ) (x : Bool) → IsInit d w b x → IsInit (with_lowered d i c wire) w b x
  init-to w b x h = (h.0, h.1, slice_get-append d.wires (wire ∷ []) w h.0 h.2, h.3, h.4)

  init-from : (w b : ℕ) (x : Bool) → IsInit (with_lowered d i c wire) w b x → IsInit d w b x ⊎ ((w ≡ length d.wires) × IsStart d i b x)
  init-from w b x h = elim (get-push-either d.wires wire h.0 w h.2) as (λ _. IsInit d w b x ⊎ ((w ≡ length d.wires) × IsStart d i b x)) [
    | inl old ↦ inl (h.0, h.1, old, h.3, h.4)
    | inr new ↦ inr (new.0, (kept.digits b x).0 (h.1, subst (λ (y : WireOf). Contains y.inits h.1) new.1 h.3, h.4))
  ]

  register-output : output_of (register (length d.wires) c) ≡ kept_signal (length d.wires) c
  register-output = elim (form-of c fits) as (λ _. output_of (register (length d.wires) c) ≡ kept_signal (length d.wires) c) [
    | inl plain ↦ ap (λ (x : CellOf). output_of x) (plain-form (length d.wires) c plain.1)
    | inr enabled ↦ ap (λ (x : CellOf). output_of x) (enabled-form (length d.wires) c enabled.1)
  ]

  register-is : is_register (role_of (register (length d.wires) c).kind) ≡ true
  register-is = ap is_register (no-register d wired i c at fits wire)

  start-width : (k : ℕ) (x : Bool) → IsStart d i k x → k < number_at c.parameters Width
  start-width k x h =
      let bit = h.4 in
      let same : bit.0 ≡ c = one_at d.cells i bit.0 c bit.1 at in
      let here : slice_get (output_of c) k ≡ Some h.0 = subst (λ (y : CellOf). slice_get (output_of y) k ≡ Some h.0) same bit.3 in
      omega (arith, slice_get_within (output_of c) k h.0 here, output-width c fits)

  -- the lowered cell's start digits are the register's
  pub start-to : (k : ℕ) (x : Bool) → IsStart d i k x → IsStart (with_lowered d i c wire) i k x
  start-to k x h =
      let n = length d.wires in
      let r = register n c in
      let digit = (kept.digits k x).1 h in
      let bit : slice_get (output_of (register (length d.wires) c)) k ≡ Some (Wire (length d.wires) k) =
      ap (λ (s : List SigBit). slice_get s k) register-output ∙ first-bit n (number_at c.parameters Width) k (start-width k x h) in
      (Wire n k, n, k, 0, (r, register-there d i c at wire, register-is, bit), (wire, digit.0, get-push-new d.wires wire, digit.1, digit.2), refl)

  pub start-from : (k : ℕ) (x : Bool) → IsStart (with_lowered d i c wire) i k x → IsStart d i k x
  start-from k x h =
      let n : ℕ = length d.wires in
      let bit = h.4 in
      let same : bit.0 ≡ register (length d.wires) c =
      one_at (with_lowered d i c wire).cells i bit.0 (register (length d.wires) c) bit.1 (register-there d i c at wire) in
      let here : slice_get (kept_signal (length d.wires) c) k ≡ Some h.0 =
      ap (λ (s : List SigBit). slice_get s k) (sym register-output) ∙ subst (λ (y : CellOf). slice_get (output_of y) k ≡ Some h.0) same bit.3 in
      let at-bit = first-bits n (number_at c.parameters Width) k h.0 here in
      let chain : Chain d h.3 (Wire h.1 h.2) (Wire (length d.wires) k) = subst (λ (y : SigBit). Chain d h.3 (Wire h.1 h.2) y) at-bit.1 (chain-from h.3 (Wire h.1 h.2) h.0 h.6) in
      elim (chain-ends d wired h.3 (Wire h.1 h.2) (Wire n k) chain) as (λ _. IsStart d i k x) [
        | inl e ↦
            let ew : h.1 ≡ length d.wires = cc in
            let eb : h.2 ≡ k = cc in
            elim (init-from h.1 h.2 x h.5) as (λ _. IsStart d i k x) [
              | inl old ↦ let lt = get-below d.wires h.1 old.0 old.2 in absurd (omega (arith, lt, ew))
              | inr new ↦ subst (λ (b : ℕ). IsStart d i b x) eb new.1
            ]
        | inr both ↦ absurd (no-wire d wired k both.1)
      ]

  module _ (j : ℕ) (z : CellOf) (there : IsCell d j z) (other : j ≡ i → ⊥) where
    pub other-to : (k : ℕ) (x : Bool) → IsStart d j k x → IsStart (with_lowered d i c wire) j k x
    other-to k x h =
        let bit = h.4 in
        (h.0, h.1, h.2, h.3, (bit.0, other-there d i c at wire j bit.0 bit.1 other, bit.2, bit.3), init-to h.1 h.2 x h.5, chain-to h.3 (Wire h.1 h.2) h.0 h.6)

    pub other-from : (k : ℕ) (x : Bool) → IsStart (with_lowered d i c wire) j k x → IsStart d j k x
    other-from k x h =
        let bit = h.4 in
        let same : bit.0 ≡ z = one_at (with_lowered d i c wire).cells j bit.0 z bit.1 (other-there d i c at wire j z there other) in
        let reg : is_register (role_of z.kind) ≡ true = subst (λ (y : CellOf). is_register (role_of y.kind) ≡ true) same bit.2 in
        let here : slice_get (output_of z) k ≡ Some h.0 = subst (λ (y : CellOf). slice_get (output_of y) k ≡ Some h.0) same bit.3 in
        let chain = chain-from h.3 (Wire h.1 h.2) h.0 h.6 in
        let declared = output-wired d wired j k z h.0 there here in
        elim (init-from h.1 h.2 x h.5) as (λ _. IsStart d j k x) [
          | inl old ↦ (h.0, h.1, h.2, h.3, (z, there, reg, here), old, chain)
          | inr new ↦ absurd (elim (chain-ends d wired h.3 (Wire h.1 h.2) h.0 chain) as (λ _. ⊥) [
            | inl e ↦
                let from : Wire (length d.wires) h.2 ≡ h.0 = ap (λ (w : ℕ). Wire w h.2) (sym new.0) ∙ e in
                no-wire d wired h.2 (subst (λ (y : SigBit). IsDeclared d.wires d.free y) (sym from) declared)
            | inr both ↦ no-wire d wired h.2 (subst (λ (w : ℕ). IsDeclared d.wires d.free (Wire w h.2)) new.0 both.0)
          ])
        ]

  module _ (v w : Valuation) (seen : IsSeenOnce d i c v w) where
    pub starts-down : Starts (with_lowered d i c wire) w → Starts d v
    starts-down s = record {
      digits = λ j k z x there start. elim (place-cases d i c at wire j z there) as (λ _. slice_get (held_row v j z) k ≡ Some x) [
        | inl e ↦
            let first : IsStart d i k x = subst (λ (n : ℕ). IsStart d n k x) e.0 start in
            let here : slice_get (held_row v i c) k ≡ Some x =
            ap (λ (r : Row). slice_get r k) (lowered-held d wired i c at fits wire v w seen)
            ∙ s.digits i k (register (length d.wires) c) x (register-there d i c at wire) (start-to k x first) in
            subst (λ (n : ℕ). slice_get (held_row v n z) k ≡ Some x) (sym e.0) (subst (λ (y : CellOf). slice_get (held_row v i y) k ≡ Some x) (sym e.1) here)
        | inr n ↦
            ap (λ (r : Row). slice_get r k) (same-held d wired i c at fits wire v w seen j z there n)
            ∙ s.digits j k z x (other-there d i c at wire j z there n) (other-to j z there n k x start)
      ];
      initial = λ j z there role. elim (place-cases d i c at wire j z there) as (λ _. held_row v j z ≡ true ∷ []) [
        | inl e ↦ let r : AsyncResetRegister ≡ Initial = sym fits.role ∙ (ap (λ (y : CellOf). role_of y.kind) (sym e.1) ∙ role) in absurd cc
        | inr n ↦ same-held d wired i c at fits wire v w seen j z there n ∙ s.initial j z (other-there d i c at wire j z there n) role
      ];
    }

    pub starts-up : Starts d v → Starts (with_lowered d i c wire) w
    starts-up s = record {
      digits = λ j k z x there start. elim (lowered-cases d i c at wire j z there) as (λ _. slice_get (held_row w j z) k ≡ Some x) [
        | inl e ↦
            let first : IsStart (with_lowered d i c wire) i k x = subst (λ (n : ℕ). IsStart (with_lowered d i c wire) n k x) e.0 start in
            let here : slice_get (held_row w i (register (length d.wires) c)) k ≡ Some x =
            ap (λ (r : Row). slice_get r k) (sym (lowered-held d wired i c at fits wire v w seen)) ∙ s.digits i k c x at (start-from k x first) in
            subst (λ (n : ℕ). slice_get (held_row w n z) k ≡ Some x) (sym e.0) (subst (λ (y : CellOf). slice_get (held_row w i y) k ≡ Some x) (sym e.1) here)
        | inr rest ↦ elim rest as (λ _. slice_get (held_row w j z) k ≡ Some x) [
          | inl o ↦
              ap (λ (r : Row). slice_get r k) (sym (same-held d wired i c at fits wire v w seen j z o.1 o.0)) ∙ s.digits j k z x o.1 (other-from j z o.1 o.0 k x start)
          | inr e ↦
              let bit = start.4 in
              let same : bit.0 ≡ z = one_at (with_lowered d i c wire).cells j bit.0 z bit.1 there in
              let role : is_register Combinational ≡ true =
              ap (λ (y : CellOf). is_register (role_of y.kind)) (sym e) ∙ subst (λ (y : CellOf). is_register (role_of y.kind) ≡ true) same bit.2 in
              absurd cc
        ]
      ];
      initial = λ j z there role. elim (lowered-cases d i c at wire j z there) as (λ _. held_row w j z ≡ true ∷ []) [
        | inl e ↦ let r : Register ≡ Initial = sym (no-register d wired i c at fits wire) ∙ (ap (λ (y : CellOf). role_of y.kind) (sym e.1) ∙ role) in absurd cc
        | inr rest ↦ elim rest as (λ _. held_row w j z ≡ true ∷ []) [
          | inl o ↦ sym (same-held d wired i c at fits wire v w seen j z o.1 o.0) ∙ s.initial j z o.1 role
          | inr e ↦ let r : Combinational ≡ Initial = ap (λ (y : CellOf). role_of y.kind) (sym e) ∙ role in absurd cc
        ]
      ];
    }
