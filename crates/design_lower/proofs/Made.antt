-- Cycles and their successors, of a design and of the design with one cell lowered.
use Rattle.std.proofs.Common.{◌≡◌, ◌↔◌, inl, inr, ℕ, ◌+◌, cond, length, set, refl, ap, sym, subst, ◌∙◌}
use Rattle.sby_bits.specs.Rows.{Row}
use Rattle.cell_table.specs.declared.kind.Kind.{Kind}
use Rattle.design_signals.specs.declared.sig_bit.SigBit.{SigBit}
use Rattle.design_core.specs.Asked.{output_of}
use Rattle.design_core.specs.Cells.{Parameters, Ports, cell_fn, is_active, is_reset, next_fn, next_row, reset_value}
use Rattle.design_core.specs.Ports.{signal_at, digits_at}
use Rattle.design_core.specs.Shape.{WireOf, CellOf, DesignOf, IsDeclared}
use Rattle.design_core.specs.Table.{role_of}
use Rattle.design_core.specs.declared.names.PortName.TheVariants.{Arst, D, En}
use Rattle.design_core.specs.declared.names.ParameterName.TheVariants.{ArstPolarity, ArstValue, EnPolarity, SrstPolarity, SrstValue}
use Rattle.design_core.specs.declared.next.NextState.TheVariants.{Data, ResetValue, Held}
use Rattle.design_core.specs.declared.table.Role.{Role}
use Rattle.design_core.specs.declared.table.Role.TheVariants.{Combinational, Register, AsyncResetRegister, Constant, Initial, Source, Statement, Unsupported}
use Rattle.design_meaning.specs.Meaning.{Valuation, Frame, Follows, IsCell, bit_in, row_in, parameters_in, ports_in, kept_row, shown_row, held_row, row_of_role}
use Rattle.design_lower.specs.Lowering.{FitsReset, enabled_register, kept_signal, plain_register, register, reset_signal, shown, with_lowered}
use Rattle.design_lower.proofs.Alike.{IsWired, cell-wired, connect-wired, output-alike, parameters-alike, ports-alike, row-alike}
use Rattle.design_lower.proofs.Cells.{enabled-form, form-of, lowered-cases, other-there, place-cases, plain-form, register-there, shown-there}
use Rattle.design_lower.proofs.Choosing.{digits-kept, reset-row, reset_in, shown-gives}

-- what the new `$mux` gives, where the new wire is wire n
abbrev pub IsMade : ℕ → CellOf → Valuation → Type 0
IsMade n c w = row_in w (output_of c) ≡ cond (reset_in w c) (row_in w (reset_signal c)) (row_in w (kept_signal n c))

-- v is w, looked at on d: its bits, the row that the lowered cell keeps, and the other stored rows
pub record IsSeenOnce (d : DesignOf) (i : ℕ) (c : CellOf) (v w : Valuation) : Type 0 where
  pub bits : (b : SigBit) → IsDeclared d.wires d.free b → bit_in v b ≡ bit_in w b
  pub row : kept_row v i c ≡ row_in w (kept_signal (length d.wires) c)
  pub others : (j : ℕ) (x : CellOf) → IsCell d j x → (j ≡ i → ⊥) → kept_row v j x ≡ kept_row w j x

-- ---- the register

module _ (n : ℕ) (c : CellOf) (fits : FitsReset c) (w : Valuation) where
  -- the register takes what the cell takes
  pub next-register : (held : Row) → next_fn (register n c).kind (parameters_in w (register n c)) (ports_in w (register n c)) held ≡ next_fn c.kind (parameters_in w c) (ports_in w c) held
  next-register held =
      let arst : Row = row_in w (signal_at c.ports Arst) in
      let d : Row = row_in w (signal_at c.ports D) in
      let en : Row = row_in w (signal_at c.ports En) in
      let polarity : Row = parameters_in w c ArstPolarity in
      elim (form-of c fits) as (λ _. next_fn (register n c).kind (parameters_in w (register n c)) (ports_in w (register n c)) held ≡ next_fn c.kind (parameters_in w c) (ports_in w c) held) [
        | inl plain ↦
            ap (λ (x : CellOf). next_fn x.kind (parameters_in w x) (ports_in w x) held) (plain-form n c plain.1)
            ∙ (ap (λ (p : Row). next_row (cond (is_active p arst) ResetValue Data) d (parameters_in w (plain_register n c) SrstValue) held) (digits-kept w (digits_at c.parameters ArstPolarity))
            ∙ (ap (λ (r : Row). next_row (cond (is_active polarity arst) ResetValue Data) d r held) (digits-kept w (digits_at c.parameters ArstValue))
            ∙ ap (λ (k : Kind). next_fn k (parameters_in w c) (ports_in w c) held) (sym plain.0)))
        | inr enabled ↦
            ap (λ (x : CellOf). next_fn x.kind (parameters_in w x) (ports_in w x) held) (enabled-form n c enabled.1)
            ∙ (ap (λ (p : Row). next_row (cond (is_active (parameters_in w (enabled_register n c) SrstPolarity) arst) ResetValue (cond (is_active p en) Data Held)) d (parameters_in w (enabled_register n c) SrstValue) held)
            (digits-kept w (digits_at c.parameters EnPolarity))
            ∙ (ap (λ (p : Row). next_row (cond (is_active p arst) ResetValue (cond (is_active (parameters_in w c EnPolarity) en) Data Held)) d (parameters_in w (enabled_register n c) SrstValue) held)
            (digits-kept w (digits_at c.parameters ArstPolarity))
            ∙ (ap (λ (r : Row). next_row (cond (is_active polarity arst) ResetValue (cond (is_active (parameters_in w c EnPolarity) en) Data Held)) d r held) (digits-kept w (digits_at c.parameters ArstValue))
            ∙ ap (λ (k : Kind). next_fn k (parameters_in w c) (ports_in w c) held) (sym enabled.0))))
      ]

  pub held-register : (i : ℕ) → held_row w i (register n c) ≡ row_in w (kept_signal n c)
  held-register i = elim (form-of c fits) as (λ _. held_row w i (register n c) ≡ row_in w (kept_signal n c)) [
    | inl plain ↦ ap (λ (x : CellOf). held_row w i x) (plain-form n c plain.1)
    | inr enabled ↦ ap (λ (x : CellOf). held_row w i x) (enabled-form n c enabled.1)
  ]

-- ---- cycles

module _ (d : DesignOf) (wired : IsWired d) (i : ℕ) (c : CellOf) (at : IsCell d i c) (fits : FitsReset c) (wire : WireOf) where
  pub frame-made : (w : Valuation) → Frame (with_lowered d i c wire) w → IsMade (length d.wires) c w
  frame-made w f =
      f.cells (length (set d.cells i (register (length d.wires) c)) + 0) (shown (length d.wires) c) (shown-there d i c at wire) refl
      ∙ shown-gives w (length d.wires) c fits

  pub no-register : role_of (register (length d.wires) c).kind ≡ Register
  no-register = elim (form-of c fits) as (λ _. role_of (register (length d.wires) c).kind ≡ Register) [
    | inl plain ↦ ap (λ (x : CellOf). role_of x.kind) (plain-form (length d.wires) c plain.1)
    | inr enabled ↦ ap (λ (x : CellOf). role_of x.kind) (enabled-form (length d.wires) c enabled.1)
  ]

  module _ (v w : Valuation) (seen : IsSeenOnce d i c v w) where
    module _ (j : ℕ) (x : CellOf) (there : IsCell d j x) where
      same-output : row_in v (output_of x) ≡ row_in w (output_of x)
      same-output = output-alike d.wires d.free v w seen.bits x (cell-wired d wired j x there)

      same-ports : ports_in v x ≡ ports_in w x
      same-ports = ports-alike d.wires d.free v w seen.bits x (cell-wired d wired j x there)

      same-parameters : parameters_in v x ≡ parameters_in w x
      same-parameters = parameters-alike d.wires d.free v w seen.bits x (cell-wired d wired j x there)

      same-fn : cell_fn x.kind (parameters_in v x) (ports_in v x) ≡ cell_fn x.kind (parameters_in w x) (ports_in w x)
      same-fn = ap (λ (q : Ports). cell_fn x.kind (parameters_in v x) q) same-ports ∙ ap (λ (p : Parameters). cell_fn x.kind p (ports_in w x)) same-parameters

      same-shown : (r s : Row) → r ≡ s → cond (is_reset AsyncResetRegister (parameters_in v x) (ports_in v x)) (reset_value AsyncResetRegister (parameters_in v x)) r
          ≡ cond (is_reset AsyncResetRegister (parameters_in w x) (ports_in w x)) (reset_value AsyncResetRegister (parameters_in w x)) s
      same-shown r s e =
          ap (λ (q : Ports). cond (is_reset AsyncResetRegister (parameters_in v x) q) (reset_value AsyncResetRegister (parameters_in v x)) r) same-ports
          ∙ (ap (λ (p : Parameters). cond (is_reset AsyncResetRegister p (ports_in w x)) (reset_value AsyncResetRegister p) r) same-parameters
          ∙ ap (λ (y : Row). cond (is_reset AsyncResetRegister (parameters_in w x) (ports_in w x)) (reset_value AsyncResetRegister (parameters_in w x)) y) e)

      same-next : (r s : Row) → r ≡ s → next_fn x.kind (parameters_in v x) (ports_in v x) r ≡ next_fn x.kind (parameters_in w x) (ports_in w x) s
      same-next r s e =
          ap (λ (q : Ports). next_fn x.kind (parameters_in v x) q r) same-ports
          ∙ (ap (λ (p : Parameters). next_fn x.kind p (ports_in w x) r) same-parameters
          ∙ ap (λ (y : Row). next_fn x.kind (parameters_in w x) (ports_in w x) y) e)

      held-by : (r : Role) → kept_row v j x ≡ kept_row w j x → row_of_role r (row_in v (output_of x)) (kept_row v j x) ≡ row_of_role r (row_in w (output_of x)) (kept_row w j x)
      held-by Combinational h = refl
      held-by Register h = same-output
      held-by AsyncResetRegister h = h
      held-by Constant h = same-output
      held-by Initial h = same-output
      held-by Source h = refl
      held-by Statement h = refl
      held-by Unsupported h = refl

      pub same-held : (j ≡ i → ⊥) → held_row v j x ≡ held_row w j x
      same-held n = held-by (role_of x.kind) (seen.others j x there n)

    kept-held : held_row v i c ≡ kept_row v i c
    kept-held = ap (λ (r : Role). row_of_role r (row_in v (output_of c)) (kept_row v i c)) fits.role

    -- the lowered cell keeps what the register holds
    pub lowered-held : held_row v i c ≡ held_row w i (register (length d.wires) c)
    lowered-held = kept-held ∙ (seen.row ∙ sym (held-register (length d.wires) c fits w i))

    no-role : (r : Role) (x : CellOf) → x ≡ c → role_of x.kind ≡ r → (AsyncResetRegister ≡ r → ⊥) → ⊥
    no-role r x e h n = n (sym fits.role ∙ (ap (λ (y : CellOf). role_of y.kind) (sym e) ∙ h))

    pub shown-seen : row_in v (output_of c) ≡ shown_row v i c ↔ (row_in w (output_of c) ≡ cond (reset_in w c) (row_in w (reset_signal c)) (row_in w (kept_signal (length d.wires) c)))
    shown-seen =
        let row : shown_row v i c ≡ cond (reset_in w c) (row_in w (reset_signal c)) (row_in w (kept_signal (length d.wires) c)) =
        same-shown i c at (kept_row v i c) (row_in w (kept_signal (length d.wires) c)) seen.row
        ∙ ap (λ (y : Row). cond (reset_in w c) y (row_in w (kept_signal (length d.wires) c))) (sym (reset-row w c)) in (
          λ h. sym (same-output i c at) ∙ (h ∙ row),
          λ h. same-output i c at ∙ (h ∙ sym row),
        )

    pub frame-down : Frame (with_lowered d i c wire) w → Frame d v
    frame-down f = record {
      cells = λ j x there role. elim (place-cases d i c at wire j x there) as (λ _. row_in v (output_of x) ≡ cell_fn x.kind (parameters_in v x) (ports_in v x)) [
        | inl e ↦ absurd (no-role Combinational x e.1 role cc)
        | inr n ↦ same-output j x there ∙ (f.cells j x (other-there d i c at wire j x there n) role ∙ sym (same-fn j x there))
      ];
      resets = λ j x there role. elim (place-cases d i c at wire j x there) as (λ _. row_in v (output_of x) ≡ shown_row v j x) [
        | inl e ↦
            let here = shown-seen.1 (frame-made w f) in
            subst (λ (k : ℕ). row_in v (output_of x) ≡ shown_row v k x) (sym e.0) (subst (λ (y : CellOf). row_in v (output_of y) ≡ shown_row v i y) (sym e.1) here)
        | inr n ↦
            same-output j x there ∙ (f.resets j x (other-there d i c at wire j x there n) role ∙ sym (same-shown j x there (kept_row v j x) (kept_row w j x) (seen.others j x there n)))
      ];
      connects = λ k j there.
          let both = connect-wired d wired k j there in
          row-alike d.wires d.free v w seen.bits j.left both.0 ∙ (f.connects k j there ∙ sym (row-alike d.wires d.free v w seen.bits j.right both.1));
    }

    pub frame-up : Frame d v → IsMade (length d.wires) c w → Frame (with_lowered d i c wire) w
    frame-up f made = record {
      cells = λ j x there role. elim (lowered-cases d i c at wire j x there) as (λ _. row_in w (output_of x) ≡ cell_fn x.kind (parameters_in w x) (ports_in w x)) [
        | inl e ↦ let r : Combinational ≡ Register = sym role ∙ (ap (λ (y : CellOf). role_of y.kind) e.1 ∙ no-register) in absurd cc
        | inr rest ↦ elim rest as (λ _. row_in w (output_of x) ≡ cell_fn x.kind (parameters_in w x) (ports_in w x)) [
          | inl o ↦ sym (same-output j x o.1) ∙ (f.cells j x o.1 role ∙ same-fn j x o.1)
          | inr e ↦
              subst (λ (y : CellOf). row_in w (output_of y) ≡ cell_fn y.kind (parameters_in w y) (ports_in w y)) (sym e) (made ∙ sym (shown-gives w (length d.wires) c fits))
        ]
      ];
      resets = λ j x there role. elim (lowered-cases d i c at wire j x there) as (λ _. row_in w (output_of x) ≡ shown_row w j x) [
        | inl e ↦ let r : AsyncResetRegister ≡ Register = sym role ∙ (ap (λ (y : CellOf). role_of y.kind) e.1 ∙ no-register) in absurd cc
        | inr rest ↦ elim rest as (λ _. row_in w (output_of x) ≡ shown_row w j x) [
          | inl o ↦ sym (same-output j x o.1) ∙ (f.resets j x o.1 role ∙ same-shown j x o.1 (kept_row v j x) (kept_row w j x) (seen.others j x o.1 o.0))
          | inr e ↦ let r : AsyncResetRegister ≡ Combinational = sym role ∙ ap (λ (y : CellOf). role_of y.kind) e in absurd cc
        ]
      ];
      connects = λ k j there.
          let both = connect-wired d wired k j there in
          sym (row-alike d.wires d.free v w seen.bits j.left both.0) ∙ (f.connects k j there ∙ row-alike d.wires d.free v w seen.bits j.right both.1);
    }

  -- ---- successors

  module _ (v w x y : Valuation) (seen : IsSeenOnce d i c v w) (next : IsSeenOnce d i c x y) where
    next-lowered : next_fn c.kind (parameters_in v c) (ports_in v c) (held_row v i c)
        ≡ next_fn (register (length d.wires) c).kind (parameters_in w (register (length d.wires) c)) (ports_in w (register (length d.wires) c)) (held_row w i (register (length d.wires) c))
    next-lowered =
        same-next v w seen i c at (held_row v i c) (held_row w i (register (length d.wires) c)) (lowered-held v w seen)
        ∙ sym (next-register (length d.wires) c fits w (held_row w i (register (length d.wires) c)))

    pub follows-down : Follows (with_lowered d i c wire) w y → Follows d v x
    follows-down f = λ j z there. elim (place-cases d i c at wire j z there) as (λ _. held_row x j z ≡ next_fn z.kind (parameters_in v z) (ports_in v z) (held_row v j z)) [
      | inl e ↦
          let here : held_row x i c ≡ next_fn c.kind (parameters_in v c) (ports_in v c) (held_row v i c) =
          lowered-held x y next ∙ (f i (register (length d.wires) c) (register-there d i c at wire) ∙ sym next-lowered) in
          subst (λ (k : ℕ). held_row x k z ≡ next_fn z.kind (parameters_in v z) (ports_in v z) (held_row v k z)) (sym e.0)
          (subst (λ (q : CellOf). held_row x i q ≡ next_fn q.kind (parameters_in v q) (ports_in v q) (held_row v i q)) (sym e.1) here)
      | inr n ↦
          same-held x y next j z there n ∙ (f j z (other-there d i c at wire j z there n) ∙ sym (same-next v w seen j z there (held_row v j z) (held_row w j z) (same-held v w seen j z there n)))
    ]

    pub follows-up : Follows d v x → Follows (with_lowered d i c wire) w y
    follows-up f = λ j z there. elim (lowered-cases d i c at wire j z there) as (λ _. held_row y j z ≡ next_fn z.kind (parameters_in w z) (ports_in w z) (held_row w j z)) [
      | inl e ↦
          let here = sym (lowered-held x y next) ∙ (f i c at ∙ next-lowered) in
          subst (λ (k : ℕ). held_row y k z ≡ next_fn z.kind (parameters_in w z) (ports_in w z) (held_row w k z)) (sym e.0)
          (subst (λ (q : CellOf). held_row y i q ≡ next_fn q.kind (parameters_in w q) (ports_in w q) (held_row w i q)) (sym e.1) here)
      | inr rest ↦ elim rest as (λ _. held_row y j z ≡ next_fn z.kind (parameters_in w z) (ports_in w z) (held_row w j z)) [
        | inl o ↦ sym (same-held x y next j z o.1 o.0) ∙ (f j z o.1 ∙ same-next v w seen j z o.1 (held_row v j z) (held_row w j z) (same-held v w seen j z o.1 o.0))
        | inr e ↦ subst (λ (q : CellOf). held_row y j q ≡ next_fn q.kind (parameters_in w q) (ports_in w q) (held_row w j q)) (sym e) refl
      ]
    ]
