-- The cells of a design in which one cell is lowered.
use Rattle.std.proofs.Common.{◌≡◌, ◌⊎◌, inl, inr, ℕ, zero, suc, ◌+◌, Bool, true, false, cond, [], ◌∷◌, length, set, Some, ap, subst, ◌∙◌}
use Rattle.std.specs.Prelude.{slice_get}
use Rattle.std.specs.List.{list_any}
use Rattle.cell_table.specs.declared.kind.Kind.{Kind}
use Rattle.cell_table.specs.declared.kind.Kind.TheVariants.{Adff, Adffe}
use Rattle.design_core.specs.Ports.{is_port}
use Rattle.design_core.specs.Shape.{WireOf, CellOf, DesignOf}
use Rattle.design_core.specs.Table.{ports_of}
use Rattle.design_core.specs.declared.names.PortName.TheVariants.{En}
use Rattle.design_core.specs.declared.table.PortLine.{PortLine}
use Rattle.design_core.proofs.Designs.{slice_get-append}
use Rattle.design_core.proofs.Lists.{one_at}
use Rattle.design_meaning.specs.Meaning.{IsCell}
use Rattle.std.proofs.lemmas.Bool.{cases_eq}
use Rattle.digraph.proofs.Lists.{get-set-other, get-set-same}
use Rattle.design_lower.specs.Lowering.{FitsReset, enabled_register, has_enable, plain_register, register, shown, with_lowered}
use Rattle.design_lower.proofs.Fitting.{kind-cases}
use Rattle.design_lower.proofs.Lists.{get-behind, get-either, get-written}

-- the two forms of a register with an asynchronous reset
abbrev pub IsForm : CellOf → Type 0
IsForm c = ((c.kind ≡ Adff) × (has_enable c ≡ false)) ⊎ ((c.kind ≡ Adffe) × (has_enable c ≡ true))

pub form-of : (c : CellOf) → FitsReset c → IsForm c
form-of c fits = elim (kind-cases c.kind fits.role) as (λ _. IsForm c) [
  | inl e ↦ inl (e, ap (λ (k : Kind). list_any (λ (l : PortLine). is_port l.name En) (ports_of k)) e)
  | inr e ↦ inr (e, ap (λ (k : Kind). list_any (λ (l : PortLine). is_port l.name En) (ports_of k)) e)
]

pub plain-form : (w : ℕ) (c : CellOf) → has_enable c ≡ false → register w c ≡ plain_register w c
plain-form w c h = ap (λ (b : Bool). cond b (enabled_register w c) (plain_register w c)) h

pub enabled-form : (w : ℕ) (c : CellOf) → has_enable c ≡ true → register w c ≡ enabled_register w c
enabled-form w c h = ap (λ (b : Bool). cond b (enabled_register w c) (plain_register w c)) h

pub only-one : (x y : CellOf) (j : ℕ) → slice_get (y ∷ []) j ≡ Some x → x ≡ y
only-one x y zero h = cc
only-one x y (suc j) h = absurd cc

module _ (d : DesignOf) (i : ℕ) (c : CellOf) (at : IsCell d i c) (wire : WireOf) where
  pub register-there : IsCell (with_lowered d i c wire) i (register (length d.wires) c)
  register-there =
      slice_get-append (set d.cells i (register (length d.wires) c)) (shown (length d.wires) c ∷ []) i (register (length d.wires) c) (get-set-same d.cells i (register (length d.wires) c) c at)

  pub other-there : (j : ℕ) (x : CellOf) → IsCell d j x → (j ≡ i → ⊥) → IsCell (with_lowered d i c wire) j x
  other-there j x there n =
      slice_get-append (set d.cells i (register (length d.wires) c)) (shown (length d.wires) c ∷ []) j x (get-set-other d.cells i j (register (length d.wires) c) n ∙ there)

  pub shown-there : IsCell (with_lowered d i c wire) (length (set d.cells i (register (length d.wires) c)) + 0) (shown (length d.wires) c)
  shown-there = get-behind (set d.cells i (register (length d.wires) c)) (shown (length d.wires) c ∷ []) 0

  -- a cell of d is the lowered one or another
  pub place-cases : (j : ℕ) (x : CellOf) → IsCell d j x → ((j ≡ i) × (x ≡ c)) ⊎ (j ≡ i → ⊥)
  place-cases j x there = elim (cases_eq j i) as (λ _. ((j ≡ i) × (x ≡ c)) ⊎ (j ≡ i → ⊥)) [
    | inl e ↦ inl (e, one_at d.cells i x c (subst (λ (n : ℕ). slice_get d.cells n ≡ Some x) e there) at)
    | inr n ↦ inr n
  ]

  -- a cell of the lowered design is the register, another cell of d, or the new `$mux`
  pub lowered-cases : (j : ℕ) (x : CellOf) → IsCell (with_lowered d i c wire) j x
      → ((j ≡ i) × (x ≡ register (length d.wires) c)) ⊎ (((j ≡ i → ⊥) × IsCell d j x) ⊎ (x ≡ shown (length d.wires) c))
  lowered-cases j x h =
      elim (get-either (set d.cells i (register (length d.wires) c)) (shown (length d.wires) c ∷ []) j x h)
      as (λ _. ((j ≡ i) × (x ≡ register (length d.wires) c)) ⊎ (((j ≡ i → ⊥) × IsCell d j x) ⊎ (x ≡ shown (length d.wires) c))) [
        | inl front ↦ elim (get-written d.cells i j (register (length d.wires) c) c x at front) as (λ _. ((j ≡ i) × (x ≡ register (length d.wires) c)) ⊎ (((j ≡ i → ⊥) × IsCell d j x) ⊎ (x ≡ shown (length d.wires) c))) [
          | inl here ↦ inl here
          | inr other ↦ inr (inl other)
        ]
        | inr behind ↦ inr (inr (only-one x (shown (length d.wires) c) behind.0 behind.2))
      ]
