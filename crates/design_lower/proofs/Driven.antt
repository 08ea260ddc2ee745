-- Bits are driven once in a design exactly where they are in the design with one cell lowered.
use Rattle.std.proofs.Common.{◌≡◌, ◌⊎◌, inl, inr, ℕ, zero, suc, ◌+◌, ◌<◌, true, false, List, [], ◌∷◌, length, set, Some, IsTrue, Option, refl, ap, sym, subst, ◌∙◌, arith}
use Rattle.std.specs.Prelude.{slice_get}
use Rattle.std.proofs.lemmas.Option.{slice_get_within}
use Rattle.std.proofs.lemmas.List.{length-set}
use Rattle.design_signals.specs.Chunks.{bits_from}
use Rattle.design_signals.specs.declared.sig_bit.SigBit.{SigBit}
use Rattle.design_signals.specs.declared.sig_bit.SigBit.TheVariants.{Wire, Const, Free}
use Rattle.design_core.specs.Asked.{number_at, output_of}
use Rattle.design_core.specs.Shape.{WireOf, CellOf, DesignOf, IsDeclared}
use Rattle.design_core.specs.declared.names.ParameterName.TheVariants.{Width}
use Rattle.design_core.proofs.Designs.{slice_get-append}
use Rattle.design_core.proofs.Lists.{Contains-from_place}
use Rattle.std.proofs.lemmas.List.Elements.{All-contains}
use Rattle.design_graph.specs.Items.{DrivesBit, IsDrivenOnce, IsInput, IsNoWire, Precedes}
use Rattle.design_graph.specs.declared.item.Item.{Item}
use Rattle.design_graph.specs.declared.item.Item.TheVariants.{Cell, Connect}
use Rattle.design_graph.proofs.Unique.{one-drive}
use Rattle.digraph.proofs.Lists.{get-below, get-push-either}
use Rattle.design_meaning.specs.Meaning.{IsCell}
use Rattle.design_lower.specs.Lowering.{FitsReset, IsKeptWire, kept_signal, register, shown, with_lowered}
use Rattle.design_lower.proofs.Alike.{IsWired, connect-wired}
use Rattle.design_lower.proofs.Beginning.{length-bits_from, no-wire, output-wired, wire-bit}
use Rattle.design_lower.proofs.Lists.{get-either, get-written}
use Rattle.design_lower.proofs.Cells.{enabled-form, form-of, other-there, place-cases, plain-form, shown-there}

-- each bit that is driven is a wire's, no input's, and is driven at one place
pub record IsUnique (d : DesignOf) : Type 0 where
  pub one : (e f : Item) (k l : ℕ) (a : SigBit) → DrivesBit d e k a → DrivesBit d f l a → (e ≡ f) × (k ≡ l)
  pub no_input : (e : Item) (k : ℕ) (a : SigBit) → DrivesBit d e k a → IsInput d a → ⊥
  pub wire : (e : Item) (k : ℕ) (a : SigBit) → DrivesBit d e k a → IsNoWire a → ⊥

pub unique-once : (d : DesignOf) → IsDrivenOnce d → IsUnique d
unique-once d once = record {
  one = λ e f k l a h g. one-drive d once e f k l a h g;
  no_input = λ e k a h g. once e k (a, h, inr (inl g));
  wire = λ e k a h g. once e k (a, h, inr (inr g));
}

not-before : (d : DesignOf) (e : Item) → Precedes d e e → ⊥
not-before d (Cell i) h = absurd (omega (arith, h))
not-before d (Connect k) h = absurd (omega (arith, h))

pub once-unique : (d : DesignOf) → IsUnique d → IsDrivenOnce d
once-unique d u e k h = elim h.2 as (λ _. ⊥) [
  | inl before ↦
      let same = u.one before.0 e before.1 k h.0 before.2 h.1 in
      elim before.3 as (λ _. ⊥) [
        | inl first ↦ not-before d e (subst (λ (f : Item). Precedes d f e) same.0 first)
        | inr lower ↦ let e' = same.1 in let lt = lower.1 in absurd (omega (arith, e', lt))
      ]
  | inr other ↦ elim other as (λ _. ⊥) [ inl input ↦ u.no_input e k h.0 h.1 input | inr none ↦ u.wire e k h.0 h.1 none ]
]

one-bit : (w x p q : ℕ) → Wire w p ≡ Wire x q → p ≡ q
one-bit w x p q e = cc

pub other-item : (i k : ℕ) → Cell i ≡ Connect k → ⊥
other-item i k e = cc

pub one-cell : (i j : ℕ) → Cell i ≡ Cell j → i ≡ j
one-cell i j e = cc

-- bit k of a wire's bits from s on
pub wire-bits : (w s n k : ℕ) (a : SigBit) → slice_get (bits_from (Wire w s) 0 n) k ≡ Some a → (k < n) × (a ≡ Wire w (s + k))
wire-bits w s n k a h =
    let lt : k < n = omega (arith, slice_get_within (bits_from (Wire w s) 0 n) k a h, length-bits_from (Wire w s) 0 n) in
    let e : 0 + k ≡ k = omega arith in
    let same : ◌≡◌ {A = Option SigBit} (Some a) (Some (Wire w (s + (0 + k)))) = sym h ∙ wire-bit w s 0 n k lt in
    let one : a ≡ Wire w (s + (0 + k)) = cc in
    (lt, one ∙ ap (λ (x : ℕ). Wire w (s + x)) e)

module _ (d : DesignOf) (wired : IsWired d) (i : ℕ) (c : CellOf) (at : IsCell d i c) (fits : FitsReset c) (wire : WireOf) (kept : IsKeptWire d i c wire) where
  -- where the `$mux` stands
  abbrev behind : ℕ
  behind = length (set d.cells i (register (length d.wires) c))

  behind-all : behind ≡ length d.cells
  behind-all = length-set d.cells i (register (length d.wires) c)

  pub register-output : output_of (register (length d.wires) c) ≡ kept_signal (length d.wires) c
  register-output = elim (form-of c fits) as (λ _. output_of (register (length d.wires) c) ≡ kept_signal (length d.wires) c) [
    | inl plain ↦ ap (λ (x : CellOf). output_of x) (plain-form (length d.wires) c plain.1)
    | inr enabled ↦ ap (λ (x : CellOf). output_of x) (enabled-form (length d.wires) c enabled.1)
  ]

  -- the item f of the lowered design drives the bits that the item e of d drives
  abbrev pub IsMoved : Item → Item → Type 0
  IsMoved e f = ((e ≡ Cell i) × (f ≡ Cell behind)) ⊎ ((e ≡ Cell i → ⊥) × (f ≡ e) × (f ≡ Cell behind → ⊥))

  -- two items of d that moved to one are one
  moved-one : (e f g : Item) → IsMoved e g → IsMoved f g → e ≡ f
  moved-one e f g (inl h) (inl k) = h.0 ∙ sym k.0
  moved-one e f g (inl h) (inr k) = absurd (k.2 h.1)
  moved-one e f g (inr h) (inl k) = absurd (h.2 k.1)
  moved-one e f g (inr h) (inr k) = sym h.1 ∙ k.1

  moved-same : (e f g : Item) → IsMoved e f → IsMoved e g → f ≡ g
  moved-same e f g (inl h) (inl k) = h.1 ∙ sym k.1
  moved-same e f g (inl h) (inr k) = absurd (k.0 h.0)
  moved-same e f g (inr h) (inl k) = absurd (h.0 k.0)
  moved-same e f g (inr h) (inr k) = h.1 ∙ sym k.1

  -- what is driven in d
  drives-to : (e : Item) (k : ℕ) (a : SigBit) → DrivesBit d e k a → (f : Item) × IsMoved e f × DrivesBit (with_lowered d i c wire) f k a
  drives-to (Connect j) k a h = (Connect j, inr (λ e. other-item i j (sym e), refl, λ e. other-item behind j (sym e)), h)
  drives-to (Cell j) k a h = elim (place-cases d i c at wire j h.0 h.1) as (λ _. (f : Item) × IsMoved (Cell j) f × DrivesBit (with_lowered d i c wire) f k a) [
    | inl e ↦
        let first : behind + 0 ≡ behind = omega arith in
        let there : IsCell (with_lowered d i c wire) behind (shown (length d.wires) c) =
        subst (λ (n : ℕ). IsCell (with_lowered d i c wire) n (shown (length d.wires) c)) first (shown-there d i c at wire) in
        let bit : slice_get (output_of c) k ≡ Some a = subst (λ (x : CellOf). slice_get (output_of x) k ≡ Some a) e.1 h.2 in
        (Cell behind, inl (ap (λ (n : ℕ). Cell n) e.0, refl), (shown (length d.wires) c, there, bit))
    | inr n ↦
        let lt = get-below d.cells j h.0 h.1 in
        (Cell j, inr (λ e. n (one-cell j i e), refl, λ e. let same = one-cell j behind e in absurd (omega (arith, lt, same, behind-all))), (h.0, other-there d i c at wire j h.0 h.1 n, h.2))
  ]

  -- what is driven in the lowered design: what d drives, or a bit of the new wire, by the register
  abbrev pub DrivesNew : Item → ℕ → SigBit → Type 0
  DrivesNew f k a = (f ≡ Cell i) × (k < number_at c.parameters Width) × (a ≡ Wire (length d.wires) k)

  drives-shown : (j : ℕ) (x : CellOf) (k : ℕ) (a : SigBit) → slice_get (shown (length d.wires) c ∷ []) j ≡ Some x → slice_get (output_of x) k ≡ Some a
      → (e : Item) × IsMoved e (Cell (behind + j)) × DrivesBit d e k a
  drives-shown zero x k a h g =
      let same : x ≡ shown (length d.wires) c = cc in
      let first : behind + 0 ≡ behind = omega arith in
      (Cell i, inl (refl, ap (λ (n : ℕ). Cell n) first), (c, at, subst (λ (y : CellOf). slice_get (output_of y) k ≡ Some a) same g))
  drives-shown (suc j) x k a h g = absurd cc

  drives-from : (f : Item) (k : ℕ) (a : SigBit) → DrivesBit (with_lowered d i c wire) f k a → ((e : Item) × IsMoved e f × DrivesBit d e k a) ⊎ DrivesNew f k a
  drives-from (Connect j) k a h = inl (Connect j, inr (λ e. other-item i j (sym e), refl, λ e. other-item behind j (sym e)), h)
  drives-from (Cell j) k a h =
      elim (get-either (set d.cells i (register (length d.wires) c)) (shown (length d.wires) c ∷ []) j h.0 h.1) as (λ _. ((e : Item) × IsMoved e (Cell j) × DrivesBit d e k a) ⊎ DrivesNew (Cell j) k a) [
        | inl front ↦ elim (get-written d.cells i j (register (length d.wires) c) c h.0 at front) as (λ _. ((e : Item) × IsMoved e (Cell j) × DrivesBit d e k a) ⊎ DrivesNew (Cell j) k a) [
          | inl e ↦
              let bit : slice_get (kept_signal (length d.wires) c) k ≡ Some a =
              ap (λ (s : List SigBit). slice_get s k) (sym register-output) ∙ subst (λ (x : CellOf). slice_get (output_of x) k ≡ Some a) e.1 h.2 in
              let is = wire-bits (length d.wires) 0 (number_at c.parameters Width) k a bit in
              let zero-first : 0 + k ≡ k = omega arith in
              inr (ap (λ (n : ℕ). Cell n) e.0, is.0, is.1 ∙ ap (λ (n : ℕ). Wire (length d.wires) n) zero-first)
          | inr o ↦
              let lt = get-below d.cells j h.0 o.1 in
              inl (Cell j, inr (λ e. o.0 (one-cell j i e), refl, λ e. let same = one-cell j behind e in absurd (omega (arith, lt, same, behind-all))), (h.0, o.1, h.2))
        ]
        | inr q ↦ inl (subst (λ (n : ℕ). (e : Item) × IsMoved e (Cell n) × DrivesBit d e k a) (sym q.1) (drives-shown q.0 h.0 k a q.2 h.2))
      ]

  drives-wired : (e : Item) (k : ℕ) (a : SigBit) → DrivesBit d e k a → IsDeclared d.wires d.free a
  drives-wired (Cell j) k a h = output-wired d wired j k h.0 a h.1 h.2
  drives-wired (Connect j) k a h = All-contains (IsDeclared d.wires d.free) h.0.left a (connect-wired d wired j h.0 h.1).0 (Contains-from_place h.0.left k a h.2)

  not-both : (e f : Item) (k l : ℕ) (a : SigBit) → DrivesBit d e k a → DrivesNew f l a → ⊥
  not-both e f k l a h g =
      no-wire d wired l (subst (λ (b : SigBit). IsDeclared d.wires d.free b) g.2 (drives-wired e k a h))

  new-one : (e f : Item) (k l : ℕ) (a : SigBit) → DrivesNew e k a → DrivesNew f l a → (e ≡ f) × (k ≡ l)
  new-one e f k l a h g = (h.0 ∙ sym g.0, one-bit _ _ _ _ (sym h.2 ∙ g.2))

  input-to : (a : SigBit) → IsInput d a → IsInput (with_lowered d i c wire) a
  input-to (Wire w b) h = (h.0, slice_get-append d.wires (wire ∷ []) w h.0 h.1, h.2)
  input-to (Const b) h = h
  input-to (Free n) h = h

  input-from : (a : SigBit) → IsInput (with_lowered d i c wire) a → IsInput d a
  input-from (Wire w b) h = elim (get-push-either d.wires wire h.0 w h.1) as (λ _. IsInput d (Wire w b)) [
    | inl old ↦ (h.0, old, h.2)
    | inr new ↦
        let yes : wire.input ≡ true = subst (λ (x : WireOf). IsTrue x.input) new.1 h.2 in
        let clash : true ≡ false = sym yes ∙ kept.input in
        absurd cc
  ]
  input-from (Const b) h = h
  input-from (Free n) h = h

  pub unique-from : IsUnique (with_lowered d i c wire) → IsUnique d
  unique-from u = record {
    one = λ e f k l a h g.
        let x = drives-to e k a h in
        let y = drives-to f l a g in
        let same = u.one x.0 y.0 k l a x.2 y.2 in
        (moved-one e f y.0 (subst (λ (z : Item). IsMoved e z) same.0 x.1) y.1, same.1);
    no_input = λ e k a h g. let x = drives-to e k a h in u.no_input x.0 k a x.2 (input-to a g);
    wire = λ e k a h g. let x = drives-to e k a h in u.wire x.0 k a x.2 g;
  }

  pub unique-to : IsUnique d → IsUnique (with_lowered d i c wire)
  unique-to u = record {
    one = λ e f k l a h g. elim (drives-from e k a h) as (λ _. (e ≡ f) × (k ≡ l)) [
      | inl x ↦ elim (drives-from f l a g) as (λ _. (e ≡ f) × (k ≡ l)) [
        | inl y ↦
            let same = u.one x.0 y.0 k l a x.2 y.2 in
            (moved-same y.0 e f (subst (λ (z : Item). IsMoved z e) same.0 x.1) y.1, same.1)
        | inr y ↦ absurd (not-both x.0 f k l a x.2 y)
      ]
      | inr x ↦ elim (drives-from f l a g) as (λ _. (e ≡ f) × (k ≡ l)) [
        | inl y ↦ absurd (not-both y.0 e l k a y.2 x)
        | inr y ↦ new-one e f k l a x y
      ]
    ];
    no_input = λ e k a h g. elim (drives-from e k a h) as (λ _. ⊥) [
      | inl x ↦ u.no_input x.0 k a x.2 (input-from a g)
      | inr x ↦
          let there = input-from (Wire (length d.wires) k) (subst (λ (b : SigBit). IsInput (with_lowered d i c wire) b) x.2 g) in
          let lt = get-below d.wires (length d.wires) there.0 there.1 in
          absurd (omega (arith, lt))
    ];
    wire = λ e k a h g. elim (drives-from e k a h) as (λ _. ⊥) [
      | inl x ↦ u.wire x.0 k a x.2 g
      | inr x ↦ subst (λ (b : SigBit). IsNoWire b) x.2 g
    ];
  }
