-- The registers of a flat design have no more bits than its wires.
use Rattle.std.proofs.Common.{◌≡◌, ◌⊎◌, inl, inr, ℕ, suc, ◌+◌, ◌<◌, ◌≤◌, ◌^◌, false, List, [], ◌∷◌, ◌++◌, length, get_or, Some, refl, ap, sym, subst, ◌∙◌, arith}
use Rattle.std.specs.Prelude.{slice_get}
use Rattle.std.specs.List.{sum_by}
use Rattle.std.proofs.lemmas.List.{length-append}
use Rattle.std.proofs.lemmas.List.Sums.{sum_by-cons}
use Rattle.std.proofs.lemmas.Option.{slice_get-get_or}
use Rattle.indexmap.proofs.IndexTableLemmas.Probe.{pigeonhole}
use Rattle.design_signals.specs.declared.sig_bit.SigBit.{SigBit}
use Rattle.design_signals.specs.declared.sig_bit.SigBit.TheVariants.{Wire, Const, Free}
use Rattle.design_core.specs.Asked.{output_of}
use Rattle.design_core.specs.Places.{place_of}
use Rattle.design_core.specs.Shape.{CellOf, DesignOf, IsDeclared, IsDesign, wire_bits}
use Rattle.design_core.specs.Table.{role_of}
use Rattle.design_core.specs.declared.table.Role.{Role}
use Rattle.design_core.specs.declared.table.Role.TheVariants.{Combinational, Register, AsyncResetRegister, Constant, Initial, Source, Statement, Unsupported}
use Rattle.design_core.proofs.Places.{place_of-same, place_of-wire}
use Rattle.design_graph.specs.Items.{DrivesBit}
use Rattle.design_graph.specs.declared.item.Item.TheVariants.{Cell}
use Rattle.design_graph.proofs.Driving.{drives-declared}
use Rattle.design_meaning.specs.Meaning.{IsCell}
use Rattle.design_check.specs.Faults.{IsFlat}
use Rattle.design_check.proofs.Asking.{flat-parameters, flat-ports}
use Rattle.design_lower.specs.Lowering.{FitsReset}
use Rattle.design_lower.specs.Room.{AreRegisters, HasRoom}
use Rattle.design_lower.proofs.Driven.{IsUnique, one-cell, unique-once}
use Rattle.design_lower.proofs.Fitting.{has-reset, output-width}
use Rattle.design_lower.proofs.Flatness.{flat-once}
use Rattle.design_lower.proofs.Lists.{get-either}
use Rattle.design_lower.proofs.Rooms.{wide}

is-reset : (r : Role) → (r ≡ AsyncResetRegister) ⊎ (r ≡ AsyncResetRegister → ⊥)
is-reset Combinational = inr (λ e. absurd cc)
is-reset Register = inr (λ e. absurd cc)
is-reset AsyncResetRegister = inl refl
is-reset Constant = inr (λ e. absurd cc)
is-reset Initial = inr (λ e. absurd cc)
is-reset Source = inr (λ e. absurd cc)
is-reset Statement = inr (λ e. absurd cc)
is-reset Unsupported = inr (λ e. absurd cc)

-- where each cell fits or doesn't, there are the registers
registers-of : (cells : List CellOf) → ((k : ℕ) (c : CellOf) → slice_get cells k ≡ Some c → FitsReset c ⊎ (FitsReset c → ⊥)) → (registers : List CellOf) × AreRegisters cells registers
registers-of [] h = ([], refl)
registers-of (c ∷ cells) h =
    let rest = registers-of cells (λ k x at. h (suc k) x at) in
    elim (h 0 c refl) as (λ _. (registers : List CellOf) × AreRegisters (c ∷ cells) registers) [
      | inl fits ↦ (c ∷ rest.0, inr (fits, (rest.0, refl, rest.1)))
      | inr out ↦ (rest.0, inl (out, rest.1))
    ]

-- the bits of registers
abbrev pub bits : List CellOf → List SigBit
bits [] = []
bits (r ∷ rs) = output_of r ++ bits rs

module _ (d : DesignOf) where
  -- these registers are cells of d, one after the other, none before place o
  abbrev pub IsPlaced : List CellOf → ℕ → Type 0
  IsPlaced [] o = Unit {0}
  IsPlaced (r ∷ rs) o = (j : ℕ) × (o ≤ j) × IsCell d j r × FitsReset r × IsPlaced rs (j + 1)

  placed-later : (rs : List CellOf) (o : ℕ) → IsPlaced rs (o + 1) → IsPlaced rs o
  placed-later [] o h = tt
  placed-later (r ∷ rs) o h = let le = h.1 in (h.0, omega (arith, le), h.2, h.3, h.4)

  placed : (cells rs : List CellOf) (o : ℕ) → ((k : ℕ) (c : CellOf) → slice_get cells k ≡ Some c → IsCell d (o + k) c) → AreRegisters cells rs → IsPlaced rs o
  placed [] rs o there h = subst (λ (l : List CellOf). IsPlaced l o) (sym h) tt
  placed (c ∷ cells) rs o there (inl out) = placed-later rs o (placed cells rs (o + 1) (later c cells o there) out.1)
    where
      later : (x : CellOf) (xs : List CellOf) (p : ℕ) → ((k : ℕ) (y : CellOf) → slice_get (x ∷ xs) k ≡ Some y → IsCell d (p + k) y) → (k : ℕ) (y : CellOf) → slice_get xs k ≡ Some y → IsCell d ((p + 1) + k) y
      later x xs p h k y at = let e : p + suc k ≡ (p + 1) + k = omega arith in subst (λ (n : ℕ). IsCell d n y) e (h (suc k) y at)
  placed (c ∷ cells) rs o there (inr fit) =
      let e : o + 0 ≡ o = omega arith in
      let first : IsCell d o c = subst (λ (n : ℕ). IsCell d n c) e (there 0 c refl) in
      subst (λ (l : List CellOf). IsPlaced l o) (sym fit.1.1) (o, omega arith, first, fit.0, placed cells fit.1.0 (o + 1) (later c cells o there) fit.1.2)
    where
      later : (x : CellOf) (xs : List CellOf) (p : ℕ) → ((k : ℕ) (y : CellOf) → slice_get (x ∷ xs) k ≡ Some y → IsCell d (p + k) y) → (k : ℕ) (y : CellOf) → slice_get xs k ≡ Some y → IsCell d ((p + 1) + k) y
      later x xs p h k y at = let f : p + suc k ≡ (p + 1) + k = omega arith in subst (λ (n : ℕ). IsCell d n y) f (h (suc k) y at)

  -- each bit is driven by such a cell
  owner : (rs : List CellOf) (o k : ℕ) (a : SigBit) → IsPlaced rs o → slice_get (bits rs) k ≡ Some a → (j : ℕ) × (l : ℕ) × (o ≤ j) × DrivesBit d (Cell j) l a
  owner [] o k a h at = absurd cc
  owner (r ∷ rs) o k a h at = elim (get-either (output_of r) (bits rs) k a at) as (λ _. (j : ℕ) × (l : ℕ) × (o ≤ j) × DrivesBit d (Cell j) l a) [
    | inl front ↦ (h.0, k, h.1, (r, h.2, front))
    | inr rest ↦
        let w = owner rs (h.0 + 1) rest.0 a h.4 rest.2 in
        let le = h.1 in
        let more = w.2 in
        (w.0, w.1, omega (arith, le, more), w.3)
  ]

  count : (rs : List CellOf) (o : ℕ) → IsPlaced rs o → (length (bits rs) ≡ sum_by wide rs) × (length rs ≤ sum_by wide rs)
  count [] o h = (refl, omega arith)
  count (r ∷ rs) o h =
      let rest = count rs (h.0 + 1) h.4 in
      let long = length-append (output_of r) (bits rs) in
      let one = output-width r h.3 in
      let sum = sum_by-cons wide r rs in
      let some = (has-reset r h.3).some in
      let same = rest.0 in
      let few = rest.1 in
      (omega (arith, long, one, sum, same), omega (arith, some, sum, few))

  module _ (unique : IsUnique d) where
    -- no bit stands there twice
    distinct : (rs : List CellOf) (o : ℕ) → IsPlaced rs o → (i k : ℕ) (a : SigBit) → slice_get (bits rs) i ≡ Some a → slice_get (bits rs) k ≡ Some a → i ≡ k
    distinct [] o h i k a at there = absurd cc
    distinct (r ∷ rs) o h i k a at there = elim (get-either (output_of r) (bits rs) i a at) as (λ _. i ≡ k) [
      | inl front ↦ elim (get-either (output_of r) (bits rs) k a there) as (λ _. i ≡ k) [
        | inl first ↦ (unique.one (Cell h.0) (Cell h.0) i k a (r, h.2, front) (r, h.2, first)).1
        | inr rest ↦ absurd (apart i rest.0 front rest.2)
      ]
      | inr behind ↦ elim (get-either (output_of r) (bits rs) k a there) as (λ _. i ≡ k) [
        | inl first ↦ absurd (apart k behind.0 first behind.2)
        | inr rest ↦
            let same = distinct rs (h.0 + 1) h.4 behind.0 rest.0 a behind.2 rest.2 in
            let p = behind.1 in
            let q = rest.1 in
            omega (arith, same, p, q)
      ]
    ]
      where
        apart : (m n : ℕ) → slice_get (output_of r) m ≡ Some a → slice_get (bits rs) n ≡ Some a → ⊥
        apart m n front rest =
            let w = owner rs (h.0 + 1) n a h.4 rest in
            let same = one-cell h.0 w.0 (unique.one (Cell h.0) (Cell w.0) m w.1 a (r, h.2, front) w.3).0 in
            let more = w.2 in
            absurd (omega (arith, same, more))

    module _ (shape : IsDesign d) (rs : List CellOf) (here : IsPlaced rs 0) where
      bit-at : (k : ℕ) → k < length (bits rs) → slice_get (bits rs) k ≡ Some (get_or (bits rs) k (Const false))
      bit-at k lt = slice_get-get_or (bits rs) k (Const false) lt

      bit-declared : (k : ℕ) (a : SigBit) → slice_get (bits rs) k ≡ Some a → IsDeclared d.wires d.free a
      bit-declared k a at = let w = owner rs 0 k a here at in drives-declared d shape (Cell w.0) w.1 a w.3

      abbrev pub place : ℕ → ℕ
      place k = place_of d (get_or (bits rs) k (Const false))

      wire-place : (e : ℕ) (l : ℕ) (a : SigBit) → DrivesBit d (Cell e) l a → IsDeclared d.wires d.free a → place_of d a < wire_bits d
      wire-place e l (Wire w b) drives declared = place_of-wire d w b declared
      wire-place e l (Const b) drives declared = absurd (unique.wire (Cell e) l (Const b) drives tt)
      wire-place e l (Free n) drives declared = absurd (unique.wire (Cell e) l (Free n) drives tt)

      into : (k : ℕ) → k < length (bits rs) → place k < wire_bits d
      into k lt =
          let a : SigBit = get_or (bits rs) k (Const false) in
          let w = owner rs 0 k a here (bit-at k lt) in
          wire-place w.0 w.1 a w.3 (bit-declared k a (bit-at k lt))

      one : (i k : ℕ) → i < length (bits rs) → k < length (bits rs) → place i ≡ place k → i ≡ k
      one i k hi hk e =
          let a : SigBit = get_or (bits rs) i (Const false) in
          let b : SigBit = get_or (bits rs) k (Const false) in
          let same : get_or (bits rs) i (Const false) ≡ get_or (bits rs) k (Const false) = place_of-same d a b (bit-declared i a (bit-at i hi)) (bit-declared k b (bit-at k hk)) e in
          distinct rs 0 here i k a (bit-at i hi) (bit-at k hk ∙ ap (λ (x : SigBit). Some x) (sym same))

      few : sum_by wide rs ≤ wire_bits d
      few = let most = pigeonhole (length (bits rs)) (wire_bits d) place into one in let n = (count rs 0 here).0 in omega (arith, most, n)

-- a flat design that is half as large as a design may be has room
pub flat-room : (d : DesignOf) → IsDesign d → IsFlat d → wire_bits d + d.free + wire_bits d ≤ 2 ^ 21 → length d.cells + wire_bits d ≤ 2 ^ 27 → HasRoom d
flat-room d shape flat half cells =
    let rs = registers-of d.cells (λ i c at. elim (is-reset (role_of c.kind)) as (λ _. FitsReset c ⊎ (FitsReset c → ⊥)) [
      | inl role ↦ inl (record { role = role; parameters = flat-parameters d flat i c at; ports = flat-ports d flat i c at })
      | inr out ↦ inr (λ f. out f.role)
    ]) in
    let here = placed d d.cells rs.0 0 (λ k c at. let e : k ≡ 0 + k = omega arith in subst (λ (n : ℕ). IsCell d n c) e at) rs.1 in
    let most = few d (unique-once d (flat-once d flat)) shape rs.0 here in
    let count = (count d rs.0 0 here).1 in
    record { registers = rs.0; each = rs.1; bits = omega (arith, most, half); cells = omega (arith, most, count, cells) }
