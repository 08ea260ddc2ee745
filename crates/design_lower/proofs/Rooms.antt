-- Room for a lowered design: what one register takes of it, and what is left for those that follow.
use Rattle.std.proofs.Common.{◌≡◌, ◌↔◌, inl, inr, ℕ, zero, suc, ◌+◌, ◌<◌, ◌≤◌, ◌^◌, List, [], ◌∷◌, ◌++◌, length, set, Some, All, refl, ap, sym, subst, ◌∙◌, arith}
use Rattle.std.specs.Prelude.{slice_get}
use Rattle.std.specs.List.{sum_by}
use Rattle.std.proofs.lemmas.List.{length-set, length_push}
use Rattle.std.proofs.lemmas.List.Elements.{All-head, All-push, All-tail}
use Rattle.std.proofs.lemmas.List.Sums.{sum_by-append, sum_by-cons}
use Rattle.design_core.specs.Asked.{number_at}
use Rattle.design_core.specs.Shape.{WireOf, CellOf, DesignOf, IsDesign, IsFileOrder, IsWire, wire_bits}
use Rattle.design_core.specs.declared.names.ParameterName.TheVariants.{Width}
use Rattle.design_core.specs.declared.table.Role.TheVariants.{Combinational, Register, AsyncResetRegister}
use Rattle.design_core.proofs.Designs.{order-cell}
use Rattle.design_meaning.specs.Meaning.{IsCell}
use Rattle.design_lower.specs.Lowering.{FitsReset, IsLow, LowersOne, LowersSome, register, shown, with_lowered}
use Rattle.design_lower.specs.Room.{AreRegisters, HasRoom}
use Rattle.design_lower.proofs.Alike.{IsWired, IsWired-design}
use Rattle.design_lower.proofs.Made.{no-register}
use Rattle.design_lower.proofs.Midway.{steps-wired}
use Rattle.design_lower.proofs.Running.{one-wired}

abbrev pub wide : CellOf → ℕ
wide c = number_at c.parameters Width

-- ---- the registers among cells

-- these registers are the others and one of c's width
pub record IsOneMore (c : CellOf) (registers rest : List CellOf) : Type 0 where
  pub bits : sum_by wide registers ≡ wide c + sum_by wide rest
  pub count : length registers ≡ suc (length rest)

one-more : (c : CellOf) (rest : List CellOf) → IsOneMore c (c ∷ rest) rest
one-more c rest = record { bits = sum_by-cons wide c rest; count = refl }

pass-more : (c x : CellOf) (registers rest : List CellOf) → IsOneMore c registers rest → IsOneMore c (x ∷ registers) (x ∷ rest)
pass-more c x registers rest h = record {
  bits = let a = sum_by-cons wide x registers in let b = sum_by-cons wide x rest in omega (arith, a, b, h.bits);
  count = ap suc h.count;
}

-- a cell that fits gives way to one that doesn't
pub registers-set : (cells registers : List CellOf) (i : ℕ) (c r : CellOf) → slice_get cells i ≡ Some c → FitsReset c → (FitsReset r → ⊥) → AreRegisters cells registers
    → (rest : List CellOf) × AreRegisters (set cells i r) rest × IsOneMore c registers rest
registers-set [] registers i c r at fits unfit h = cc
registers-set (x ∷ cells) registers zero c r at fits unfit h =
    let same : x ≡ c = cc in
    elim h as (λ _. (rest : List CellOf) × AreRegisters (r ∷ cells) rest × IsOneMore c registers rest) [
      | inl out ↦ absurd (out.0 (subst (λ (y : CellOf). FitsReset y) (sym same) fits))
      | inr fit ↦
          let is : registers ≡ c ∷ fit.1.0 = fit.1.1 ∙ ap (λ (y : CellOf). y ∷ fit.1.0) same in
          (fit.1.0, inl (unfit, fit.1.2), subst (λ (l : List CellOf). IsOneMore c l fit.1.0) (sym is) (one-more c fit.1.0))
    ]
registers-set (x ∷ cells) registers (suc i) c r at fits unfit h = elim h as (λ _. (rest : List CellOf) × AreRegisters (x ∷ set cells i r) rest × IsOneMore c registers rest) [
  | inl out ↦ let k = registers-set cells registers i c r at fits unfit out.1 in (k.0, inl (out.0, k.1), k.2)
  | inr fit ↦
      let k = registers-set cells fit.1.0 i c r at fits unfit fit.1.2 in
      (x ∷ k.0, inr (fit.0, (k.0, refl, k.1)), subst (λ (l : List CellOf). IsOneMore c l (x ∷ k.0)) (sym fit.1.1) (pass-more c x fit.1.0 k.0 k.2))
]

pub registers-unset : (cells rest : List CellOf) (i : ℕ) (c r : CellOf) → slice_get cells i ≡ Some c → FitsReset c → (FitsReset r → ⊥) → AreRegisters (set cells i r) rest
    → (registers : List CellOf) × AreRegisters cells registers × IsOneMore c registers rest
registers-unset [] rest i c r at fits unfit h = cc
registers-unset (x ∷ cells) rest zero c r at fits unfit h =
    let same : x ≡ c = cc in
    elim h as (λ _. (registers : List CellOf) × AreRegisters (x ∷ cells) registers × IsOneMore c registers rest) [
      | inl out ↦ (c ∷ rest, inr (subst (λ (y : CellOf). FitsReset y) (sym same) fits, (rest, ap (λ (y : CellOf). y ∷ rest) (sym same), out.1)), one-more c rest)
      | inr fit ↦ absurd (unfit fit.0)
    ]
registers-unset (x ∷ cells) rest (suc i) c r at fits unfit h = elim h as (λ _. (registers : List CellOf) × AreRegisters (x ∷ cells) registers × IsOneMore c registers rest) [
  | inl out ↦ let k = registers-unset cells rest i c r at fits unfit out.1 in (k.0, inl (out.0, k.1), k.2)
  | inr fit ↦
      let k = registers-unset cells fit.1.0 i c r at fits unfit fit.1.2 in
      (x ∷ k.0, inr (fit.0, (k.0, refl, k.1)), subst (λ (l : List CellOf). IsOneMore c (x ∷ k.0) l) (sym fit.1.1) (pass-more c x k.0 fit.1.0 k.2))
]

-- a cell after the others that doesn't fit
pub registers-push : (cells registers : List CellOf) (x : CellOf) → (FitsReset x → ⊥) → AreRegisters cells registers → AreRegisters (cells ++ x ∷ []) registers
registers-push [] registers x unfit h = inl (unfit, h)
registers-push (y ∷ cells) registers x unfit (inl out) = inl (out.0, registers-push cells registers x unfit out.1)
registers-push (y ∷ cells) registers x unfit (inr fit) = inr (fit.0, (fit.1.0, fit.1.1, registers-push cells fit.1.0 x unfit fit.1.2))

pub registers-unpush : (cells registers : List CellOf) (x : CellOf) → (FitsReset x → ⊥) → AreRegisters (cells ++ x ∷ []) registers → AreRegisters cells registers
registers-unpush [] registers x unfit (inl out) = out.1
registers-unpush [] registers x unfit (inr fit) = absurd (unfit fit.0)
registers-unpush (y ∷ cells) registers x unfit (inl out) = inl (out.0, registers-unpush cells registers x unfit out.1)
registers-unpush (y ∷ cells) registers x unfit (inr fit) = inr (fit.0, (fit.1.0, fit.1.1, registers-unpush cells fit.1.0 x unfit fit.1.2))

-- where none fits there are none
pub registers-none : (cells : List CellOf) → ((i : ℕ) (c : CellOf) → slice_get cells i ≡ Some c → FitsReset c → ⊥) → AreRegisters cells []
registers-none [] none = refl
registers-none (x ∷ cells) none = inl (none 0 x refl, registers-none cells (λ i c at f. none (suc i) c at f))

-- one that fits is among them
pub registers-have : (cells registers : List CellOf) (i : ℕ) (c : CellOf) → slice_get cells i ≡ Some c → FitsReset c → AreRegisters cells registers
    → (wide c ≤ sum_by wide registers) × (0 < length registers)
registers-have [] registers i c at fits h = cc
registers-have (x ∷ cells) registers zero c at fits h =
    let same : x ≡ c = cc in
    elim h as (λ _. (wide c ≤ sum_by wide registers) × (0 < length registers)) [
      | inl out ↦ absurd (out.0 (subst (λ (y : CellOf). FitsReset y) (sym same) fits))
      | inr fit ↦
          let bits : sum_by wide registers ≡ wide x + sum_by wide fit.1.0 = ap (λ (l : List CellOf). sum_by wide l) fit.1.1 ∙ sum_by-cons wide x fit.1.0 in
          let count : length registers ≡ suc (length fit.1.0) = ap (λ (l : List CellOf). length l) fit.1.1 in
          let one : wide x ≡ wide c = ap wide same in
          (omega (arith, bits, one), omega (arith, count))
    ]
registers-have (x ∷ cells) registers (suc i) c at fits h = elim h as (λ _. (wide c ≤ sum_by wide registers) × (0 < length registers)) [
  | inl out ↦ registers-have cells registers i c at fits out.1
  | inr fit ↦
      let k = registers-have cells fit.1.0 i c at fits fit.1.2 in
      let bits : sum_by wide registers ≡ wide x + sum_by wide fit.1.0 = ap (λ (l : List CellOf). sum_by wide l) fit.1.1 ∙ sum_by-cons wide x fit.1.0 in
      let count : length registers ≡ suc (length fit.1.0) = ap (λ (l : List CellOf). length l) fit.1.1 in
      (let most = k.0 in omega (arith, bits, most), omega (arith, count))
]

-- ---- one cell, and one after the other

module _ (d : DesignOf) (wired : IsWired d) (i : ℕ) (c : CellOf) (at : IsCell d i c) (fits : FitsReset c) (wire : WireOf) (width : wire.width ≡ number_at c.parameters Width) where
  unfit-register : FitsReset (register (length d.wires) c) → ⊥
  unfit-register f = let clash : AsyncResetRegister ≡ Register = sym f.role ∙ no-register d wired i c at fits wire in absurd cc

  unfit-shown : FitsReset (shown (length d.wires) c) → ⊥
  unfit-shown f = let clash : AsyncResetRegister ≡ Combinational = sym f.role in absurd cc

  more-bits : wire_bits (with_lowered d i c wire) ≡ wire_bits d + wide c
  more-bits =
      let sum = sum_by-append (λ (w : WireOf). w.width) d.wires (wire ∷ []) in
      let last = sum_by-cons (λ (w : WireOf). w.width) wire [] in
      omega (arith, sum, last, width)

  more-cells : length (with_lowered d i c wire).cells ≡ length d.cells + 1
  more-cells =
      let push = length_push (set d.cells i (register (length d.wires) c)) (shown (length d.wires) c) in
      let same = length-set d.cells i (register (length d.wires) c) in
      omega (arith, push, same)

  pub room-to : HasRoom d → HasRoom (with_lowered d i c wire)
  room-to h =
      let k = registers-set d.cells h.registers i c (register (length d.wires) c) at fits unfit-register h.each in
      let one = k.2 in
      record {
        registers = k.0;
        each = registers-push (set d.cells i (register (length d.wires) c)) k.0 (shown (length d.wires) c) unfit-shown k.1;
        bits = omega (arith, h.bits, one.bits, more-bits);
        cells = omega (arith, h.cells, one.count, more-cells);
      }

  pub room-from : HasRoom (with_lowered d i c wire) → HasRoom d
  room-from h =
      let k = registers-unset d.cells h.registers i c (register (length d.wires) c) at fits unfit-register
      (registers-unpush (set d.cells i (register (length d.wires) c)) h.registers (shown (length d.wires) c) unfit-shown h.each) in
      let one = k.2 in
      record {
        registers = k.0;
        each = k.1;
        bits = omega (arith, h.bits, one.bits, more-bits);
        cells = omega (arith, h.cells, one.count, more-cells);
      }

room-one : (d m : DesignOf) → IsWired d → LowersOne d m → HasRoom d ↔ HasRoom m
room-one d m wired s =
    let P : DesignOf → Type 0 = λ x. HasRoom d ↔ HasRoom x in
    subst P (sym s.lowered) (room-to d wired s.place s.cell s.there s.fits s.wire s.kept.width, room-from d wired s.place s.cell s.there s.fits s.wire s.kept.width)

pub room-some : (n : ℕ) (d e : DesignOf) → IsWired d → LowersSome n d e → HasRoom d ↔ HasRoom e
room-some zero d e wired same = (λ h. subst (λ (x : DesignOf). HasRoom x) same h, λ h. subst (λ (x : DesignOf). HasRoom x) (sym same) h)
room-some (suc n) d e wired steps =
    let one = room-one d steps.0 wired steps.1 in
    let rest = room-some n steps.0 e (one-wired d steps.0 wired steps.1) steps.2 in
    (λ h. rest.0 (one.0 h), λ h. one.1 (rest.1 h))

-- ---- the lowered design is a design

-- each wire has a bit
pub few-wires : (ws : List WireOf) → All IsWire ws → length ws ≤ sum_by (λ (w : WireOf). w.width) ws
few-wires [] h = omega arith
few-wires (w ∷ ws) h =
    let some = (All-head IsWire w ws h).0 in
    let rest = few-wires ws (All-tail IsWire w ws h) in
    omega (arith, sum_by-cons (λ (w : WireOf). w.width) w ws)

-- what holds of a design, but for the number of its bits and cells
pub record IsOrdered (d : DesignOf) : Type 0 where
  pub wires : All IsWire d.wires
  pub order : IsFileOrder (length d.cells) d.connects
  pub few_connects : length d.connects ≤ 2 ^ 26

ordered-one : (d m : DesignOf) → IsWired d → LowersOne d m → IsOrdered d → IsOrdered m
ordered-one d m wired s h =
    let more = more-cells d wired s.place s.cell s.there s.fits s.wire s.kept.width in
    subst (λ (x : DesignOf). IsOrdered x) (sym s.lowered) (record {
      wires = All-push IsWire d.wires s.wire h.wires s.kept.wire;
      order = order-cell (length d.cells) (length (with_lowered d s.place s.cell s.wire).cells) d.connects (omega (arith, more)) h.order;
      few_connects = h.few_connects;
    })

pub ordered-some : (n : ℕ) (d e : DesignOf) → IsWired d → LowersSome n d e → IsOrdered d → IsOrdered e
ordered-some zero d e wired same h = subst (λ (x : DesignOf). IsOrdered x) same h
ordered-some (suc n) d e wired steps h = ordered-some n steps.0 e (one-wired d steps.0 wired steps.1) steps.2 (ordered-one d steps.0 wired steps.1 h)

module _ (n : ℕ) (d e : DesignOf) (shape : IsDesign d) (steps : LowersSome n d e) (low : IsLow e) where
  pub room-design : HasRoom d → IsDesign e
  room-design h =
      let wired = steps-wired n d e (IsWired-design d shape) steps in
      let ordered = ordered-some n d e (IsWired-design d shape) steps (record { wires = shape.wires; order = shape.order; few_connects = shape.few_connects }) in
      let room = (room-some n d e (IsWired-design d shape) steps).0 h in
      record {
        wires = ordered.wires;
        cells = wired.cells;
        connects = wired.connects;
        order = ordered.order;
        bits = omega (arith, room.bits);
        few_cells = omega (arith, room.cells);
        few_connects = ordered.few_connects;
      }

  pub design-room : IsDesign e → HasRoom d
  design-room h = (room-some n d e (IsWired-design d shape) steps).1 (record {
    registers = [];
    each = registers-none e.cells (λ i c at f. low i c at f);
    bits = omega (arith, h.bits);
    cells = omega (arith, h.few_cells);
  })
