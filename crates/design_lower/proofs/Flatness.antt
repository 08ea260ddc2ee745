-- A design is flat exactly where the lowered one is.
use Rattle.std.proofs.Common.{◌≡◌, ◌↔◌, inl, inr, ℕ, zero, suc, ◌+◌, ◌<◌, length, set, Contains, refl, sym, subst, ◌∙◌}
use Rattle.std.proofs.lemmas.Bool.{false≢true}
use Rattle.design_signals.specs.declared.sig_bit.SigBit.{SigBit}
use Rattle.design_signals.specs.declared.sig_bit.SigBit.TheVariants.{Wire, Const, Free}
use Rattle.design_core.specs.Asked.{number_at, output_of}
use Rattle.design_core.specs.Shape.{WireOf, CellOf, DesignOf}
use Rattle.design_core.specs.declared.names.ParameterName.TheVariants.{Width}
use Rattle.design_core.proofs.Lists.{one_at}
use Rattle.design_check.specs.Faults.{Bit, Instance, IsFlat, IsPartFault, IsTooWide, Place, Whole, Wire as WirePlace}
use Rattle.design_check.specs.declared.fault.FaultKind.{FaultKind}
use Rattle.design_check.specs.declared.fault.FaultKind.TheVariants.{UnknownCell, LeftOut, BadParameter, PortWidth, WidthLimit, MixedSign, TwoDrivers, MultiClock, InitConflict, Loop}
use Rattle.design_graph.specs.Edges.{IsWireOnLoop}
use Rattle.design_graph.specs.Items.{IsDrivenOnce}
use Rattle.design_graph.specs.Order.{IsCellOnLoop}
use Rattle.design_graph.specs.declared.item.Item.TheVariants.{Cell}
use Rattle.design_meaning.specs.Meaning.{IsCell}
use Rattle.design_meaning.specs.Rests.{IsOnLoop}
use Rattle.design_lower.specs.Lowering.{FitsReset, IsKeptWire, LowersOne, LowersSome, register, shown, with_lowered}
use Rattle.design_lower.proofs.Alike.{IsWired, cell-wired}
use Rattle.design_lower.proofs.Cells.{lowered-cases, other-there, place-cases, shown-there}
use Rattle.design_lower.proofs.Clocking.{clock-other-from, clock-other-to, conflict-from, conflict-to}
use Rattle.design_lower.proofs.Driven.{IsUnique, once-unique, unique-from, unique-once, unique-to}
use Rattle.design_lower.proofs.Looping.{drives-rest, loop-from, rests-to}
use Rattle.design_lower.proofs.Running.{one-wired}
use Rattle.design_lower.proofs.Sound.{IsSound, register-wide, shown-wide, sound-itself, sound-register, sound-shown, wide-from, wide-shown, wide-to}

-- a sound cell has no fault of its own, but for its width
sound-fault : (x : CellOf) → IsSound x → (k : FaultKind) → (k ≡ WidthLimit → ⊥) → IsPartFault k x → ⊥
sound-fault x s UnknownCell n h = s.known h
sound-fault x s LeftOut n h = s.served h.0 h.1
sound-fault x s BadParameter n h = false≢true (sym h ∙ s.parameters)
sound-fault x s PortWidth n h = h s.ports
sound-fault x s WidthLimit n h = n refl
sound-fault x s MixedSign n h = false≢true (sym s.one_sign ∙ h.0)
sound-fault x s TwoDrivers n h = h
sound-fault x s MultiClock n h = h
sound-fault x s InitConflict n h = h
sound-fault x s Loop n h = h

pub flat-once : (d : DesignOf) → IsFlat d → IsDrivenOnce d
flat-once d flat e k w = flat TwoDrivers (Bit e k) (e, k, refl, w)

-- a bit on a loop is a wire's, where each driven bit is
wire-loop : (d : DesignOf) → IsUnique d → (a : SigBit) → IsOnLoop d a → (w : ℕ) × IsWireOnLoop d w
wire-loop d u (Wire w b) h = (w, (b, h))
wire-loop d u (Const b) h = let first = h.1 in let e = drives-rest d (Const b) first.0 first.1 in absurd (u.wire e.0 e.1 (Const b) e.2 tt)
wire-loop d u (Free n) h = let first = h.1 in let e = drives-rest d (Free n) first.0 first.1 in absurd (u.wire e.0 e.1 (Free n) e.2 tt)

no-loops : (d : DesignOf) → IsFlat d → (a : SigBit) → IsOnLoop d a → ⊥
no-loops d flat a h = let w = wire-loop d (unique-once d (flat-once d flat)) a h in flat Loop (WirePlace w.0) (inr (w.0, refl, w.1))

cell-loop : (d : DesignOf) (i : ℕ) → IsCellOnLoop d i → (a : SigBit) × IsOnLoop d a
cell-loop d i h =
    let drives = h.3 in
    let from = h.4 in
    let same : from.0 ≡ drives.0 = one_at d.cells i from.0 drives.0 from.1 drives.1 in
    (h.0, (h.2, (h.1, inl (i, from.0, from.1, subst (λ (x : CellOf). Contains (output_of x) h.0) (sym same) drives.2, from.2), h.5)))

loop-fault : (d : DesignOf) → ((a : SigBit) → IsOnLoop d a → ⊥) → (p : Place) → Instance d Loop p → ⊥
loop-fault d none p h = elim h as (λ _. ⊥) [
  | inl c ↦ let l = cell-loop d c.0 c.4 in none l.0 l.1
  | inr w ↦ let l = w.2 in none (Wire w.0 l.0) l.1
]

module _ (d : DesignOf) (wired : IsWired d) (i : ℕ) (c : CellOf) (at : IsCell d i c) (fits : FitsReset c) (wire : WireOf) (kept : IsKeptWire d i c wire) where
  -- a fault that a cell of the one has by itself, some cell of the other has
  part-from : (k : FaultKind) (j : ℕ) (x : CellOf) → IsCell (with_lowered d i c wire) j x → IsPartFault k x → (l : ℕ) × (y : CellOf) × IsCell d l y × IsPartFault k y
  part-from k j x there h = elim (lowered-cases d i c at wire j x there) as (λ _. (l : ℕ) × (y : CellOf) × IsCell d l y × IsPartFault k y) [
    | inl e ↦ by k x (subst (λ (y : CellOf). IsSound y) (sym e.1) (sound-register c fits (length d.wires))) (λ w. register-wide c fits (cell-wired d wired i c at).one_port (length d.wires) (subst (λ (y : CellOf). IsTooWide y) e.1 w)) h
    | inr rest ↦ elim rest as (λ _. (l : ℕ) × (y : CellOf) × IsCell d l y × IsPartFault k y) [
      | inl o ↦ (j, x, o.1, h)
      | inr e ↦ by k x (subst (λ (y : CellOf). IsSound y) (sym e) (sound-shown c fits (length d.wires))) (λ w. shown-wide c fits (cell-wired d wired i c at).one_port (length d.wires) (subst (λ (y : CellOf). IsTooWide y) e w)) h
    ]
  ]
    where
      by : (kind : FaultKind) (y : CellOf) → IsSound y → (IsTooWide y → 4096 < number_at c.parameters Width) → IsPartFault kind y → (l : ℕ) × (z : CellOf) × IsCell d l z × IsPartFault kind z
      by WidthLimit y s w g = (i, c, at, wide-to c fits (cell-wired d wired i c at).one_port (w g))
      by UnknownCell y s w g = absurd (sound-fault y s UnknownCell (λ e. absurd cc) g)
      by LeftOut y s w g = absurd (sound-fault y s LeftOut (λ e. absurd cc) g)
      by BadParameter y s w g = absurd (sound-fault y s BadParameter (λ e. absurd cc) g)
      by PortWidth y s w g = absurd (sound-fault y s PortWidth (λ e. absurd cc) g)
      by MixedSign y s w g = absurd (sound-fault y s MixedSign (λ e. absurd cc) g)
      by TwoDrivers y s w g = absurd g
      by MultiClock y s w g = absurd g
      by InitConflict y s w g = absurd g
      by Loop y s w g = absurd g

  part-to : (k : FaultKind) (j : ℕ) (x : CellOf) → IsCell d j x → IsPartFault k x → (l : ℕ) × (y : CellOf) × IsCell (with_lowered d i c wire) l y × IsPartFault k y
  part-to k j x there h = elim (place-cases d i c at wire j x there) as (λ _. (l : ℕ) × (y : CellOf) × IsCell (with_lowered d i c wire) l y × IsPartFault k y) [
    | inl e ↦ by k (subst (λ (y : CellOf). IsPartFault k y) e.1 h)
    | inr n ↦ (j, x, other-there d i c at wire j x there n, h)
  ]
    where
      by : (kind : FaultKind) → IsPartFault kind c → (l : ℕ) × (z : CellOf) × IsCell (with_lowered d i c wire) l z × IsPartFault kind z
      by WidthLimit g = (
        length (set d.cells i (register (length d.wires) c)) + 0,
        shown (length d.wires) c,
        shown-there d i c at wire,
        wide-shown c fits (cell-wired d wired i c at).one_port (length d.wires) (wide-from c fits (cell-wired d wired i c at).one_port g),
      )
      by UnknownCell g = absurd (sound-fault c (sound-itself c fits) UnknownCell (λ e. absurd cc) g)
      by LeftOut g = absurd (sound-fault c (sound-itself c fits) LeftOut (λ e. absurd cc) g)
      by BadParameter g = absurd (sound-fault c (sound-itself c fits) BadParameter (λ e. absurd cc) g)
      by PortWidth g = absurd (sound-fault c (sound-itself c fits) PortWidth (λ e. absurd cc) g)
      by MixedSign g = absurd (sound-fault c (sound-itself c fits) MixedSign (λ e. absurd cc) g)
      by TwoDrivers g = absurd g
      by MultiClock g = absurd g
      by InitConflict g = absurd g
      by Loop g = absurd g

  flat-to : IsFlat d → IsFlat (with_lowered d i c wire)
  flat-to flat UnknownCell p h = let y = part-from UnknownCell h.0 h.1 h.3 h.4 in flat UnknownCell (Whole (Cell y.0)) (y.0, y.1, refl, y.2, y.3)
  flat-to flat LeftOut p h = let y = part-from LeftOut h.0 h.1 h.3 h.4 in flat LeftOut (Whole (Cell y.0)) (y.0, y.1, refl, y.2, y.3)
  flat-to flat BadParameter p h = let y = part-from BadParameter h.0 h.1 h.3 h.4 in flat BadParameter (Whole (Cell y.0)) (y.0, y.1, refl, y.2, y.3)
  flat-to flat PortWidth p (inl h) = let y = part-from PortWidth h.0 h.1 h.3 h.4 in flat PortWidth (Whole (Cell y.0)) (inl (y.0, y.1, refl, y.2, y.3))
  flat-to flat PortWidth p (inr h) = flat PortWidth p (inr h)
  flat-to flat WidthLimit p h = let y = part-from WidthLimit h.0 h.1 h.3 h.4 in flat WidthLimit (Whole (Cell y.0)) (y.0, y.1, refl, y.2, y.3)
  flat-to flat MixedSign p h = let y = part-from MixedSign h.0 h.1 h.3 h.4 in flat MixedSign (Whole (Cell y.0)) (y.0, y.1, refl, y.2, y.3)
  flat-to flat TwoDrivers p h = once-unique (with_lowered d i c wire) (unique-to d wired i c at fits wire kept (unique-once d (flat-once d flat))) h.0 h.1 h.3
  flat-to flat MultiClock p h =
      let x = clock-other-from d wired i c at fits wire kept h.0 h.1 h.3 h.4 in
      flat MultiClock (Whole (Cell h.0)) (h.0, x.0, refl, x.1, x.2)
  flat-to flat InitConflict p h = flat InitConflict (Bit (Cell h.0) h.1) (h.0, h.1, refl, conflict-from d wired i c at fits wire kept h.0 h.1 h.3)
  flat-to flat Loop p h =
      let u = unique-to d wired i c at fits wire kept (unique-once d (flat-once d flat)) in
      loop-fault (with_lowered d i c wire) (λ a l. no-loops d flat a (loop-from d wired i c at fits wire kept u a l)) p h

  flat-from : IsFlat (with_lowered d i c wire) → IsFlat d
  flat-from flat UnknownCell p h = let y = part-to UnknownCell h.0 h.1 h.3 h.4 in flat UnknownCell (Whole (Cell y.0)) (y.0, y.1, refl, y.2, y.3)
  flat-from flat LeftOut p h = let y = part-to LeftOut h.0 h.1 h.3 h.4 in flat LeftOut (Whole (Cell y.0)) (y.0, y.1, refl, y.2, y.3)
  flat-from flat BadParameter p h = let y = part-to BadParameter h.0 h.1 h.3 h.4 in flat BadParameter (Whole (Cell y.0)) (y.0, y.1, refl, y.2, y.3)
  flat-from flat PortWidth p (inl h) = let y = part-to PortWidth h.0 h.1 h.3 h.4 in flat PortWidth (Whole (Cell y.0)) (inl (y.0, y.1, refl, y.2, y.3))
  flat-from flat PortWidth p (inr h) = flat PortWidth p (inr h)
  flat-from flat WidthLimit p h = let y = part-to WidthLimit h.0 h.1 h.3 h.4 in flat WidthLimit (Whole (Cell y.0)) (y.0, y.1, refl, y.2, y.3)
  flat-from flat MixedSign p h = let y = part-to MixedSign h.0 h.1 h.3 h.4 in flat MixedSign (Whole (Cell y.0)) (y.0, y.1, refl, y.2, y.3)
  flat-from flat TwoDrivers p h = once-unique d (unique-from d wired i c at fits wire kept (unique-once (with_lowered d i c wire) (flat-once (with_lowered d i c wire) flat))) h.0 h.1 h.3
  flat-from flat MultiClock p h =
      let x = clock-other-to d wired i c at fits wire kept h.0 h.1 h.3 h.4 in
      flat MultiClock (Whole (Cell h.0)) (h.0, x.0, refl, x.1, x.2)
  flat-from flat InitConflict p h = flat InitConflict (Bit (Cell h.0) h.1) (h.0, h.1, refl, conflict-to d wired i c at fits wire kept h.0 h.1 h.3)
  flat-from flat Loop p h =
      loop-fault d (λ a l. no-loops (with_lowered d i c wire) flat a (l.0, rests-to d wired i c at fits wire (suc l.0) a a l.1)) p h

flat-one : (d m : DesignOf) → IsWired d → LowersOne d m → IsFlat d ↔ IsFlat m
flat-one d m wired s =
    let P : DesignOf → Type 0 = λ x. IsFlat d ↔ IsFlat x in
    subst P (sym s.lowered) (flat-to d wired s.place s.cell s.there s.fits s.wire s.kept, flat-from d wired s.place s.cell s.there s.fits s.wire s.kept)

pub flat-some : (n : ℕ) (d e : DesignOf) → IsWired d → LowersSome n d e → IsFlat d ↔ IsFlat e
flat-some zero d e wired same = (λ h. subst (λ (x : DesignOf). IsFlat x) same h, λ h. subst (λ (x : DesignOf). IsFlat x) (sym same) h)
flat-some (suc n) d e wired steps =
    let one = flat-one d steps.0 wired steps.1 in
    let rest = flat-some n steps.0 e (one-wired d steps.0 wired steps.1) steps.2 in
    (λ h. rest.0 (one.0 h), λ h. one.1 (rest.1 h))
