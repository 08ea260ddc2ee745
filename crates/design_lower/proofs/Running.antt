-- Runs of a lowered design, looked at as runs of the design, and back.
use Rattle.std.proofs.Common.{◌≡◌, inl, inr, ℕ, zero, suc, length, refl, ap, sym, subst, ◌∙◌}
use Rattle.design_signals.specs.declared.sig_bit.SigBit.{SigBit}
use Rattle.design_core.specs.Shape.{WireOf, CellOf, DesignOf, IsDeclared}
use Rattle.design_core.proofs.Designs.{IsDeclared-wire}
use Rattle.design_core.proofs.Lists.{one_at}
use Rattle.design_meaning.specs.Meaning.{Valuation, IsCell, Run, held_row}
use Rattle.design_lower.specs.Lowering.{FitsReset, IsKeptWire, LowersOne, LowersSome, register, with_lowered}
use Rattle.design_lower.specs.Seen.{IsSeen}
use Rattle.design_lower.proofs.Alike.{IsWired}
use Rattle.design_lower.proofs.Beginning.{starts-down, starts-up}
use Rattle.design_lower.proofs.Cells.{other-there, place-cases, register-there}
use Rattle.design_lower.proofs.Made.{IsSeenOnce, follows-down, follows-up, frame-down, frame-up, lowered-held, same-held}
use Rattle.design_lower.proofs.Viewing.{IsWired-lowered, down, made-up, seen-down, seen-up, up}

-- what is in d is in e too: a bit stays declared, and at the place of a cell there is one
pub record IsWithin (d e : DesignOf) : Type 0 where
  pub bits : (b : SigBit) → IsDeclared d.wires d.free b → IsDeclared e.wires e.free b
  pub cells : (j : ℕ) (x : CellOf) → IsCell d j x → (y : CellOf) × IsCell e j y

module _ (d : DesignOf) (wired : IsWired d) (i : ℕ) (c : CellOf) (at : IsCell d i c) (fits : FitsReset c) (wire : WireOf) (kept : IsKeptWire d i c wire) where
  seen-once : (v w : Valuation) → IsSeenOnce d i c v w → IsSeen d (with_lowered d i c wire) v w
  seen-once v w seen = record {
    bits = seen.bits;
    held = λ j z x there now. elim (place-cases d i c at wire j z there) as (λ _. held_row v j z ≡ held_row w j x) [
      | inl e ↦
          let here : IsCell (with_lowered d i c wire) i x = subst (λ (n : ℕ). IsCell (with_lowered d i c wire) n x) e.0 now in
          let same : register (length d.wires) c ≡ x = one_at (with_lowered d i c wire).cells i (register (length d.wires) c) x (register-there d i c at wire) here in
          let held : held_row v i c ≡ held_row w i x = lowered-held d wired i c at fits wire v w seen ∙ ap (λ (y : CellOf). held_row w i y) same in
          subst (λ (n : ℕ). held_row v n z ≡ held_row w n x) (sym e.0) (subst (λ (y : CellOf). held_row v i y ≡ held_row w i x) (sym e.1) held)
      | inr n ↦
          let same : z ≡ x = one_at (with_lowered d i c wire).cells j z x (other-there d i c at wire j z there n) now in
          same-held d wired i c at fits wire v w seen j z there n ∙ ap (λ (y : CellOf). held_row w j y) same
    ];
  }

  run-down : (n : ℕ) (ws : ℕ → Valuation) → Run (with_lowered d i c wire) n ws
      → (vs : ℕ → Valuation) × Run d n vs × ((t : ℕ) → IsSeen d (with_lowered d i c wire) (vs t) (ws t))
  run-down n ws r =
      let seen = λ (t : ℕ). seen-down d wired i c at fits wire (ws t) in (
        λ t. down d wired i c at fits wire (ws t),
        record {
          window = record {
            some = r.window.some;
            frames = λ t lt. frame-down d wired i c at fits wire (down d wired i c at fits wire (ws t)) (ws t) (seen t) (r.window.frames t lt);
            follows = λ t lt.
                follows-down d wired i c at fits wire (down d wired i c at fits wire (ws t)) (ws t) (down d wired i c at fits wire (ws (suc t))) (ws (suc t)) (seen t) (seen (suc t)) (r.window.follows t lt);
          };
          starts = starts-down d wired i c at fits wire kept (down d wired i c at fits wire (ws 0)) (ws 0) (seen 0) r.starts;
        },
        λ t. seen-once (down d wired i c at fits wire (ws t)) (ws t) (seen t),
      )

  run-up : (n : ℕ) (vs : ℕ → Valuation) → Run d n vs
      → (ws : ℕ → Valuation) × Run (with_lowered d i c wire) n ws × ((t : ℕ) → IsSeen d (with_lowered d i c wire) (vs t) (ws t))
  run-up n vs r =
      let seen = λ (t : ℕ). seen-up d wired i c at fits wire (vs t) in (
        λ t. up d wired i c at fits wire (vs t),
        record {
          window = record {
            some = r.window.some;
            frames = λ t lt. frame-up d wired i c at fits wire (vs t) (up d wired i c at fits wire (vs t)) (seen t) (r.window.frames t lt) (made-up d wired i c at fits wire (vs t) (r.window.frames t lt));
            follows = λ t lt.
                follows-up d wired i c at fits wire (vs t) (up d wired i c at fits wire (vs t)) (vs (suc t)) (up d wired i c at fits wire (vs (suc t))) (seen t) (seen (suc t)) (r.window.follows t lt);
          };
          starts = starts-up d wired i c at fits wire kept (vs 0) (up d wired i c at fits wire (vs 0)) (seen 0) r.starts;
        },
        λ t. seen-once (vs t) (up d wired i c at fits wire (vs t)) (seen t),
      )

  within-once : IsWithin d (with_lowered d i c wire)
  within-once = record {
    bits = λ b h. IsDeclared-wire d.wires wire d.free b h;
    cells = λ j x there. elim (place-cases d i c at wire j x there) as (λ _. (y : CellOf) × IsCell (with_lowered d i c wire) j y) [
      | inl e ↦ (register (length d.wires) c, subst (λ (n : ℕ). IsCell (with_lowered d i c wire) n (register (length d.wires) c)) (sym e.0) (register-there d i c at wire))
      | inr n ↦ (x, other-there d i c at wire j x there n)
    ];
  }

-- ---- one cell, and one after the other

module _ (d m : DesignOf) (wired : IsWired d) (s : LowersOne d m) where
  pub one-wired : IsWired m
  one-wired = subst (λ (x : DesignOf). IsWired x) (sym s.lowered) (IsWired-lowered d wired s.place s.cell s.there s.wire s.kept)

  pub one-within : IsWithin d m
  one-within = subst (λ (x : DesignOf). IsWithin d x) (sym s.lowered) (within-once d wired s.place s.cell s.there s.fits s.wire s.kept)

  one-from : (n : ℕ) (ws : ℕ → Valuation) → Run m n ws → (vs : ℕ → Valuation) × Run d n vs × ((t : ℕ) → IsSeen d m (vs t) (ws t))
  one-from =
      let P : DesignOf → Type 0 = λ x. (n : ℕ) (ws : ℕ → Valuation) → Run x n ws → (vs : ℕ → Valuation) × Run d n vs × ((t : ℕ) → IsSeen d x (vs t) (ws t)) in
      subst P (sym s.lowered) (run-down d wired s.place s.cell s.there s.fits s.wire s.kept)

  one-to : (n : ℕ) (vs : ℕ → Valuation) → Run d n vs → (ws : ℕ → Valuation) × Run m n ws × ((t : ℕ) → IsSeen d m (vs t) (ws t))
  one-to =
      let P : DesignOf → Type 0 = λ x. (n : ℕ) (vs : ℕ → Valuation) → Run d n vs → (ws : ℕ → Valuation) × Run x n ws × ((t : ℕ) → IsSeen d x (vs t) (ws t)) in
      subst P (sym s.lowered) (run-up d wired s.place s.cell s.there s.fits s.wire s.kept)

seen-itself : (d : DesignOf) (v : Valuation) → IsSeen d d v v
seen-itself d v = record { bits = λ b h. refl; held = λ i c x at there. ap (λ (y : CellOf). held_row v i y) (one_at d.cells i c x at there) }

seen-through : (d m e : DesignOf) → IsWithin d m → (v u w : Valuation) → IsSeen d m v u → IsSeen m e u w → IsSeen d e v w
seen-through d m e within v u w first rest = record {
  bits = λ b h. first.bits b h ∙ rest.bits b (within.bits b h);
  held = λ i c x at there. let y = within.cells i c at in first.held i c y.0 at y.1 ∙ rest.held i y.0 x y.1 there;
}

pub runs-from : (n : ℕ) (d e : DesignOf) → IsWired d → LowersSome n d e → (k : ℕ) (ws : ℕ → Valuation) → Run e k ws
    → (vs : ℕ → Valuation) × Run d k vs × ((t : ℕ) → IsSeen d e (vs t) (ws t))
runs-from zero d e wired same k ws r = (
  ws,
  subst (λ (x : DesignOf). Run x k ws) (sym same) r,
  λ t. subst (λ (x : DesignOf). IsSeen d x (ws t) (ws t)) same (seen-itself d (ws t)),
)
runs-from (suc n) d e wired steps k ws r =
    let m = steps.0 in
    let rest = runs-from n m e (one-wired d m wired steps.1) steps.2 k ws r in
    let first = one-from d m wired steps.1 k rest.0 rest.1 in
    (first.0, first.1, λ t. seen-through d m e (one-within d m wired steps.1) (first.0 t) (rest.0 t) (ws t) (first.2 t) (rest.2 t))

pub runs-to : (n : ℕ) (d e : DesignOf) → IsWired d → LowersSome n d e → (k : ℕ) (vs : ℕ → Valuation) → Run d k vs
    → (ws : ℕ → Valuation) × Run e k ws × ((t : ℕ) → IsSeen d e (vs t) (ws t))
runs-to zero d e wired same k vs r = (
  vs,
  subst (λ (x : DesignOf). Run x k vs) same r,
  λ t. subst (λ (x : DesignOf). IsSeen d x (vs t) (vs t)) same (seen-itself d (vs t)),
)
runs-to (suc n) d e wired steps k vs r =
    let m = steps.0 in
    let first = one-to d m wired steps.1 k vs r in
    let rest = runs-to n m e (one-wired d m wired steps.1) steps.2 k first.0 first.1 in
    (rest.0, rest.1, λ t. seen-through d m e (one-within d m wired steps.1) (vs t) (first.0 t) (rest.0 t) (first.2 t) (rest.2 t))
