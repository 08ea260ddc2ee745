-- Registers' bits with two start digits, by the bits that the registers drive.
use Rattle.design_core.specs.Places.{place_of}
use Rattle.design_graph.proofs.Declared.{one-option}
use Rattle.std.proofs.Common.{◌≡◌, ◌↔◌, Option, ℕ, ◌<◌, Bool, true, false, List, Some, ap, sym, subst, ◌∙◌}
use Rattle.std.specs.Prelude.{slice_get}
use Rattle.design_core.specs.Asked.{output_of}
use Rattle.design_core.specs.Shape.{CellOf, DesignOf, IsDeclared}
use Rattle.design_core.specs.Table.{role_of}
use Rattle.design_core.proofs.Lists.{one_at}
use Rattle.design_graph.specs.Starts.{IsRegisterStart, IsStarts}
use Rattle.design_meaning.specs.Meaning.{Chain, IsCell, IsStart, IsRegisterBit, is_register}
use Rattle.design_signals.specs.declared.sig_bit.SigBit.{SigBit}
use Rattle.design_signals.specs.declared.sig_bit.SigBit.TheVariants.{Wire}
use Rattle.design_check.specs.Conflicts.{IsTwice, IsFirstTwice, IsFirstConflict}
use Rattle.design_check.specs.Faults.{IsConflict}

-- a start digit of a register's bit, by the bit
pub start-register : (d : DesignOf) (i k : ℕ) (a : SigBit) (x : Bool) → IsRegisterBit d i k a → IsStart d i k x → IsRegisterStart d a x
start-register d i k a x r s =
    let q = s.4 in
    let c : q.0 ≡ r.0 = one_at d.cells i q.0 r.0 q.1 r.1 in
    let same : s.0 ≡ a = one_at (output_of r.0) k s.0 a (subst (λ (e : CellOf). slice_get (output_of e) k ≡ Some s.0) c q.3) r.3 in
    ((i, k, r), (s.1, s.2, s.3, s.5, subst (λ (b : SigBit). Chain d s.3 (Wire s.1 s.2) b) same s.6))

pub register-start : (d : DesignOf) (i k : ℕ) (a : SigBit) (x : Bool) → IsRegisterBit d i k a → IsRegisterStart d a x → IsStart d i k x
register-start d i k a x r s = let t = s.1 in (a, t.0, t.1, t.2, r, t.3, t.4)

module _ (d : DesignOf) (i : ℕ) (c : CellOf) (at : IsCell d i c) where
  pub conflict-register : (k : ℕ) → IsConflict d i k → is_register (role_of c.kind) ≡ true
  conflict-register k h = let q = h.0.4 in subst (λ (e : CellOf). is_register (role_of e.kind) ≡ true) (one_at d.cells i q.0 c q.1 at) q.2

  pub conflict-twice : (k : ℕ) → IsConflict d i k → IsTwice d (output_of c) k
  conflict-twice k h =
      let q = h.0.4 in
      let bit : slice_get (output_of c) k ≡ Some h.0.0 = subst (λ (e : CellOf). slice_get (output_of e) k ≡ Some h.0.0) (one_at d.cells i q.0 c q.1 at) q.3 in
      let r : IsRegisterBit d i k h.0.0 = (c, at, conflict-register k h, bit) in
      (h.0.0, bit, start-register d i k h.0.0 false r h.0, start-register d i k h.0.0 true r h.1)

  module _ (register : is_register (role_of c.kind) ≡ true) where
    pub twice-conflict : (k : ℕ) → IsTwice d (output_of c) k → IsConflict d i k
    twice-conflict k t =
        let r : IsRegisterBit d i k t.0 = (c, at, register, t.1) in
        (register-start d i k t.0 false r t.2, register-start d i k t.0 true r t.3)

    pub first-conflict : (a : SigBit) → IsFirstTwice d (output_of c) a → ((k l : ℕ) → k < i → IsConflict d k l → ⊥) → IsFirstConflict d i a
    first-conflict a f before = record {
      place = f.0;
      bit = (c, at, register, f.1);
      conflict = twice-conflict f.0 f.2;
      lower = λ l lt h. f.3 l lt (conflict-twice l h);
      before = before;
    }

pub conflict-within : (d : DesignOf) (i k : ℕ) → IsConflict d i k → (c : CellOf) × IsCell d i c
conflict-within d i k h = let q = h.0.4 in (q.0, q.1)

-- what stands at a bit's place is the digit that the bit starts with
pub start-at : (d : DesignOf) (starts : List (Option Bool)) → IsStarts d starts → (a : SigBit) → IsDeclared d.wires d.free a → (r : Option Bool)
    → slice_get starts (place_of d a) ≡ Some r → (x : Bool) → (r ≡ Some x) ↔ IsRegisterStart d a x
start-at d starts s a da r at x = (
  λ h. s.sound a x da (at ∙ ap (λ (o : Option Bool). Some o) h),
  λ h. one-option r (Some x) (sym at ∙ s.complete a x da h),
)

pub register-at : (d : DesignOf) (i k : ℕ) (a : SigBit) (r : Option Bool) (x : Bool) → IsRegisterBit d i k a → (r ≡ Some x) ↔ IsRegisterStart d a x → (r ≡ Some x) ↔ IsStart d i k x
register-at d i k a r x bit both = (λ h. register-start d i k a x bit (both.0 h), λ h. both.1 (start-register d i k a x bit h))
