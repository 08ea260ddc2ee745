-- A register's start digits, as the ends of chains.
use Rattle.std.proofs.Common.{◌≡◌, ◌↔◌, ℕ, Bool, Some, ap, subst}
use Rattle.std.specs.Prelude.{slice_get}
use Rattle.design_core.specs.Asked.{output_of}
use Rattle.design_core.specs.Shape.{CellOf, DesignOf}
use Rattle.design_core.proofs.Lists.{one_at}
use Rattle.design_meaning.specs.Meaning.{IsCell, IsStart, is_register}
use Rattle.design_signals.specs.declared.sig_bit.SigBit.{SigBit}
use Rattle.design_lower.specs.Lowering.{FitsReset}
use Rattle.design_lower.specs.Progress.{IsDigitEnd}

pub start-ends : (d : DesignOf) (i : ℕ) (c : CellOf) → IsCell d i c → FitsReset c → (k : ℕ) (x : Bool) → ((a : SigBit) × (slice_get (output_of c) k ≡ Some a) × IsDigitEnd d x a) ↔ IsStart d i k x
start-ends d i c at fits k x = (
  λ h. let e = h.2 in (h.0, e.0, e.1, e.2, (c, at, ap is_register fits.role, h.1), e.3, e.4),
  λ s.
      let b = s.4 in
      let same : b.0 ≡ c = one_at d.cells i b.0 c b.1 at in
      (s.0, subst (λ (y : CellOf). slice_get (output_of y) k ≡ Some s.0) same b.3, (s.1, s.2, s.3, s.5, s.6)),
)
