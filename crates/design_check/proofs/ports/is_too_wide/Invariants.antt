use Rattle.std.proofs.Common.{◌≡◌, ℕ, ◌<◌, Some, length}
use Rattle.std.specs.Prelude.{slice_get}
use Rattle.design_core.specs.declared.parts.Port.{Port}
use Rattle.design_check.proofs.ports.is_too_wide.Given as goal

abbrev pub invariant-loop-port : goal.invariant-loop-port
invariant-loop-port l = (k : ℕ) (p : Port) → k < l.port-index → slice_get l.port-items k ≡ Some p → l.limit < length p.signal → ⊥
