use Rattle.std.proofs.Common.{◌≡◌, ℕ, ◌<◌, Some, All}
use Rattle.std.specs.Prelude.{slice_get}
use Rattle.design_core.specs.Shape.{IsDeclared}
use Rattle.design_core.specs.declared.parts.Port.{Port}
use Rattle.design_core.proofs.design.Design.declares_ports.Given as goal

abbrev pub invariant-loop-port : goal.invariant-loop-port
invariant-loop-port l = (k : ℕ) (p : Port) → k < l.port-index → slice_get l.ports k ≡ Some p → All (IsDeclared l.self.wires l.self.free) p.signal
