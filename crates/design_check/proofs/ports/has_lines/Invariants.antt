use Rattle.std.proofs.Common.{◌≡◌, ℕ, ◌<◌, Some}
use Rattle.std.specs.Prelude.{slice_get}
use Rattle.design_core.specs.Asked.{HasPort}
use Rattle.design_core.specs.declared.table.PortLine.{PortLine}
use Rattle.design_check.proofs.ports.has_lines.Given as goal

abbrev pub invariant-loop-line : goal.invariant-loop-line
invariant-loop-line l = (k : ℕ) (x : PortLine) → k < l.line-index → slice_get l.lines k ≡ Some x → HasPort l.cell x
