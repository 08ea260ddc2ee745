use Rattle.std.proofs.Common.{◌≡◌, ◌++◌, drop}
use Rattle.design_meaning.specs.Runs.{shown_of}
use Rattle.design_trace.specs.Trace.{cycles_from, trace}
use Rattle.design_trace.proofs.writing.text.Given as goal

abbrev pub invariant-loop-cycle : goal.invariant-loop-cycle
invariant-loop-cycle l = (l.number ≡ l.cycle-index)
    × (l.text.items ++ cycles_from l.fn.flat l.cycle-index (shown_of (drop l.cycle-index l.fn.run)) ≡ trace l.fn.flat (shown_of l.fn.run))
