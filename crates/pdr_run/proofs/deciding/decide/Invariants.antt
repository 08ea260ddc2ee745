use Rattle.std.proofs.Common.{◌-◌}
use Rattle.pdr_core.specs.Work.{GoesOn, spent}
use Rattle.pdr_run.proofs.deciding.decide.Given as goal

abbrev pub invariant-loop-alloc : goal.invariant-loop-alloc
invariant-loop-alloc l = GoesOn l.fn.work l.work

abbrev pub decreases-loop-alloc : goal.decreases-loop-alloc
decreases-loop-alloc l = l.work.budget - spent l.work
