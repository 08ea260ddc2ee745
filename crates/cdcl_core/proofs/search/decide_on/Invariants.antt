use Rattle.std.proofs.Common.{◌≡◌, ◌*◌, ◌+◌, ◌-◌, false, length}
use Rattle.cdcl_core.specs.Levels.{IsJustified}
use Rattle.cdcl_core.proofs.search.decide_on.Given as goal

abbrev pub invariant-loop-l : goal.invariant-loop-l
invariant-loop-l l = record {
  vars : l.core.vars ≡ l.fn.core.vars;
  slots : l.core.slots ≡ l.fn.core.slots;
  justified : IsJustified l.core;
  conflict : l.core.conflict ≡ false;
}

abbrev pub decreases-loop-l : goal.decreases-loop-l
decreases-loop-l l = 2 * l.core.vars + 3 - length l.core.trail
