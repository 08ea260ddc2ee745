use Rattle.std.proofs.Common.{◌≡◌, false}
use Rattle.cdcl_core.specs.Levels.{IsJustified}
use Rattle.cdcl_core.proofs.vivify.decide_each.Given as goal

abbrev pub invariant-loop-l : goal.invariant-loop-l
invariant-loop-l l = record {
  vars : l.core.vars ≡ l.fn.core.vars;
  slots : l.core.slots ≡ l.fn.core.slots;
  justified : IsJustified l.core;
  conflict : l.core.conflict ≡ false;
}
