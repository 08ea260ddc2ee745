use Rattle.std.proofs.Common.{◌≡◌, false}
use Rattle.cdcl_core.specs.Levels.{IsJustified}
use Rattle.cdcl_core.proofs.vivify.probe_learnts.Given as goal

abbrev pub invariant-loop : goal.invariant-loop
invariant-loop l = record {
  vars : l.core.vars ≡ l.fn.core.vars;
  slots : l.core.slots ≡ l.fn.core.slots;
  justified : IsJustified l.core;
  conflict : l.core.conflict ≡ false;
}
