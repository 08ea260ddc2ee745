use Rattle.std.proofs.Common.{◌≡◌, [], take, map}
use Rattle.std.specs.Prelude.{None, Some}
use Rattle.cdcl_core.specs.Levels.{IsJustified, IsPending}
use Rattle.cdcl_core.proofs.load.add_all.Given as goal

abbrev pub invariant-loop-place : goal.invariant-loop-place
invariant-loop-place l = record {
  vars : l.core.vars ≡ l.formula.vars;
  slots : l.core.slots ≡ map Some (take l.place l.clauses);
  none : l.core.limits ≡ [];
  justified : IsJustified l.core;
  pending : IsPending l.core None;
}
