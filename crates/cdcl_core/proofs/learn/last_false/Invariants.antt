use Rattle.std.proofs.Common.{take, ◌≤◌}
use Rattle.std.specs.Prelude.{Contains, IfSome}
use Rattle.cnf_form.specs.Cnf.{negate}
use Rattle.cdcl_core.specs.Analysis.{IsLastOf}
use Rattle.cdcl_core.proofs.learn.last_false.Given as goal

abbrev pub invariant-loop-m : goal.invariant-loop-m
invariant-loop-m l = record {
  last : IfSome l.last (λ s. (s.var ≤ l.core.vars) × Contains l.core.trail (negate s));
  is : IsLastOf l.core.trail l.first (take l.m-index l.clause) l.last;
}
