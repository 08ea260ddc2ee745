use Rattle.std.proofs.Common.{◌≡◌, map, take}
use Rattle.cnf_form.specs.Cnf.{negate}
use Rattle.cdcl_core.proofs.learn.negate_trail.Given as goal

abbrev pub invariant-loop-place : goal.invariant-loop-place
invariant-loop-place l = l.clause.items ≡ map negate (take l.place l.core.trail)
