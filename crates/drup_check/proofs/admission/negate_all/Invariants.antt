use Rattle.std.proofs.Common.{◌≡◌, map, take}
use Rattle.cnf_form.specs.Cnf.{negate}
use Rattle.drup_check.proofs.admission.negate_all.Given as goal

abbrev pub invariant-loop-l : goal.invariant-loop-l
invariant-loop-l l = l.negated.items ≡ map negate (take l.l-index l.clause)
