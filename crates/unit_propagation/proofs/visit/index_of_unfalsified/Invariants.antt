use Rattle.std.proofs.Common.{List, take}
use Rattle.cnf_form.specs.Cnf.{LitOf}
use Rattle.unit_propagation.specs.Marks.{Shows}
use Rattle.unit_propagation.specs.Propagation.{IsFalsifiedBut}
use Rattle.unit_propagation.proofs.visit.index_of_unfalsified.Given as goal

abbrev pub invariant-loop-k : goal.invariant-loop-k
invariant-loop-k l = (t : List LitOf) → Shows l.marks t → IsFalsifiedBut t (take l.k l.clause) l.other
