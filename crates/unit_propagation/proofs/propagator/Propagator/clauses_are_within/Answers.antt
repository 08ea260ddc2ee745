use Rattle.std.proofs.Common.{List, subst}
use Rattle.std.specs.Prelude.{Contains}
use Rattle.cnf_form.specs.Cnf.{LitOf, ClauseWithin}
use Rattle.unit_propagation.specs.Propagator.{PropagatorOf, clauses_of}
use Rattle.unit_propagation.proofs.Slots.{clauses_of-slot}
use Rattle.unit_propagation.proofs.propagator.Propagator.clauses_are_within.Goals as goal

pub returns : goal.returns
returns c =
    let v = c.self.invariant.1 in
    subst (λ (k : PropagatorOf). (d : List LitOf) → Contains (clauses_of k.slots) d → ClauseWithin k.vars d) c.self.view_is (λ d h. let w = clauses_of-slot _ d h in v.within w.0 d w.2)
