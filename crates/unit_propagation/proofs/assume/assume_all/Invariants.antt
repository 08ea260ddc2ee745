use Rattle.std.proofs.Common.{ℕ, ◌≡◌, ◌<◌, get_or}
use Rattle.std.specs.Prelude.{Contains}
use Rattle.cnf_form.specs.Cnf.{LitOf}
use Rattle.unit_propagation.specs.Propagator.{Assumes}
use Rattle.unit_propagation.proofs.assume.assume_all.Given as goal

abbrev pub invariant-loop-l : goal.invariant-loop-l
invariant-loop-l l = record {
  vars : l.trail.vars ≡ l.fn.trail.vars;
  assumes : Assumes l.lits l.fn.trail.lits l.trail.lits;
  front : (i : ℕ) (d : LitOf) → i < l.l-index → Contains l.trail.lits (get_or l.lits i d);
}
