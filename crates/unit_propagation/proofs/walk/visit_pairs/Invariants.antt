use Rattle.std.proofs.Common.{ℕ, ◌<◌, List, get_or, ◌≡◌}
use Rattle.std.specs.Prelude.{Contains, Some}
use Rattle.cnf_form.specs.Cnf.{LitOf, negate}
use Rattle.unit_propagation.specs.declared.watch.Watch.{Watch}
use Rattle.unit_propagation.specs.Propagation.{Propagates}
use Rattle.unit_propagation.specs.Propagator.{slot_at, clauses_of}
use Rattle.unit_propagation.specs.Watch.{slots_of, rows_of, row}
use Rattle.unit_propagation.specs.Visit.{PairFits}
use Rattle.unit_propagation.proofs.walk.visit_pairs.Given as goal

abbrev pub invariant-loop-k : goal.invariant-loop-k
invariant-loop-k l = record {
  vars : l.trail.vars ≡ l.fn.trail.vars;
  step : let slots = slots_of l.store.lits.items l.store.heads.items in
      ((w : Watch) → Contains (row (rows_of l.pairs.vars l.pairs.lists.items) l.fn.falsified) w → PairFits slots l.store.heads.items l.fn.falsified w)
      → Contains l.fn.trail.lits (negate l.fn.falsified) → Propagates (clauses_of slots) l.fn.trail.lits l.trail.lits
      × ((i : ℕ) (d : Watch) (c : List LitOf) → i < l.k → slot_at slots (get_or l.list i d).clause ≡ Some c → Contains l.trail.lits (get_or l.list i d).blocker);
}
