use Rattle.std.proofs.Common.{◌≡◌, [], ap, arith, refl, rules, subst, sym}
use Rattle.std.specs.Prelude.{Contains, None}
use Rattle.std.proofs.lemmas.Result.{err_from_is_err_and}
use Rattle.unit_propagation.specs.Propagator.{PropagatorOf, clauses_of}
use Rattle.cdcl_core.specs.Levels.{IsPending}
use Rattle.cdcl_core.specs.Searching.{IsAddable, IsIndexed, IsPlaced, Moves}
use Rattle.cdcl_core.specs.declared.solver.Solver.{Solver}
use Rattle.cdcl_core.proofs.Resolvents.{indexed_added}
use Rattle.cdcl_core.proofs.Steps.{moves_same, leads_moves, leads_both, grows_moves, solver_unmarked, stops_moves}
use Rattle.cdcl_core.proofs.solver.Solver.add_resolvent.Goals as goal

pub returns-then-not-can_add-clause-grows : goal.returns-then-not-can_add-clause-grows
returns-then-not-can_add-clause-grows g c =
    let s = c.args.self.now in
    let mid : Solver = record s { eliminator = c.stop.new.self } in
    grows_moves g.L.Log.takes g.L.Log.faults c.args.budget s mid c.args.log.now (moves_same s mid refl refl refl refl refl refl) c.requires.in_time

pub returns-then-not-branch-clause-solver : goal.returns-then-not-branch-clause-solver
returns-then-not-branch-clause-solver g c = let e = c.in_ok-take_resolvent.ensures in solver_unmarked c.args.self.now c.take_resolvent.new.self e.core e.frozen e.pending e.unmarked c.requires.solver

pub returns-then-not-branch-clause-indexed : goal.returns-then-not-branch-clause-indexed
returns-then-not-branch-clause-indexed g c = let e = c.in_ok-take_resolvent.ensures in subst (λ p. IsIndexed p c.take_resolvent.new.index) (sym e.core) e.indexed

pub returns-then-not-branch-clause-grows : goal.returns-then-not-branch-clause-grows
returns-then-not-branch-clause-grows g c =
    let s = c.args.self.now in
    let t = c.take_resolvent.new.self in
    let e = c.in_ok-take_resolvent.ensures in
    grows_moves g.L.Log.takes g.L.Log.faults c.args.budget s t c.args.log.now (moves_same s t (ap (λ (p : PropagatorOf). p.vars) e.core) (ap (λ (p : PropagatorOf). p.slots) e.core) e.frozen e.conflicts e.deletions e.ids) c.requires.in_time

pub add-requires-clause-placed : goal.add-requires-clause-placed
add-requires-clause-placed g c =
    let s = c.args.self.now in
    let e = c.in_ok-take_resolvent.ensures in
    let cl = c.take_resolvent.new.self.analysis.clause.items in
    let a : IsAddable s.core s.frozen cl = search rules in
    let level : s.core.limits ≡ [] = search rules in
    let pending : IsPending s.core None = search rules in
    let fits = a.proper in
    subst (λ p. IsPlaced p cl None) (sym e.core) (level, pending, fits.within)

pub add-requires-clause-addable : goal.add-requires-clause-addable
add-requires-clause-addable g c =
    let s = c.args.self.now in
    let e = c.in_ok-take_resolvent.ensures in
    let t = c.take_resolvent.new.self in
    let cl = t.analysis.clause.items in
    let a : IsAddable s.core s.frozen cl = search rules in
    subst (λ p. IsAddable p t.frozen cl) (sym e.core) (subst (λ z. IsAddable s.core z cl) (sym e.frozen) a)

pub returns-in_err-add-clause-stopped : goal.returns-in_err-add-clause-stopped
returns-in_err-add-clause-stopped g c =
    let s = c.args.self.now in
    let t = c.take_resolvent.new.self in
    let a = c.args.log.now in
    let e = c.in_ok-take_resolvent.ensures in
    let u = c.in_err-add.ensures in
    let m : Moves s t = moves_same s t (ap (λ (p : PropagatorOf). p.vars) e.core) (ap (λ (p : PropagatorOf). p.slots) e.core) e.frozen e.conflicts e.deletions e.ids in
    let p = err_from_is_err_and c.from_residual-in_err-add.result c.from_residual-in_err-add.ensures.1 in
    rw (p.1, p.2) (stops_moves g.L.Log.takes g.L.Log.faults g.L.Log.fails s t a c.add.new.log c.in_err-add.field-0.0 m u.stopped)

pub returns-clause-indexed : goal.returns-clause-indexed
returns-clause-indexed g c =
    let t = c.take_resolvent.new.self in
    let e = c.in_ok-take_resolvent.ensures in
    let p = c.in_ok-add.ensures in
    let added : Contains (clauses_of c.take_resolvent.new.index.slots) t.analysis.clause.items = search rules in
    indexed_added t.core c.add.new.self.core c.take_resolvent.new.index t.analysis.clause.items p.vars p.slots added (subst (λ x. IsIndexed x c.take_resolvent.new.index) (sym e.core) e.indexed)

pub returns-clause-grows : goal.returns-clause-grows
returns-clause-grows g c =
    let s = c.args.self.now in
    let t = c.take_resolvent.new.self in
    let a = c.args.log.now in
    let e = c.in_ok-take_resolvent.ensures in
    let p = c.in_ok-add.ensures in
    let m : Moves s t = moves_same s t (ap (λ (p : PropagatorOf). p.vars) e.core) (ap (λ (p : PropagatorOf). p.slots) e.core) e.frozen e.conflicts e.deletions e.ids in
    record {
      leads = leads_both g.L.Log.takes g.L.Log.faults s t c.add.new.self a a c.add.new.log (leads_moves g.L.Log.takes g.L.Log.faults s t a m) p.leads;
      more = omega (arith, p.conflicts, e.conflicts);
      in_time = (let room = c.can_add.ensures.room c.if-not-can_add.false in omega (arith, room, p.conflicts, e.conflicts));
    }
