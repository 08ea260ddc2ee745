use Rattle.std.proofs.Common.{◌≡◌, ◌+◌, List, length, sym, ◌∙◌, ap, subst}
use Rattle.std.specs.Prelude.{Contains, ◌<◌}
use Rattle.cnf_form.specs.Cnf.{LitOf}
use Rattle.unit_propagation.specs.Propagator.{PropagatorOf, clauses_of, slot_at}
use Rattle.frozen_clauses.specs.Frozen.{FrozenOf}
use Rattle.cdcl_core.specs.Levels.{IsJustified, IsPending, base_of}
use Rattle.cdcl_core.specs.Analysis.{IsLearnt, IsUnmarked}
use Rattle.cdcl_core.specs.Searching.{IsAddable, Moves}
use Rattle.cdcl_core.specs.declared.solver.Solver.{Solver}
use Rattle.cdcl_core.proofs.Steps.{moves_same, moves_both, leads_moves, leads_both, new_both}
use Rattle.cdcl_core.proofs.solver.Solver.learn_from.Goals as goal

pub back_and_thaw-requires-clause-solver : goal.back_and_thaw-requires-clause-solver
back_and_thaw-requires-clause-solver g c =
    let r = c.requires.solver in
    let e = c.in_ok-first.ensures in
    let n = c.in-Some.ensures in
    let s = c.analyze.new.self in
    record {
      frozen = ap (λ (z : FrozenOf). z.vars) (n.same ∙ e.frozen) ∙ r.frozen ∙ sym (ap (λ (p : PropagatorOf). p.vars) e.core);
      unmarked = subst (λ (p : PropagatorOf). IsUnmarked p.vars s.analysis.seen.items s.analysis.lower.items s.analysis.current.items) (sym e.core) e.unmarked;
      justified = subst IsJustified (sym e.core) r.justified;
      pending = subst (λ o. IsPending s.core o) (sym e.pending) (subst (λ p. IsPending p c.args.self.now.pending) (sym e.core) r.pending);
    }

pub returns-in-Some-clause-fits : goal.returns-in-Some-clause-fits
returns-in-Some-clause-fits g c =
    let old = c.args.self.now in
    let e = c.in_ok-first.ensures in
    let n = c.in-Some.ensures in
    let t = c.in_ok-back_and_thaw.ensures in
    let s = c.analyze.new.self in
    let z = c.subset_of.new.self in
    let mid : Solver = record s { frozen = z; learnts = c.use_all.new.self; restarts = c.use_all.new.restarts } in
    let first : Moves old mid = moves_same old mid (ap (λ (p : PropagatorOf). p.vars) e.core) (ap (λ (p : PropagatorOf). p.slots) e.core) (n.same ∙ e.frozen) e.conflicts e.deletions e.ids in
    let all : Moves old c.back_and_thaw.new.self = moves_both old mid c.back_and_thaw.new.self first t.moves in
    let w = n.some in
    let same : z ≡ old.frozen = n.same ∙ e.frozen in
    let at = ap (λ (y : FrozenOf). y.slots) n.same in (
      leads_moves g.L.Log.takes g.L.Log.faults old c.back_and_thaw.new.self c.args.log.now all,
      all.conflicts,
      subst (λ (y : FrozenOf). length (clauses_of c.back_and_thaw.new.self.frozen.slots) < length (clauses_of y.slots)) same (t.fewer w.0 (ap (λ y. slot_at y c.in-Some.frozen) at ∙ w.1)),
    )

pub add-requires-clause-addable : goal.add-requires-clause-addable
add-requires-clause-addable g c =
    let old = c.args.self.now in
    let e = c.in_ok-first.ensures in
    let n = c.in_default.ensures in
    let w = e.learnt in
    let cl = c.analyze.new.self.analysis.clause.items in
    let is : c.clause-clause.result.now ≡ cl = c.clause-clause.ensures in
    let none : (d : List LitOf) → Contains (clauses_of old.frozen.slots) d → ((l : LitOf) → Contains d l → Contains cl l) → ⊥ =
    subst (λ (z : FrozenOf). (d : List LitOf) → Contains (clauses_of z.slots) d → ((l : LitOf) → Contains d l → Contains cl l) → ⊥) e.frozen
    (subst (λ y. (d : List LitOf) → Contains (clauses_of c.analyze.new.self.frozen.slots) d → ((l : LitOf) → Contains d l → Contains y l) → ⊥) is n.none) in
    let a : IsAddable old.core old.frozen cl = record {
      admitted = w.admitted;
      new = new_both (clauses_of old.core.slots) (clauses_of old.frozen.slots) cl e.new none;
      contingent = e.contingent;
      proper = record { within = w.within; short = w.short };
    } in
    subst (λ p. IsAddable p c.subset_of.new.self cl) (sym e.core) (subst (λ z. IsAddable old.core z cl) (sym (n.same ∙ e.frozen)) a)

pub returns-clause-fits : goal.returns-clause-fits
returns-clause-fits g c =
    let old = c.args.self.now in
    let e = c.in_ok-first.ensures in
    let n = c.in_default.ensures in
    let t = c.in_ok-add.ensures in
    let s = c.analyze.new.self in
    let mid : Solver = record s { frozen = c.subset_of.new.self; learnts = c.use_all.new.self; restarts = c.use_all.new.restarts } in
    let first : Moves old mid = moves_same old mid (ap (λ (p : PropagatorOf). p.vars) e.core) (ap (λ (p : PropagatorOf). p.slots) e.core) (n.same ∙ e.frozen) e.conflicts e.deletions e.ids in (
      leads_both g.L.Log.takes g.L.Log.faults old mid c.add.new.self c.args.log.now c.args.log.now c.add.new.log (leads_moves g.L.Log.takes g.L.Log.faults old mid c.args.log.now first) t.leads,
      t.conflicts ∙ ap (λ z. z + 1) e.conflicts,
    )

pub add-requires-clause-placed : goal.add-requires-clause-placed
add-requires-clause-placed g c =
    let e = c.in_ok-first.ensures in
    let cl = c.analyze.new.self.analysis.clause.items in
    let first = c.in_ok-first.first in
    (subst (λ (p : PropagatorOf). 0 < length p.limits) (sym e.core) c.requires.levels, subst (λ p. IsLearnt p (base_of p) cl first) (sym e.core) e.learnt)
