use Rattle.std.proofs.Common.{◌≡◌, ◌∷◌, [], ◌++◌, refl, set, sym, ap, subst, ◌∙◌}
use Rattle.std.specs.Prelude.{Some, None}
use Rattle.unit_propagation.specs.Propagation.{IsFixpoint}
use Rattle.unit_propagation.specs.Propagator.{PropagatorOf, clauses_of}
use Rattle.unit_propagation.proofs.Slots.{clauses_of-contains}
use Rattle.frozen_clauses.specs.Frozen.{FrozenOf}
use Rattle.cdcl_core.specs.Levels.{IsJustified}
use Rattle.cdcl_core.specs.Analysis.{IsUnmarked}
use Rattle.cdcl_core.specs.declared.solver.Solver.{Solver}
use Rattle.cdcl_core.proofs.Reductions.{deletes_at, justified_less}
use Rattle.cdcl_core.proofs.Steps.{moves_freeze, named_freeze_by, pending_rest}
use Rattle.cdcl_core.proofs.Thawing.{fixpoint_push}
use Rattle.cdcl_core.proofs.solver.Solver.freeze.Goals as goal

pub returns-clause-solver : goal.returns-clause-solver
returns-clause-solver c =
    let s = c.args.self.now in
    let p = s.core in
    let r = c.requires.solver in
    let t = c.requires.rest in
    let cl = c.in-Some.clause.now in
    let f = c.conflict-fixpoint.ensures in
    let e = c.in-Some.ensures in
    let i = c.is_satisfied.ensures in
    let push = c.in_ok-push.ensures in
    let less = deletes_at p.trail p.slots c.args.k cl (f.fixpoint t.conflict) e.there (i.no c.if-is_satisfied.false) in
    record {
      frozen = ap (λ (z : FrozenOf). z.vars) push.ok ∙ r.frozen ∙ sym (ap (λ (x : PropagatorOf). x.vars) c.remove_clause.ensures);
      unmarked = subst (λ (x : PropagatorOf). IsUnmarked x.vars s.analysis.seen.items s.analysis.lower.items s.analysis.current.items) (sym c.remove_clause.ensures) r.unmarked;
      justified = subst IsJustified (sym c.remove_clause.ensures) (justified_less p (set p.slots c.args.k None) cl t.level less r.justified);
      pending = pending_rest p c.remove_clause.new.self s.pending t.conflict (ap (λ (x : PropagatorOf). x.conflict) c.remove_clause.ensures ∙ t.conflict) r.pending;
    }

pub returns-clause-rest : goal.returns-clause-rest
returns-clause-rest c =
    let s = c.args.self.now in
    let p = s.core in
    let z = s.frozen in
    let t = c.requires.rest in
    let cl = c.in-Some.clause.now in
    let f = c.conflict-fixpoint.ensures in
    let e = c.in-Some.ensures in
    let push = c.in_ok-push.ensures in
    let fix = fixpoint_push p.trail z.slots cl t.settled (f.fixpoint t.conflict cl (clauses_of-contains p.slots c.args.k cl e.there)) in
    let slots : c.push.new.self.slots ≡ z.slots ++ Some cl ∷ [] = ap (λ (y : FrozenOf). y.slots) push.ok in
    record {
      level = ap (λ (x : PropagatorOf). x.limits) c.remove_clause.ensures ∙ t.level;
      conflict = ap (λ (x : PropagatorOf). x.conflict) c.remove_clause.ensures ∙ t.conflict;
      settled = subst (λ (y : PropagatorOf). IsFixpoint y.trail (clauses_of c.push.new.self.slots)) (sym c.remove_clause.ensures) (subst (λ y. IsFixpoint p.trail (clauses_of y)) (sym slots) fix);
    }

pub returns-clause-moves : goal.returns-clause-moves
returns-clause-moves c =
    let s = c.args.self.now in
    let e = c.in-Some.ensures in
    let push = c.in_ok-push.ensures in
    let new : Solver = record s { core = c.remove_clause.new.self; frozen = c.push.new.self; ids = c.freeze.new.self } in
    let z = c.in_ok-freeze.ensures in
    moves_freeze s new c.args.k c.in-Some.clause.now e.there (ap (λ (x : PropagatorOf). x.vars) c.remove_clause.ensures) (ap (λ (x : PropagatorOf). x.slots) c.remove_clause.ensures) (ap (λ (y : FrozenOf). y.slots) push.ok) refl refl z.wanted
    (named_freeze_by s new c.args.k c.in-Some.clause.now e.there (ap (λ (x : PropagatorOf). x.slots) c.remove_clause.ensures) (ap (λ (y : FrozenOf). y.slots) push.ok) z.wanted z.last z.named)
