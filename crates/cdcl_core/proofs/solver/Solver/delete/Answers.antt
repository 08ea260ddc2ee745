use Rattle.std.proofs.Common.{◌+◌, ◌≤◌, rules, refl, set, sym, ap, subst, ◌∙◌}
use Rattle.std.specs.Prelude.{None}
use Rattle.sby_edge.specs.Cause.{Rose}
use Rattle.unit_propagation.specs.Propagation.{IsFixpoint}
use Rattle.unit_propagation.specs.Propagator.{PropagatorOf, clauses_of}
use Rattle.cdcl_core.specs.Levels.{IsJustified}
use Rattle.cdcl_core.specs.Lines.{Drops}
use Rattle.cdcl_core.specs.Analysis.{IsUnmarked}
use Rattle.cdcl_core.specs.declared.solver.Solver.{Solver}
use Rattle.cdcl_core.proofs.Reductions.{deletes_at, justified_less}
use Rattle.cdcl_core.proofs.Steps.{leads_deleted, fails_deleted, pending_rest}
use Rattle.cdcl_core.proofs.Thawing.{fixpoint_both}
use Rattle.cdcl_core.proofs.solver.Solver.delete.Goals as goal

pub returns-then-is_err-clause-stopped : goal.returns-then-is_err-clause-stopped
returns-then-is_err-clause-stopped g c =
    let s = c.args.self.now in
    let p = s.core in
    let t = c.requires.rest in
    let cl = c.in-Some.clause.now in
    let f = c.conflict-fixpoint.ensures in
    let e = c.in-Some.ensures in
    let i = c.is_loose.ensures in
    let id = c.watched-id.result in
    let a = c.args.log.now in
    let b = c.delete.new.self in
    let fix = fixpoint_both p.trail (clauses_of p.slots) (clauses_of s.frozen.slots) (f.fixpoint t.conflict) t.settled in
    let proper = i.proper c.if-not-is_loose.false in
    let broke : g.L.Log.fails a (Drops cl id) b = search rules in
    let rose : Rose (g.L.Log.faults a) (g.L.Log.faults b) = search rules in
    fails_deleted g.L.Log.takes g.L.Log.faults g.L.Log.fails s c.args.k cl id a b e.there fix (i.untrue c.if-not-is_loose.false) proper c.requires.few c.watched-id.ensures (c.is_writable.ensures c.if-not-is_writable.false) broke rose

pub returns-clause-reduces : goal.returns-clause-reduces
returns-clause-reduces g c =
    let s = c.args.self.now in
    let p = s.core in
    let r = c.requires.solver in
    let t = c.requires.rest in
    let cl = c.in-Some.clause.now in
    let f = c.conflict-fixpoint.ensures in
    let e = c.in-Some.ensures in
    let i = c.is_loose.ensures in
    let id = c.watched-id.result in
    let a = c.args.log.now in
    let b = c.delete.new.self in
    let q = c.remove_clause.new.self in
    let o = c.remove_clause.ensures in
    let fix = fixpoint_both p.trail (clauses_of p.slots) (clauses_of s.frozen.slots) (f.fixpoint t.conflict) t.settled in
    let proper = i.proper c.if-not-is_loose.false in
    let taken : g.L.Log.takes a (Drops cl id) b = search rules in
    let later : g.L.Log.faults a ≤ g.L.Log.faults b = search rules in
    let less = deletes_at p.trail p.slots c.args.k cl (f.fixpoint t.conflict) e.there (i.untrue c.if-not-is_loose.false) in
    let new : Solver = record s { core = q; deletions = s.deletions + 1 } in
    record {
      leads = leads_deleted g.L.Log.takes g.L.Log.faults s new c.args.k cl id a b e.there fix (i.untrue c.if-not-is_loose.false) proper c.requires.few c.watched-id.ensures (c.is_writable.ensures c.if-not-is_writable.false) taken later
          (ap (λ (x : PropagatorOf). x.vars) o) (ap (λ (x : PropagatorOf). x.slots) o) refl refl refl refl;
      solver = record {
        frozen = r.frozen ∙ sym (ap (λ (x : PropagatorOf). x.vars) o);
        unmarked = subst (λ (x : PropagatorOf). IsUnmarked x.vars s.analysis.seen.items s.analysis.lower.items s.analysis.current.items) (sym o) r.unmarked;
        justified = subst IsJustified (sym o) (justified_less p (set p.slots c.args.k None) cl t.level less r.justified);
        pending = pending_rest p q s.pending t.conflict (ap (λ (x : PropagatorOf). x.conflict) o ∙ t.conflict) r.pending;
      };
      rest = record {
        level = ap (λ (x : PropagatorOf). x.limits) o ∙ t.level;
        conflict = ap (λ (x : PropagatorOf). x.conflict) o ∙ t.conflict;
        settled = subst (λ (x : PropagatorOf). IsFixpoint x.trail (clauses_of s.frozen.slots)) (sym o) t.settled;
      };
      conflicts = refl;
    }
