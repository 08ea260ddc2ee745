use Rattle.std.proofs.Common.{◌≡◌, ◌+◌, ◌≤◌, rules, refl, set, ap, subst, ◌∙◌}
use Rattle.std.specs.Prelude.{Contains, None}
use Rattle.cdcl_core.specs.Lines.{Drops}
use Rattle.sby_edge.specs.Cause.{Rose}
use Rattle.unit_propagation.specs.Propagator.{clauses_of}
use Rattle.frozen_clauses.specs.Frozen.{FrozenOf}
use Rattle.cdcl_core.specs.declared.solver.Solver.{Solver}
use Rattle.cdcl_core.proofs.Orders.{clauses_of-set}
use Rattle.cdcl_core.proofs.Steps.{leads_deleted_frozen, fails_deleted_frozen}
use Rattle.cdcl_core.proofs.Thawing.{fixpoint_both}
use Rattle.cdcl_core.proofs.solver.Solver.delete_frozen.Goals as goal

pub returns-then-is_err-clause-stopped : goal.returns-then-is_err-clause-stopped
returns-then-is_err-clause-stopped g c =
    let s = c.args.self.now in
    let p = s.core in
    let r = c.requires.solver in
    let t = c.requires.rest in
    let cl = c.in-Some.clause.now in
    let f = c.conflict-fixpoint.ensures in
    let e = c.in-Some.ensures in
    let i = c.is_loose.ensures in
    let id = c.frozen-id.result in
    let a = c.args.log.now in
    let b = c.delete.new.self in
    let fix = fixpoint_both p.trail (clauses_of p.slots) (clauses_of s.frozen.slots) (f.fixpoint t.conflict) t.settled in
    let proper = i.proper c.if-not-is_loose.false in
    let broke : g.L.Log.fails a (Drops cl id) b = search rules in
    let rose : Rose (g.L.Log.faults a) (g.L.Log.faults b) = search rules in
    fails_deleted_frozen g.L.Log.takes g.L.Log.faults g.L.Log.fails s c.args.k cl id a b e.there fix (i.untrue c.if-not-is_loose.false) proper (c.may_delete.ensures c.if-not-may_delete.false) c.frozen-id.ensures (c.is_writable.ensures c.if-not-is_writable.false) broke rose

pub returns-clause-reduces : goal.returns-clause-reduces
returns-clause-reduces g c =
    let s = c.args.self.now in
    let p = s.core in
    let r = c.requires.solver in
    let t = c.requires.rest in
    let cl = c.in-Some.clause.now in
    let f = c.conflict-fixpoint.ensures in
    let e = c.in-Some.ensures in
    let i = c.is_loose.ensures in
    let id = c.frozen-id.result in
    let a = c.args.log.now in
    let b = c.delete.new.self in
    let o = c.remove_clause.ensures in
    let rest : c.remove_clause.new.self.slots ≡ set s.frozen.slots c.args.k None = ap (λ (y : FrozenOf). y.slots) o in
    let fix = fixpoint_both p.trail (clauses_of p.slots) (clauses_of s.frozen.slots) (f.fixpoint t.conflict) t.settled in
    let proper = i.proper c.if-not-is_loose.false in
    let taken : g.L.Log.takes a (Drops cl id) b = search rules in
    let later : g.L.Log.faults a ≤ g.L.Log.faults b = search rules in
    let new : Solver = record s { frozen = c.remove_clause.new.self; deletions = s.deletions + 1 } in
    record {
      leads = leads_deleted_frozen g.L.Log.takes g.L.Log.faults s new c.args.k cl id a b e.there fix (i.untrue c.if-not-is_loose.false) proper (c.may_delete.ensures c.if-not-may_delete.false) c.frozen-id.ensures (c.is_writable.ensures c.if-not-is_writable.false) taken later refl rest refl refl refl;
      solver = record { frozen = ap (λ (y : FrozenOf). y.vars) o ∙ r.frozen; unmarked = r.unmarked; justified = r.justified; pending = r.pending };
      rest = record {
        level = t.level;
        conflict = t.conflict;
        settled = λ d h. t.settled d (clauses_of-set s.frozen.slots c.args.k d (subst (λ y. Contains (clauses_of y) d) rest h));
      };
      conflicts = refl;
    }
