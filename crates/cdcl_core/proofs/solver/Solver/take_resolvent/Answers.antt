use Rattle.std.proofs.Common.{rules, subst, sym}
use Rattle.std.specs.Prelude.{Contains}
use Rattle.cnf_form.specs.Cnf.{IsAdmitted}
use Rattle.unit_propagation.specs.Propagator.{clauses_of}
use Rattle.cdcl_core.specs.Logged.{IsContingent, IsNew, IsProper}
use Rattle.cdcl_core.specs.Present.{all_of}
use Rattle.cdcl_core.specs.Searching.{IsAddable, IsIndexed}
use Rattle.cdcl_core.specs.declared.analysis.Analysis.{Analysis}
use Rattle.cdcl_core.proofs.Resolvents.{indexed_more, indexed_has}
use Rattle.cdcl_core.proofs.solver.Solver.take_resolvent.Goals as goal

pub returns-clause-addable : goal.returns-clause-addable
returns-clause-addable c q =
    let s = c.args.self.now in
    let e = c.in_ok-is_new.ensures in
    let o = c.is_sound.ensures in
    let f = c.if-not-is_sound.false in
    let is = c.clause.ensures in
    let cl = c.take.new.self.clause.items in
    let new : IsNew (all_of s.core s.frozen) cl = search rules in
    let a : IsAddable s.core s.frozen cl = record { admitted = subst (IsAdmitted (clauses_of s.core.slots)) is (o.admitted f); new = new; contingent = subst IsContingent is (o.contingent f); proper = subst (IsProper s.core.vars) is (o.proper f) } in
    subst (λ (x : Analysis). IsAddable s.core s.frozen x.clause.items) (sym e.analysis) a

pub returns-clause-indexed : goal.returns-clause-indexed
returns-clause-indexed c =
    let s = c.args.self.now in
    let e = c.in_ok-is_new.ensures in
    let push = c.in_ok-push.ensures in
    indexed_more s.core c.is_new.new.index c.push.new.self c.clause-clause.result.now push.ok (subst (IsIndexed s.core) (sym e.index) c.requires.indexed)

pub returns-clause-added : goal.returns-clause-added
returns-clause-added c q =
    let push = c.in_ok-push.ensures in
    subst (λ x. Contains (clauses_of c.push.new.self.slots) x) c.clause-clause.ensures (indexed_has c.is_new.new.index c.push.new.self c.clause-clause.result.now push.ok)
