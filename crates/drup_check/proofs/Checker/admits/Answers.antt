use Rattle.std.proofs.Common.{◌≡◌, true, refl, sym, ◌∙◌, subst}
use Rattle.std.specs.Prelude.{IfOk, IsTrue, ◌↔◌}
use Rattle.cnf_form.specs.Cnf.{IsAdmitted}
use Rattle.unit_propagation.specs.Propagator.{clauses_of}
use Rattle.drup_check.specs.Checking.{CheckerOf}
use Rattle.drup_check.proofs.Decisions.{conflict_from, admitted_at_conflict}
use Rattle.drup_check.proofs.Checker.admits.Goals as goal

pub returns-then-conflict-clause-exact : goal.returns-then-conflict-clause-exact
returns-then-conflict-clause-exact c =
    let i = c.self.invariant in
    let r = i.0 in
    let p = c.self.inside.core in
    let f = c.conflict.ensures in
    let e : p.conflict ≡ true = sym f.conflict ∙ c.if-conflict.true in
    (λ t. subst (λ (k : CheckerOf). IsAdmitted k.clauses c.args.clause.now) c.self.view_is (admitted_at_conflict (clauses_of p.slots) c.args.clause.now (conflict_from (clauses_of p.slots) p.trail r.derived (r.falsified e))), λ a. refl)

pub returns-clause-exact : goal.returns-clause-exact
returns-clause-exact c =
    let r = c.reaches_conflict.ensures in
    subst (λ (k : CheckerOf). IfOk c.reaches_conflict.result (λ b. IsTrue b ↔ IsAdmitted k.clauses c.args.clause.now)) c.self.view_is r.exact
