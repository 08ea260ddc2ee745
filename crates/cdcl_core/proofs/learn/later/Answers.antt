use Rattle.std.proofs.Common.{sym, ◌∙◌, subst}
use Rattle.cnf_form.proofs.Literals.{same_by_eq, apart_by_eq}
use Rattle.cdcl_core.specs.Analysis.{IsLastOf}
use Rattle.cdcl_core.proofs.Backjumps.{last_first, last_none, last_new, last_old}
use Rattle.cdcl_core.proofs.learn.later.Goals as goal

pub returns-then-eq-clause-step : goal.returns-then-eq-clause-step
returns-then-eq-clause-step c d w =
    last_first c.args.core.now.trail c.args.first d c.args.last c.args.m (same_by_eq c.args.m c.args.first (sym c.eq.ensures ∙ c.if-eq.true)) w

pub returns-in_default-clause-step : goal.returns-in_default-clause-step
returns-in_default-clause-step c d w =
    last_none c.args.core.now.trail c.args.first d c.args.m (apart_by_eq c.args.m c.args.first (sym c.eq.ensures ∙ c.if-eq.false)) (subst (IsLastOf c.args.core.now.trail c.args.first d) c.in_default.is w)

pub returns-then-is_before-clause-step : goal.returns-then-is_before-clause-step
returns-then-is_before-clause-step c d w =
    let e = c.is_before.ensures in
    last_new c.args.core.now.trail c.args.first d c.in-Some.s c.args.m (apart_by_eq c.args.m c.args.first (sym c.eq.ensures ∙ c.if-eq.false)) (e.yes c.if-is_before.true) (subst (IsLastOf c.args.core.now.trail c.args.first d) c.in-Some.is w)

pub returns-clause-step : goal.returns-clause-step
returns-clause-step c d w =
    let e = c.is_before.ensures in
    last_old c.args.core.now.trail c.args.first d c.in-Some.s c.args.m (e.no c.if-is_before.false) (subst (IsLastOf c.args.core.now.trail c.args.first d) c.in-Some.is w)
