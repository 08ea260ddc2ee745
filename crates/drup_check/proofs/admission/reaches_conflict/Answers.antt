use Rattle.std.proofs.Common.{◌≡◌, map, sym, ◌∙◌, subst}
use Rattle.cnf_form.specs.Cnf.{negate, ClauseWithin}
use Rattle.unit_propagation.specs.Propagator.{IsAssumed, EndsAssumed}
use Rattle.drup_check.proofs.Decisions.{within_negated, decides, taken_back}
use Rattle.drup_check.proofs.admission.reaches_conflict.Goals as goal

pub assume-requires-clause-within : goal.assume-requires-clause-within
assume-requires-clause-within c =
    let e : c.deref.result.now ≡ map negate c.args.clause.now = c.deref.ensures.value ∙ c.in_ok-negate_all.ensures in
    subst (ClauseWithin c.args.core.now.vars) (sym e) (within_negated c.args.core.now.vars c.args.clause.now c.requires.within)

pub returns-clause-core : goal.returns-clause-core
returns-clause-core c =
    let root = c.requires.root in
    let a = c.in_ok-_outcome.ensures in
    taken_back c.args.core.now c.assume.new.self c.backtrack.new.self c.deref.result.now root.level c.requires.conflict a.assumed c.backtrack.ensures

pub returns-clause-exact : goal.returns-clause-exact
returns-clause-exact c =
    let e : c.deref.result.now ≡ map negate c.args.clause.now = c.deref.ensures.value ∙ c.in_ok-negate_all.ensures in
    let a = c.in_ok-_outcome.ensures in
    let f = c.conflict-conflict.ensures in
    let new = c.assume.new.self in
    let o = c.in_ok-_outcome._outcome in
    decides c.args.core.now new c.args.clause.now o c.conflict-conflict.result c.requires.root
    (subst (λ z. IsAssumed c.args.core.now z new) e a.assumed) (subst (λ z. EndsAssumed new z o) e a.ends) (f.conflict ∙ a.conflict) f.consistent
    (λ h. f.fixpoint (sym f.conflict ∙ h))
