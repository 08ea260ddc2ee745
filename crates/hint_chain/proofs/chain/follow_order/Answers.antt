use Rattle.std.proofs.Common.{map, sym, subst}
use Rattle.cnf_form.specs.Cnf.{negate}
use Rattle.hint_chain.specs.Chains.{Ends}
use Rattle.hint_chain.proofs.Chaining.{ends_contradiction, otherwise}
use Rattle.hint_chain.proofs.chain.follow_order.Goals as goal

pub returns-then-not-branch-clause-hints : goal.returns-then-not-branch-clause-hints
returns-then-not-branch-clause-hints c _ =
    let start = map negate c.args.clause.now in
    let e = c.in_ok-begin.ensures in
    subst (Ends c.args.core.now.slots c.args.ids.now start) (sym c.clear.ensures.items) (ends_contradiction c.args.core.now.slots c.args.ids.now start (otherwise c.in_ok-begin.field-0 _ _ c.if-not-branch.true e.cases))
