use Rattle.std.proofs.Common.{rules}
use Rattle.unit_propagation.proofs.Slots.{clauses_of-contains}
use Rattle.unit_propagation.specs.Propagator.{clauses_of}
use Rattle.cdcl_core.proofs.Analyses.{supports_resolved}
use Rattle.cdcl_core.proofs.analysis.Analysis.drop_implied.Goals as goal

pub returns-clause-supports : goal.returns-clause-supports
returns-clause-supports c h w =
    let core = c.args.core.now in
    let cl = c.in-Some.clause.now in
    let n = c.has_others.ensures in
    supports_resolved (clauses_of core.slots) core.trail c.args.root c.args.self.now.seen.items _ cl c.args.l (clauses_of-contains core.slots c.reason-k.result cl (search rules))
    (n.found h) (n.noted h) (λ x q. rw c.index.ensures q) w
