use Rattle.unit_propagation.specs.Propagator.{clauses_of}
use Rattle.std.proofs.Common.{subst}
use Rattle.std.specs.Prelude.{Contains, ◌≢◌}
use Rattle.cdcl_core.proofs.Resolvents.{resolvent_admitted}
use Rattle.cdcl_core.proofs.eliminate.is_resolvent.Goals as goal

pub returns : goal.returns
returns c t =
    let u = c.leaves.ensures c.if-not-leaves.false in
    let w = c.leaves-2.ensures t in
    let cl = c.args.clause.now in
    resolvent_admitted (clauses_of c.args.core.now.slots) u.0 w.0 cl c.args.proposal.on u.1 w.1 u.2 u.3 (subst (λ z. (m : _) → Contains w.0 m → m ≢ z → Contains cl m) c.negate.ensures w.3)
