use Rattle.unit_propagation.specs.Propagator.{clauses_of}
use Rattle.hint_chain.proofs.Chaining.{no_fixpoint}
use Rattle.hint_chain.proofs.chain.Chain.find.Goals as goal

pub search-requires-clause-conflict : goal.search-requires-clause-conflict
search-requires-clause-conflict c t keeps ok fix =
    let e = c.in_ok-follow_order.ensures in
    no_fixpoint (clauses_of c.args.core.now.slots) c.args.clause.now c.requires.admitted t (λ l h. keeps l (e.starts (cc) l h)) ok fix
