use Rattle.std.proofs.Common.{sym, subst, ◌∷◌, []}
use Rattle.unit_propagation.specs.Propagation.{IsFixpoint}
use Rattle.unit_propagation.specs.Propagator.{clauses_of}
use Rattle.cdcl_core.proofs.Thawing.{fixpoint_one, fixpoint_empty}
use Rattle.cdcl_core.proofs.thaw.is_settled_at.Goals as goal

pub returns-in-Some : goal.returns-in-Some
returns-in-Some c h = let f = c.in-Some.ensures in subst (λ z. IsFixpoint c.args.core.now.trail (clauses_of (z ∷ []))) (sym f.there) (fixpoint_one c.args.core.now.trail c.in-Some.clause.now (c.is_settled.ensures h))

pub returns-in-None : goal.returns-in-None
returns-in-None c h = let f = c.in-None.ensures in subst (λ z. IsFixpoint c.args.core.now.trail (clauses_of (z ∷ []))) (sym f.gone) (fixpoint_empty c.args.core.now.trail)
