use Rattle.std.proofs.Common.{subst, sym}
use Rattle.cdcl_core.specs.Searching.{IsPlaced}
use Rattle.cdcl_core.proofs.solver.Solver.add_learnt.Goals as goal

pub add_at-requires-clause-placed : goal.add_at-requires-clause-placed
add_at-requires-clause-placed c = subst (λ x. IsPlaced c.args.self.now.core x c.args.first) (sym c.clause-clause.ensures) c.requires.placed
