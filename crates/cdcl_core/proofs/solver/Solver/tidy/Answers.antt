use Rattle.std.proofs.Common.{refl}
use Rattle.cdcl_core.proofs.Steps.{moves_same}
use Rattle.cdcl_core.proofs.solver.Solver.tidy.Goals as goal

pub returns-then-not-is_sparse-clause-moves : goal.returns-then-not-is_sparse-clause-moves
returns-then-not-is_sparse-clause-moves c = let s = c.args.self.now in moves_same s s refl refl refl refl refl refl
