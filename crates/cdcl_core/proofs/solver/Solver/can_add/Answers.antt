use Rattle.std.proofs.Common.{◌∙◌, subst, sym}
use Rattle.std.proofs.lemmas.Bool.{eqb-true}
use Rattle.cdcl_core.specs.Levels.{IsPending}
use Rattle.cdcl_core.proofs.Justified.{no_element}
use Rattle.cdcl_core.proofs.solver.Solver.can_add.Goals as goal

pub returns-in-None-clause-level : goal.returns-in-None-clause-level
returns-in-None-clause-level c t = no_element c.args.self.now.core.limits (sym c.levels.ensures ∙ eqb-true c.levels.result 0 t)

pub returns-in-None-clause-pending : goal.returns-in-None-clause-pending
returns-in-None-clause-pending c t = let s = c.requires.solver in subst (IsPending c.args.self.now.core) c.in-None.is s.pending
