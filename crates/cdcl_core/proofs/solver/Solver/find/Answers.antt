use Rattle.std.proofs.Common.{subst, sym, ◌∙◌}
use Rattle.unit_propagation.proofs.Slots.{clauses_of-contains}
use Rattle.cdcl_core.specs.Levels.{IsPending}
use Rattle.cdcl_core.proofs.Justified.{no_element}
use Rattle.cdcl_core.proofs.solver.Solver.find.Goals as goal

pub returns-then-levels-eq0-clause-found : goal.returns-then-levels-eq0-clause-found
returns-then-levels-eq0-clause-found c =
    let core = c.args.self.now.core in
    let s = c.requires.solver in
    let w = subst (IsPending core) c.in-Some.is s.pending in
    let g = w.1 in
    (no_element core.limits (sym c.levels.ensures ∙ c.if-levels-eq0.true), (g.0, clauses_of-contains core.slots c.in-Some.k g.0 g.1, g.2))
