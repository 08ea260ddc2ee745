use Rattle.std.proofs.Common.{refl, ap}
use Rattle.frozen_clauses.specs.Frozen.{FrozenOf}
use Rattle.cdcl_core.specs.declared.solver.Solver.{Solver}
use Rattle.cdcl_core.proofs.Steps.{moves_collect_frozen, named_collect_frozen_by}
use Rattle.cdcl_core.proofs.solver.Solver.tidy_frozen.Goals as goal

pub returns-in_ok-collect-clause-moves : goal.returns-in_ok-collect-clause-moves
returns-in_ok-collect-clause-moves c =
    let s = c.args.self.now in
    let z = c.in_ok-collect_frozen.ensures in
    let slots = ap (λ (z : FrozenOf). z.slots) c.in_ok-collect.ensures.ok in
    let new : Solver = record s { frozen = c.collect.new.self; ids = c.collect_frozen.new.self } in
    moves_collect_frozen s new refl slots refl refl z.wanted (named_collect_frozen_by s new refl slots z.wanted z.last z.named)
