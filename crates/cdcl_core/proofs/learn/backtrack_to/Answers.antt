use Rattle.std.proofs.Common.{arith}
use Rattle.cdcl_core.proofs.Justified.{justified_undone}
use Rattle.cdcl_core.proofs.learn.backtrack_to.Goals as goal

pub returns-clause-justified : goal.returns-clause-justified
returns-clause-justified c =
    let core = c.args.core.now in
    let f = c.levels_are_complete.ensures in
    justified_undone core c.requires.justified f.within c.backtrack.new.self c.args.level (omega (arith, c.requires.above)) f.rising c.backtrack.ensures
