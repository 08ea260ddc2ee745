use Rattle.std.proofs.Common.{◌-◌, length, arith}
use Rattle.cdcl_core.specs.Levels.{base_of}
use Rattle.cdcl_core.proofs.Backjumps.{learnt_new, learnt_contingent}
use Rattle.cdcl_core.proofs.Justified.{last_limit}
use Rattle.cdcl_core.proofs.solver.Solver.analyze.Goals as goal

pub returns-clause-new : goal.returns-clause-new
returns-clause-new c =
    let core = c.args.self.now.core in
    let e = c.in_ok-first.ensures in
    let f = c.levels_are_complete.ensures in
    learnt_new core c.analyze_conflict.new.self.analysis.clause.items c.in_ok-first.first e.learnt f.consistent
    (f.fixpoint (base_of core) (length core.limits - 1, omega (arith, c.requires.levels), last_limit core.limits c.requires.levels))

pub returns-clause-contingent : goal.returns-clause-contingent
returns-clause-contingent c =
    let core = c.args.self.now.core in
    let e = c.in_ok-first.ensures in
    let f = c.levels_are_complete.ensures in
    learnt_contingent core (base_of core) c.analyze_conflict.new.self.analysis.clause.items c.in_ok-first.first e.learnt f.consistent
