use Rattle.std.proofs.Common.{refl}
use Rattle.std.specs.Prelude.{None}
use Rattle.cdcl_core.specs.declared.solver.Solver.{Solver}
use Rattle.cdcl_core.proofs.Steps.{moves_same, moves_both}
use Rattle.cdcl_core.proofs.solver.Solver.come_to_rest.Goals as goal

pub returns-then-conflict-clause-moves : goal.returns-then-conflict-clause-moves
returns-then-conflict-clause-moves c =
    let s = c.args.self.now in
    let e = c.in_ok-restart.ensures in
    let t = c.in_ok-thaw_unsettled.ensures in
    let mid : Solver = record s { core = c.restart.new.core; order = c.restart.new.order; pending = None } in
    moves_both s mid c.thaw_unsettled.new.self (moves_same s mid e.vars e.slots refl refl refl refl) t.moves

pub returns-clause-moves : goal.returns-clause-moves
returns-clause-moves c =
    let s = c.args.self.now in
    let e = c.in_ok-restart.ensures in
    let t = c.in_ok-thaw_unsettled.ensures in
    let mid : Solver = record s { core = c.restart.new.core; order = c.restart.new.order; pending = None } in
    moves_both s mid c.thaw_unsettled.new.self (moves_same s mid e.vars e.slots refl refl refl refl) t.moves
