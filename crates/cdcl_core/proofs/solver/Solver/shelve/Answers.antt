use Rattle.std.proofs.Common.{refl}
use Rattle.std.proofs.lemmas.Result.{on_ok_weaker}
use Rattle.cdcl_core.specs.declared.solver.Solver.{Solver}
use Rattle.cdcl_core.proofs.Steps.{moves_same, moves_both}
use Rattle.cdcl_core.proofs.solver.Solver.shelve.Goals as goal

pub returns-clause-moves : goal.returns-clause-moves
returns-clause-moves c =
    let s = c.args.self.now in
    let mid : Solver = record s { eliminator = c.end.new.self; order = c.end.new.order } in
    let e = c.in_ok-shelve_all.ensures in
    let t = c.shelve_all.new.self in
    on_ok_weaker c.collect.result (λ w. moves_both s t c.collect.new.self (moves_both s mid t (moves_same s mid refl refl refl refl refl refl) e.moves) w) c.collect.ensures.moves
