use Rattle.std.proofs.Common.{refl}
use Rattle.std.proofs.lemmas.Result.{on_ok_weaker, IfErr-weaker}
use Rattle.cdcl_core.specs.Searching.{Ended}
use Rattle.cdcl_core.specs.declared.solver.Solver.{Solver}
use Rattle.cdcl_core.proofs.Steps.{moves_same, grows_moves, grows_both, ended_both}
use Rattle.cdcl_core.proofs.solver.Solver.eliminate_if_due.Goals as goal

pub returns-then-is_some-clause-grows : goal.returns-then-is_some-clause-grows
returns-then-is_some-clause-grows g c =
    let s = c.args.self.now in
    grows_moves g.L.Log.takes g.L.Log.faults c.args.budget s s c.args.log.now (moves_same s s refl refl refl refl refl refl) c.requires.in_time

pub returns-then-not-is_due-clause-grows : goal.returns-then-not-is_due-clause-grows
returns-then-not-is_due-clause-grows g c =
    let s = c.args.self.now in
    let mid : Solver = record s { eliminator = c.is_due.new.self } in
    grows_moves g.L.Log.takes g.L.Log.faults c.args.budget s mid c.args.log.now (moves_same s mid refl refl refl refl refl refl) c.requires.in_time

pub returns-clause-grows : goal.returns-clause-grows
returns-clause-grows g c =
    let s = c.args.self.now in
    let a = c.args.log.now in
    let mid : Solver = record s { eliminator = c.is_due.new.self } in
    let first = grows_moves g.L.Log.takes g.L.Log.faults c.args.budget s mid a (moves_same s mid refl refl refl refl refl refl) c.requires.in_time in
    on_ok_weaker c.eliminate.result (λ w. grows_both g.L.Log.takes g.L.Log.faults c.args.budget s mid c.eliminate.new.self a a c.eliminate.new.log first w) c.eliminate.ensures.grows

pub returns-clause-stopped : goal.returns-clause-stopped
returns-clause-stopped g c =
    let s = c.args.self.now in
    let a = c.args.log.now in
    let b = c.eliminate.new.log in
    let mid : Solver = record s { eliminator = c.is_due.new.self } in
    let first = grows_moves g.L.Log.takes g.L.Log.faults c.args.budget s mid a (moves_same s mid refl refl refl refl refl refl) c.requires.in_time in
    IfErr-weaker c.eliminate.result (λ e. Ended g.L.Log.takes g.L.Log.fails g.L.Log.faults c.args.budget mid a b e) (λ e. Ended g.L.Log.takes g.L.Log.fails g.L.Log.faults c.args.budget s a b e)
    (λ e w. ended_both g.L.Log.takes g.L.Log.faults g.L.Log.fails c.args.budget s mid a a b e first w) c.eliminate.ensures.stopped
