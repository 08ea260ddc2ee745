use Rattle.std.proofs.Common.{refl}
use Rattle.std.proofs.lemmas.Result.{on_ok_weaker}
use Rattle.cdcl_core.specs.declared.solver.Solver.{Solver}
use Rattle.cdcl_core.proofs.Steps.{moves_same, reduces_both, reduces_moves}
use Rattle.cdcl_core.proofs.solver.Solver.shrink.Goals as goal

pub returns-clause-reduces : goal.returns-clause-reduces
returns-clause-reduces g c =
    let s = c.args.self.now in
    let r = c.requires.solver in
    let t = c.requires.rest in
    let a = c.args.log.now in
    let mid : Solver = record s { learnts = c.worst.new.self } in
    let e = c.in_ok-delete_all_frozen.ensures in
    let first = reduces_moves g.L.Log.takes g.L.Log.faults s mid a (moves_same s mid refl refl refl refl refl refl)
    (record { frozen = r.frozen; unmarked = r.unmarked; justified = r.justified; pending = r.pending }) (record { level = t.level; conflict = t.conflict; settled = t.settled }) in
    let second = reduces_both g.L.Log.takes g.L.Log.faults s mid c.delete_all_frozen.new.self a a c.delete_all_frozen.new.log first e.reduces in
    on_ok_weaker c.drop_all.result (λ w. reduces_both g.L.Log.takes g.L.Log.faults s c.delete_all_frozen.new.self c.drop_all.new.self a c.delete_all_frozen.new.log c.drop_all.new.log second w) c.drop_all.ensures.reduces
