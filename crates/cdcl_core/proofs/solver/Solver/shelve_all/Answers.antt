use Rattle.std.proofs.Common.{refl}
use Rattle.cdcl_core.proofs.Steps.{moves_same, moves_both}
use Rattle.cdcl_core.proofs.solver.Solver.shelve_all.Goals as goal

pub loop-k-init : goal.loop-k-init
loop-k-init c = let s = c.args.self.now in let r = c.requires in record { solver = r.solver; rest = r.rest; moves = moves_same s s refl refl refl refl refl refl }

pub loop-k-preserved : goal.loop-k-preserved
loop-k-preserved c =
    let i = c.loop-k.invariant in
    let e = c.in_ok-shelve_next.ensures in
    record { solver = e.solver; rest = e.rest; moves = moves_both c.args.self.now c.loop-k.self c.shelve_next.new.self i.moves e.moves }
