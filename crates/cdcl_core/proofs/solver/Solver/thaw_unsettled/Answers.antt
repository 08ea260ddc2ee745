use Rattle.std.proofs.Common.{refl, ◌∙◌, arith}
use Rattle.cdcl_core.proofs.Steps.{moves_same, moves_both}
use Rattle.cdcl_core.proofs.solver.Solver.thaw_unsettled.Goals as goal

pub loop-k-init : goal.loop-k-init
loop-k-init c =
    let s = c.args.self.now in
    let r = c.requires in
    record { solver = r.solver; count = refl; level = r.level; none = r.none; moves = moves_same s s refl refl refl refl refl refl; few = omega arith }

pub loop-k-preserved : goal.loop-k-preserved
loop-k-preserved c =
    let i = c.loop-k.invariant in
    let e = c.in_ok-thaw_unsettled_at.ensures in
    record {
      solver = e.solver;
      count = e.count ∙ i.count;
      level = e.level;
      none = e.none;
      moves = moves_both c.args.self.now c.loop-k.self c.thaw_unsettled_at.new.self i.moves e.moves;
      few = omega (arith, i.few, e.few);
    }
