use Rattle.std.proofs.Common.{ap, arith, length, List, ℕ}
use Rattle.model_play.proofs.player.Player.new.Goals as goal

pub invariant_of-result : goal.invariant_of-result
invariant_of-result c =
    let h = c.in_ok-held.ensures.size in
    let s = ap (λ (ps : List ℕ). length ps) c.states.ensures in
    let r = c.in_ok-scratch.ensures.size in
    record { model = c.size.ensures.model; table = c.in_ok-table.ensures; held = omega (arith, h, s); room = omega (arith, r) }
