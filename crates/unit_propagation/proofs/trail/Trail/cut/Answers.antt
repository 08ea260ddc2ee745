use Rattle.std.proofs.Common.{rules}
use Rattle.unit_propagation.proofs.Trails.{trail_of, cut_ends}
use Rattle.unit_propagation.proofs.trail.Trail.cut.Goals as goal

pub returns : goal.returns
returns c =
    let i = c.loop.invariant in
    trail_of c.loop.self _ _ i.vars (cut_ends c.args.self.now.lits c.loop.self.lits c.args.place c.loop.counter i.room i.lits (search rules) (search rules) i.idle)
