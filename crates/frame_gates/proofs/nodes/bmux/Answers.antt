use Rattle.std.proofs.Common.{length}
use Rattle.frame_gates.proofs.Choosing.{slice_width}
use Rattle.frame_gates.proofs.nodes.bmux.Goals as goal

pub returns-clause-row : goal.returns-clause-row
returns-clause-row c =
    let e = slice_width (length c.args.a.now) c.args.y (length c.args.s.now) c.requires.width in
    rw e at c.in_ok-word.ensures.row
