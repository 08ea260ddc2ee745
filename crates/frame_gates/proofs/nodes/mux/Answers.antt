use Rattle.frame_gates.proofs.Choosing.{select_means}
use Rattle.frame_gates.proofs.nodes.mux.Goals as goal

pub returns-clause-row : goal.returns-clause-row
returns-clause-row c =
    select_means c.mux.new.gates c.args.a.now c.args.b.now c.args.s.now c.in_ok-word.word.items c.index-s-0.result c.requires.select c.index-s-0.is c.in_ok-word.ensures.row
