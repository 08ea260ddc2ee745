use Rattle.std.proofs.Common.{arith}
use Rattle.gate_words.proofs.Quotients.{divide_means}
use Rattle.gate_words.proofs.division.divide.Goals as goal

pub returns-clause-row : goal.returns-clause-row
returns-clause-row c =
    let row = rw c.deref.ensures.value at c.in_ok-word.ensures in
    divide_means c.divided_wide.new.gates c.args.kind c.args.a.now c.args.b.now c.in_ok-wide.wide.items c.in_ok-word.word.items c.args.signed c.args.y c.max-n.result (omega arith) c.in_ok-wide.ensures.row row
