use Rattle.std.proofs.Common.{length, max, arith}
use Rattle.gate_words.proofs.Moving.{right_means}
use Rattle.gate_words.proofs.shifts.shift_right.Goals as goal

pub returns-clause-row : goal.returns-clause-row
returns-clause-row c = right_means c.args.gates.now c.moved_wide.new.gates c.args.a.now c.args.b.now c.in_ok-word.word.items c.constant.result c.args.signed c.args.y c.max-n.result (max (length c.args.a.now) c.args.y) (omega arith) (omega arith) c.moved_wide.ensures.builds.continues c.constant.ensures.means c.in_ok-word.ensures.row
