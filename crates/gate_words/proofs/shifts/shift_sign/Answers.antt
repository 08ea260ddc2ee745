use Rattle.std.proofs.Common.{arith}
use Rattle.gate_words.proofs.Moving.{sign_means}
use Rattle.gate_words.proofs.shifts.shift_sign.Goals as goal

pub returns-clause-row : goal.returns-clause-row
returns-clause-row c = sign_means c.args.gates.now c.moved_wide.new.gates c.args.a.now c.args.b.now c.in_ok-word.word.items c.fill_of.result c.args.signed c.args.y c.max-n.result (omega arith) (omega arith) c.moved_wide.ensures.builds.continues c.fill_of.ensures.means c.in_ok-word.ensures.row
