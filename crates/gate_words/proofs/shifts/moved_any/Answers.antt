use Rattle.gate_words.proofs.Moving.{plain_means}
use Rattle.gate_words.proofs.shifts.moved_any.Goals as goal

pub returns-clause-row : goal.returns-clause-row
returns-clause-row c = rw c.if-signed.false (plain_means c.args.gates.now c.moved_by.new.gates c.args.a.now c.args.b.now c.in_ok-word.word.items c.constant.result c.moved_by.ensures.builds.continues c.constant.ensures.means c.in_ok-word.ensures.row)
