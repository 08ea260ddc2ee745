use Rattle.gate_words.proofs.Modulo.{sum_means}
use Rattle.gate_words.proofs.bitwise.sum.Goals as goal

pub returns-clause-row : goal.returns-clause-row
returns-clause-row c = sum_means c.args.gates.now c.add.new.gates c.args.a.now c.args.b.now c.in_ok-row.row.items c.constant-zero.result _ c.requires.as_many c.constant-zero.ensures.means c.in_ok-row.ensures.sum
