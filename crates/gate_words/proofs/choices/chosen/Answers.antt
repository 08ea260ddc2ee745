use Rattle.std.proofs.Common.{◌+◌, ◌-◌, length, arith}
use Rattle.gate_words.proofs.Choosing.{chosen_means}
use Rattle.gate_words.proofs.choices.chosen.Goals as goal

pub returns-clause-row : goal.returns-clause-row
returns-clause-row c = chosen_means c.mux.new.gates c.args.a.now c.args.b.now c.in_ok-word.word.items c.args.from (c.args.from + length c.args.a.now - c.args.from) c.args.select (omega arith) c.in_ok-word.ensures.row
