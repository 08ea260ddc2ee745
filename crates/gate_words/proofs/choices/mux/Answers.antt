use Rattle.gate_words.proofs.Choosing.{mux_means}
use Rattle.gate_words.proofs.choices.mux.Goals as goal

pub returns-clause-row : goal.returns-clause-row
returns-clause-row c = mux_means c.each.new.gates c.args.a.now c.args.b.now c.args.select c.in_ok-word.word.items c.requires.width c.in_ok-word.ensures.row
