use Rattle.std.proofs.Common.{◌/◌, length}
use Rattle.gate_words.proofs.Choosing.{half_means}
use Rattle.gate_words.proofs.choices.half.Goals as goal

pub returns-clause-row : goal.returns-clause-row
returns-clause-row c = half_means c.mux.new.gates c.args.a.now _ _ c.in_ok-word.word.items (length c.args.a.now / 2) c.args.select c.split_at.ensures.front c.split_at.ensures.back c.in_ok-word.ensures.row
