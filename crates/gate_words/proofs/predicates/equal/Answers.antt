use Rattle.gate_words.proofs.Folding.{equal_means}
use Rattle.gate_words.proofs.predicates.equal.Goals as goal

pub returns-clause-bit : goal.returns-clause-bit
returns-clause-bit c = equal_means c.same.new.gates c.args.signed c.args.a.now c.args.b.now c.in_ok-lit.lit c.requires.as_many c.in_ok-lit.ensures.bit
