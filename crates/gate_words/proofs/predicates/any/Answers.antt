use Rattle.std.proofs.Common.{false, ◌||◌}
use Rattle.sby_bits.specs.Words.{some_bit}
use Rattle.gate_words.proofs.Folding.{chain_bit, some_is}
use Rattle.gate_words.proofs.predicates.any.Goals as goal

pub returns-clause-bit : goal.returns-clause-bit
returns-clause-bit c = chain_bit c.args.gates.now c.chain.new.gates (◌||◌) c.constant-zero.result c.args.a.now c.in_ok-lit.lit false some_bit c.chain.ensures.builds.continues c.constant-zero.ensures.means c.in_ok-lit.ensures.bit some_is
