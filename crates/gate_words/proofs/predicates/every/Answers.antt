use Rattle.std.proofs.Common.{true, ◌&&◌}
use Rattle.sby_bits.specs.Words.{every_bit}
use Rattle.gate_words.proofs.Folding.{chain_bit, every_is}
use Rattle.gate_words.proofs.predicates.every.Goals as goal

pub returns-clause-bit : goal.returns-clause-bit
returns-clause-bit c = chain_bit c.args.gates.now c.chain.new.gates (◌&&◌) c.constant-one.result c.args.a.now c.in_ok-lit.lit true every_bit c.chain.ensures.builds.continues c.constant-one.ensures.means c.in_ok-lit.ensures.bit every_is
