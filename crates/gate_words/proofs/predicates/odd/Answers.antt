use Rattle.std.proofs.Common.{false}
use Rattle.cell_table.specs.Cells.{either_one}
use Rattle.sby_bits.specs.Words.{odd_bits}
use Rattle.gate_words.proofs.Folding.{chain_bit, odd_is}
use Rattle.gate_words.proofs.predicates.odd.Goals as goal

pub returns-clause-bit : goal.returns-clause-bit
returns-clause-bit c = chain_bit c.args.gates.now c.chain.new.gates (either_one) c.constant-zero.result c.args.a.now c.in_ok-lit.lit false odd_bits c.chain.ensures.builds.continues c.constant-zero.ensures.means c.in_ok-lit.ensures.bit odd_is
