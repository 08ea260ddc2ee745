use Rattle.std.proofs.Common.{not, leb}
use Rattle.sby_bits.specs.Rows.{num}
use Rattle.gate_rows.specs.Literals.{row_of}
use Rattle.gate_words.proofs.Folding.{Bit-same, less_means, not_least}
use Rattle.gate_words.proofs.predicates.less.Goals as goal

pub returns-clause-bit : goal.returns-clause-bit
returns-clause-bit c =
    rw c.negate.ensures
    (Bit-same c.at_least.new.gates (λ x. not (leb (num (row_of x c.args.b.now)) (num (row_of x c.args.a.now)))) _ _
    (less_means c.args.gates.now c.at_least.new.gates c.args.a.now c.args.b.now c.in_ok-lit.lit c.requires.as_many c.in_ok-lit.ensures.bit)
    (λ x. not_least (num (row_of x c.args.a.now)) (num (row_of x c.args.b.now))))
