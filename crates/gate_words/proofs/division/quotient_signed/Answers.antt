use Rattle.gate_words.proofs.Quotients.{signed_quotient}
use Rattle.gate_words.proofs.division.quotient_signed.Goals as goal

pub returns-clause-row : goal.returns-clause-row
returns-clause-row c = signed_quotient c.differ.new.gates c.turned_where.new.gates c.args.bits.now c.in_ok-word.word.items c.args.a c.args.b c.in_ok-sign.sign c.turned_where.ensures.builds.continues c.in_ok-sign.ensures.bit c.in_ok-word.ensures.row
