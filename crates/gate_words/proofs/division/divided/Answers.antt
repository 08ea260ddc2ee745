use Rattle.gate_words.proofs.Quotients.{quotient_means, remainder_means}
use Rattle.gate_words.proofs.division.divided.Goals as goal

pub returns-clause-quotient : goal.returns-clause-quotient
returns-clause-quotient c = rw c.reverse.ensures.items (quotient_means c.zeros_above.new.gates c.all_places.new.gates c.args.a.now c.args.b.now c.in_ok-bits.bits.items c.in_ok-bits.rest.items c.in_ok-bits.ensures.divided)

pub returns-clause-rest : goal.returns-clause-rest
returns-clause-rest c = remainder_means c.zeros_above.new.gates c.all_places.new.gates c.args.a.now c.args.b.now c.in_ok-bits.bits.items c.in_ok-bits.rest.items c.in_ok-bits.ensures.divided
