use Rattle.design_signals.proofs.Walking.{start_place}
use Rattle.design_signals.proofs.bits.Bits.new.Goals as goal

pub invariant_of-result : goal.invariant_of-result
invariant_of-result c = record { chunks = c.requires; place = start_place c.args.chunks.now c.requires }
