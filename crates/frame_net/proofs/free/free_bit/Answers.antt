use Rattle.frame_net.proofs.Rows.{free_one}
use Rattle.frame_net.proofs.free.free_bit.Goals as goal

pub returns-clause-bit : goal.returns-clause-bit
returns-clause-bit c = free_one c.args.gates.now c.input.new.self c.in_ok-lit.lit c.in_ok-lit.ensures.input c.in_ok-lit.ensures.new
