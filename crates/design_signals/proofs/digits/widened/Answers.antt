use Rattle.std.proofs.Common.{refl}
use Rattle.design_signals.proofs.Widening.{widens}
use Rattle.design_signals.proofs.digits.widened.Goals as goal

pub returns-then-is_below-clause-bits : goal.returns-then-is_below-clause-bits
returns-then-is_below-clause-bits c = widens c.args.chunk _ c.args.bit refl refl (c.is_below.ensures.bit c.if-is_below.true)
