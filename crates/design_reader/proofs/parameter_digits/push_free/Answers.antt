use Rattle.design_reader.proofs.DigitLemmas.{free_step}
use Rattle.design_reader.proofs.parameter_digits.push_free.Goals as goal

pub loop-place-preserved : goal.loop-place-preserved
loop-place-preserved c = rw c.in_ok-push.ensures.items (free_step c.loop-place.row.items _ c.args.first c.loop-place.place c.loop-place.invariant)
