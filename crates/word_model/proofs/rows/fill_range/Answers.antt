use Rattle.std.proofs.Common.{◌+◌, []}
use Rattle.design_states.proofs.Listing.{plain-next}
use Rattle.word_model.proofs.rows.fill_range.Goals as goal

pub loop-place-preserved : goal.loop-place-preserved
loop-place-preserved c =
    rw c.in_ok-push.ensures.items (plain-next (λ k. c.args.first + k) [] c.loop-place.row.items c.loop-place.place c.loop-place.invariant)
