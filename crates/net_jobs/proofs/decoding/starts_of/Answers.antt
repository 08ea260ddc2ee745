use Rattle.std.proofs.Common.{◌≡◌, Some, refl, length}
use Rattle.std.specs.Prelude.{slice_get}
use Rattle.std.proofs.lemmas.Option.{slice_get_read}
use Rattle.net_jobs.proofs.Scattering.{starts_on}
use Rattle.net_jobs.proofs.decoding.starts_of.Goals as goal

pub loop-place-preserved : goal.loop-place-preserved
loop-place-preserved c =
    let s = c.index-states-place.result in
    let at : slice_get c.args.states.now c.loop-place.place ≡ Some c.index-states-place.result = slice_get_read c.args.states.now (length c.args.states.now) c.loop-place.place s refl c.loop-place-test.true c.index-states-place.is in
    starts_on c.args.states.now c.loop-place.place s _ _ c.loop-place.starts.items c.push_start.new.starts.items at c.loop-place.invariant c.in_ok-push_start.ensures refl
