use Rattle.std.proofs.Common.{◌≡◌, ◌<◌, ℕ, List, Some, length, get_or, subst, arith}
use Rattle.std.specs.Prelude.{slice_get}
use Rattle.std.proofs.lemmas.Option.{slice_get-get_or}
use Rattle.model_cone.proofs.Reading.{input-below}
use Rattle.task_net.proofs.kept.kept_inputs.Goals as goal

pub bounds-marks-places : goal.bounds-marks-places
bounds-marks-places c =
    let e = c.inputs-places.ensures in
    let l : c.loop-k.k < length c.inputs-places.result.now = omega arith in
    let at : slice_get c.args.model.now.inputs c.loop-k.k ≡ Some (get_or c.inputs-places.result.now c.loop-k.k 0) =
    subst (λ (xs : List ℕ). slice_get xs c.loop-k.k ≡ Some (get_or c.inputs-places.result.now c.loop-k.k 0)) e (slice_get-get_or c.inputs-places.result.now c.loop-k.k 0 l) in
    let b = input-below c.args.model.now c.requires.model c.loop-k.k _ at in
    let s = c.requires.marks in
    omega arith
