use Rattle.std.proofs.Common.{◌≡◌, ◌<◌, ℕ, List, Some, length, get_or, subst, arith}
use Rattle.std.specs.Prelude.{slice_get}
use Rattle.std.proofs.lemmas.Option.{slice_get-get_or}
use Rattle.model_cone.proofs.Reading.{input-below}
use Rattle.model_cone.proofs.slice.push_inputs.Goals as goal

pub bounds-marks-place : goal.bounds-marks-place
bounds-marks-place c =
    let e = c.inputs-inputs.ensures in
    let l : c.loop-k.k < length c.inputs-inputs.result.now = omega arith in
    let at : slice_get c.args.model.now.inputs c.loop-k.k ≡ Some (get_or c.inputs-inputs.result.now c.loop-k.k 0) =
    subst (λ (xs : List ℕ). slice_get xs c.loop-k.k ≡ Some (get_or c.inputs-inputs.result.now c.loop-k.k 0)) e (slice_get-get_or c.inputs-inputs.result.now c.loop-k.k 0 l) in
    let b = input-below c.args.model.now c.requires.model c.loop-k.k _ at in
    let s = c.requires.marks in
    omega arith
