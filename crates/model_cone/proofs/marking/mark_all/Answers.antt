use Rattle.std.proofs.Common.{◌≡◌, ◌⊎◌, ◌+◌, ◌<◌, take, get_or, length, arith}
use Rattle.std.specs.Prelude.{Contains}
use Rattle.std.proofs.lemmas.List.{get_or_default}
use Rattle.model_cone.proofs.Marks.{more-from, more-to, spread-as, spread-then}
use Rattle.model_cone.proofs.marking.mark_all.Goals as goal

pub loop-place-preserved : goal.loop-place-preserved
loop-place-preserved c =
    let ps = c.args.places.now in
    let i = c.loop-place.place-index in
    let l : i < length ps = omega arith in
    let e = get_or_default ps i 0 (get_or ps i 0) l in
    spread-as (λ p. Contains (take i ps) p ⊎ (p ≡ get_or ps i 0)) (Contains (take (i + 1) ps)) _ _ _ _
    (more-to ps i (get_or ps i 0) l e) (more-from ps i (get_or ps i 0) l e)
    (spread-then (Contains (take i ps)) (λ p. p ≡ get_or ps i 0) _ _ _ _ _ _ c.loop-place.invariant c.in_ok-mark.ensures)
