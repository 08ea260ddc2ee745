use Rattle.std.proofs.Common.{◌≡◌, ◌<◌, ◌∙◌, length, take, sym, ap, subst, arith}
use Rattle.unit_propagation.specs.Marks.{IsDistinct, TrailOf}
use Rattle.unit_propagation.specs.Propagation.{IsConsistent, IsUnassigned}
use Rattle.unit_propagation.proofs.Trails.{open_next}
use Rattle.unit_propagation.proofs.trail.Trail.copy_without_reasons.Goals as goal

pub assign-requires-clause-opened : goal.assign-requires-clause-opened
assign-requires-clause-opened c =
    let e = c.lits-lits.ensures in
    let lits = c.lits-lits.result.now in
    let i = c.loop-place.place in
    let l = c.index-lits-place.result in
    let room : i < length lits = omega (arith, c.loop-place-test.true) in
    let same : c.loop-place.trail.lits ≡ take i lits = ap (λ (z : TrailOf). z.lits) c.loop-place.invariant ∙ ap (take i) (sym e.lits) in
    subst (λ z. IsUnassigned z l) (sym same) (open_next lits i l room c.index-lits-place.is (subst IsDistinct (sym e.lits) e.distinct) (subst IsConsistent (sym e.lits) e.consistent))
