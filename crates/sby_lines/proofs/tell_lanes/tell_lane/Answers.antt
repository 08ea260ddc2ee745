use Rattle.std.proofs.Common.{◌≡◌, ◌∙◌, ◌<◌, Some, ap, sym, length, arith}
use Rattle.std.specs.Prelude.{slice_get}
use Rattle.std.proofs.lemmas.Option.{slice_get-get_or}
use Rattle.std.proofs.lemmas.Result.{err_from_is_err_and}
use Rattle.design_core.proofs.Lists.{item_at}
use Rattle.sby_lines.proofs.LineLemmas.{lane_end, lane_step}
use Rattle.sby_lines.proofs.TellLemmas.{told_all, told_more, told_start, told_stopped}
use Rattle.sby_lines.proofs.tell_lanes.tell_lane.Goals as goal

pub loop-place-init : goal.loop-place-init
loop-place-init g c = record { told = λ jobs has. told_start _ _ _ }

pub returns-in_err-tell_end : goal.returns-in_err-tell_end
returns-in_err-tell_end g c = let p = err_from_is_err_and c.from_residual.result c.from_residual.ensures.1 in
    rw (p.1, p.2) (λ jobs has.
    let lt : c.loop-place.place < length c.args.answers.now = omega (arith, c.loop-place-test.true, ap length c.ends-ends.ensures, c.requires.ends) in
    let at : slice_get jobs c.loop-place.place ≡ Some c.job_at.result = has.named c.loop-place.place (omega (arith, lt, has.enough)) ∙ ap Some (sym c.job_at.ensures) in
    told_stopped {T = Unit {0}} {U = Unit {0}} _ _ _ _ _ _ _ _ _ _ _
    (lane_step c.args.heading.now.name.now c.args.slices _ _ jobs c.args.answers.now _ _ c.loop-place.place _ _ _ c.lane.ensures c.ends-ends.ensures at (slice_get-get_or c.args.answers.now c.loop-place.place _ lt) (item_at c.ends-ends.result.now c.loop-place.place c.index-ends-place.result c.index-ends-place.is c.loop-place-test.true))
    (c.loop-place.invariant.told jobs has) c.in_err-tell_end.ensures)

pub loop-place-preserved : goal.loop-place-preserved
loop-place-preserved g c = record {
  told = λ jobs has.
      let lt : c.loop-place.place < length c.args.answers.now = omega (arith, c.loop-place-test.true, ap length c.ends-ends.ensures, c.requires.ends) in
      let at : slice_get jobs c.loop-place.place ≡ Some c.job_at.result = has.named c.loop-place.place (omega (arith, lt, has.enough)) ∙ ap Some (sym c.job_at.ensures) in
      told_more _ _ _ _ _ _ _ _ _ _
      (lane_step c.args.heading.now.name.now c.args.slices _ _ jobs c.args.answers.now _ _ c.loop-place.place _ _ _ c.lane.ensures c.ends-ends.ensures at (slice_get-get_or c.args.answers.now c.loop-place.place _ lt) (item_at c.ends-ends.result.now c.loop-place.place c.index-ends-place.result c.index-ends-place.is c.loop-place-test.true))
      (c.loop-place.invariant.told jobs has) c.in_ok-tell_end.ensures;
}

pub returns : goal.returns
returns g c = λ jobs has. told_all _ _ _ _ _ _ (lane_end c.args.heading.now.name.now c.args.slices _ jobs _ _ c.loop-place.place (omega (arith, c.loop-place-test.false, ap length c.ends-ends.ensures))) (c.loop-place.invariant.told jobs has)
