use Rattle.std.proofs.Common.{◌≡◌, ◌∙◌, Some, ap, sym, arith}
use Rattle.std.specs.Prelude.{slice_get}
use Rattle.std.proofs.lemmas.Option.{slice_get-get_or}
use Rattle.std.proofs.lemmas.Result.{err_from_is_err_and}
use Rattle.sby_lines.proofs.LineLemmas.{settled_end, settled_next}
use Rattle.sby_lines.proofs.TellLemmas.{told_all, told_more, told_start, told_stopped}
use Rattle.sby_lines.proofs.tell_lanes.tell_answers.Goals as goal

pub loop-place-init : goal.loop-place-init
loop-place-init g c = record { told = λ jobs has. told_start _ _ _ }

pub returns-in_err-tell_settled : goal.returns-in_err-tell_settled
returns-in_err-tell_settled g c = let p = err_from_is_err_and c.from_residual.result c.from_residual.ensures.1 in
    rw (p.1, p.2) (λ jobs has. let at : slice_get jobs c.loop-place.place ≡ Some c.job_at-job.result = has.named c.loop-place.place (omega (arith, c.loop-place-test.true, has.enough)) ∙ ap Some (sym c.job_at-job.ensures) in
    told_stopped {T = Unit {0}} {U = Unit {0}} _ _ _ _ _ _ _ _ _ _ _ (settled_next c.args.heading.now.name.now c.args.slices jobs _ c.loop-place.place _ _ at (slice_get-get_or c.args.answers.now c.loop-place.place _ c.loop-place-test.true)) (c.loop-place.invariant.told jobs has) c.in_err-tell_settled.ensures)

pub loop-place-preserved : goal.loop-place-preserved
loop-place-preserved g c = record {
  told = λ jobs has. let at : slice_get jobs c.loop-place.place ≡ Some c.job_at-job.result = has.named c.loop-place.place (omega (arith, c.loop-place-test.true, has.enough)) ∙ ap Some (sym c.job_at-job.ensures) in
      told_more _ _ _ _ _ _ _ _ _ _ (settled_next c.args.heading.now.name.now c.args.slices jobs _ c.loop-place.place _ _ at (slice_get-get_or c.args.answers.now c.loop-place.place _ c.loop-place-test.true)) (c.loop-place.invariant.told jobs has) c.in_ok-tell_settled.ensures;
}

pub returns : goal.returns
returns g c = λ jobs has. told_all _ _ _ _ _ _ (settled_end c.args.heading.now.name.now c.args.slices jobs _ c.loop-place.place c.loop-place-test.false) (c.loop-place.invariant.told jobs has)
