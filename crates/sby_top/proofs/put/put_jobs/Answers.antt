use Rattle.std.proofs.Common.{◌∙◌, arith}
use Rattle.std.proofs.lemmas.Result.{err_from_is_err_and}
use Rattle.sby_top.specs.Task.{task_seen}
use Rattle.sby_top.proofs.PutLemmas.{put_failed, put_next}
use Rattle.sby_top.proofs.put.put_jobs.Goals as goal

pub returns-in_err-put_job-clause-err : goal.returns-in_err-put_job-clause-err
returns-in_err-put_job-clause-err g c = let p = err_from_is_err_and c.from_residual.result c.from_residual.ensures.1 in
    let inv = c.loop-place.invariant in
    let h = c.in_err-put_job.ensures.err in
    rw (p.1, p.2) (put_failed (task_seen c.args.task.now).service c.args.problem.now (task_seen c.args.task.now).request.name c.loop-place.place _ _ _ h.0 _ h.1 inv.put inv.still h.2)

pub returns-in_err-put_job-clause-later : goal.returns-in_err-put_job-clause-later
returns-in_err-put_job-clause-later g c = omega (arith, c.loop-place.invariant.still, c.in_err-put_job.ensures.later)

pub loop-place-preserved : goal.loop-place-preserved
loop-place-preserved g c = let h = c.in_ok-put_job.ensures.ok in record {
  put = put_next (task_seen c.args.task.now).service c.args.problem.now (task_seen c.args.task.now).request.name c.loop-place.place _ _ _ h.0 h.1 c.loop-place.invariant.put h.2;
  still = c.in_ok-put_job.ensures.still ∙ c.loop-place.invariant.still;
  blamed = c.in_ok-put_job.ensures.blamed ∙ c.loop-place.invariant.blamed;
}
