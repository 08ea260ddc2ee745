use Rattle.std.proofs.lemmas.Result.{err_from_is_err_and}
use Rattle.sby_top.specs.Judged.{racing_of}
use Rattle.sby_top.specs.Task.{task_seen}
use Rattle.sby_top.proofs.FileLemmas.{has_files}
use Rattle.sby_top.proofs.ServeLemmas.{short_since}
use Rattle.sby_top.proofs.host.Host.prepare.Goals as goal

pub returns-in_err-serving-clause-err : goal.returns-in_err-serving-clause-err
returns-in_err-serving-clause-err g c = let p = err_from_is_err_and c.from_residual-in_err-serving.result c.from_residual-in_err-serving.ensures.1 in
    let h = c.in_ok-problem.ensures in
    rw (p.1, p.2) (short_since (task_seen c.args.task.now) c.in_ok-problem.problem _ _ _ _ _ _ _ _ _ _ h.ok h.told h.still h.blamed c.in_err-serving.ensures.err)

pub returns-clause-ready : goal.returns-clause-ready
returns-clause-ready g c = record {
  served = (_, c.in_ok-problem.ensures.ok);
  files = λ engines store lanes told. has_files c.one_file.ensures.file (task_seen c.args.task.now).service (racing_of (task_seen c.args.task.now) c.in_ok-problem.problem c.args.number engines) c.in_ok-problem.ensures.ok.0.problem lanes _ _
      c.in_ok-serving.ensures.put store told;
  serving = c.in_ok-serving.ensures.serving;
  room = rw (← c.job_count.ensures, ← c.report_count.ensures) c.in-Ok.ensures;
}

pub returns-in_err-serving-clause-spared : goal.returns-in_err-serving-clause-spared
returns-in_err-serving-clause-spared g c = let p = err_from_is_err_and c.from_residual-in_err-serving.result c.from_residual-in_err-serving.ensures.1 in
    rw (p.1, p.2) c.in_err-serving.ensures.spared
