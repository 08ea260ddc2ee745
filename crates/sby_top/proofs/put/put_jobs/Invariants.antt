use Rattle.std.proofs.Common.{◌≡◌, take}
use Rattle.sby_top.specs.Served.{ArePut, files_from, jobs_in}
use Rattle.sby_top.specs.Task.{task_seen}
use Rattle.sby_top.proofs.put.put_jobs.Given as goal

abbrev pub invariant-loop-place : goal.invariant-loop-place
invariant-loop-place g l = record {
  put : ArePut l.problem (task_seen l.task).request.name (files_from (task_seen l.task).service 0 (take l.place (jobs_in l.problem))) (g.F.Files.told l.fn.files) (g.F.Files.told l.files);
  still : g.F.Files.faults l.files ≡ g.F.Files.faults l.fn.files;
  blamed : g.F.Files.blamed l.files ≡ g.F.Files.blamed l.fn.files;
}
