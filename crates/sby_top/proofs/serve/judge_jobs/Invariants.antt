use Rattle.std.proofs.Common.{◌≡◌, map, take}
use Rattle.std.specs.Prelude.{string_bytes}
use Rattle.sby_top.specs.Judged.{AreJudged}
use Rattle.sby_top.specs.Served.{jobs_in}
use Rattle.sby_top.proofs.serve.judge_jobs.Given as goal

abbrev pub invariant-loop-place : goal.invariant-loop-place
invariant-loop-place g l = record {
  judged : AreJudged l.problem (g.F.Files.told l.fn.files) (take l.place (jobs_in l.problem)) (map string_bytes l.paths) l.report.ends;
  report : l.report ≡ record l.fn.report { ends = l.report.ends };
  told : g.F.Files.told l.files ≡ g.F.Files.told l.fn.files;
  still : g.F.Files.faults l.files ≡ g.F.Files.faults l.fn.files;
  blamed : g.F.Files.blamed l.files ≡ g.F.Files.blamed l.fn.files;
}
