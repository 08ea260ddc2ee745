use Rattle.std.proofs.Common.{◌≡◌, ◌∙◌, ◌+◌, ◌<◌, ◌∷◌, ◌++◌, [], List, ap, length, map, subst, sym, take, arith}
use Rattle.std.specs.Prelude.{Some, slice_get, string_bytes}
use Rattle.std.proofs.lemmas.Result.{err_from_is_err_and}
use Rattle.judge.specs.Finding.{FindingOf}
use Rattle.race_core.specs.Report.{ReportOf}
use Rattle.race_core.specs.declared.end.JobEnd.{JobEnd}
use Rattle.sby_terms.specs.declared.names.JobName.{JobName}
use Rattle.sby_top.specs.Judged.{AreJudged}
use Rattle.sby_top.specs.Served.{jobs_in}
use Rattle.sby_top.specs.Steps.{IsPathJudged}
use Rattle.sby_top.proofs.JobLemmas.{judged_next, judged_room}
use Rattle.sby_top.proofs.serve.judge_jobs.Goals as goal

pub push_end-requires : goal.push_end-requires
push_end-requires g c =
    let p = c.args.problem.now in
    let lt : c.loop-place.place < length (jobs_in c.args.problem.now) = omega (arith, c.loop-place-test.true, c.jobs-place-end.ensures) in
    let jobs : c.loop-place.report.jobs ≡ c.args.report.now.jobs = ap (λ (r : ReportOf FindingOf). r.jobs) c.loop-place.invariant.report in
    let room = judged_room p _ c.loop-place.place (map string_bytes c.args.paths.now) c.loop-place.report.ends lt c.loop-place.invariant.judged in
    omega (arith, lt, jobs, room, c.requires.room)

pub loop-place-preserved : goal.loop-place-preserved
loop-place-preserved g c =
    let p = c.args.problem.now in
    let paths = map string_bytes c.args.paths.now in
    let inv = c.loop-place.invariant in
    let ends : c.push_end.new.self.ends ≡ c.loop-place.report.ends ++ c.in_ok-end.end ∷ [] = ap (λ (r : ReportOf FindingOf). r.ends) c.push_end.ensures in
    record {
      judged = subst (λ (es : List (JobEnd FindingOf)). AreJudged c.args.problem.now (g.F.Files.told c.args.files.now) (take (c.loop-place.place + 1) (jobs_in c.args.problem.now)) (map string_bytes c.args.paths.now) es) (sym ends)
          (judged_next p (g.F.Files.told c.args.files.now) c.loop-place.place paths c.loop-place.report.ends c.in_ok-end.end inv.judged
          (subst (λ told. (job : JobName) × (slice_get (jobs_in c.args.problem.now) c.loop-place.place ≡ Some job)
          × IsPathJudged c.args.problem.now told job (slice_get (map string_bytes c.args.paths.now) c.loop-place.place) c.in_ok-end.end) inv.told c.in_ok-end.ensures.ok));
      report = c.push_end.ensures ∙ ap (λ (r : ReportOf FindingOf). record r { ends = c.loop-place.report.ends ++ c.in_ok-end.end ∷ [] }) inv.report
          ∙ ap (λ (es : List (JobEnd FindingOf)). record c.args.report.now { ends = es }) (sym ends);
      told = c.in_ok-end.ensures.told ∙ inv.told;
      blamed = c.in_ok-end.ensures.blamed ∙ inv.blamed;
      still = c.in_ok-end.ensures.still ∙ inv.still;
    }

pub returns-in_err-end-clause-err : goal.returns-in_err-end-clause-err
returns-in_err-end-clause-err g c = let p = err_from_is_err_and c.from_residual.result c.from_residual.ensures.1 in
    let inv = c.loop-place.invariant in
    rw (p.1, p.2) (rw (← inv.told, ← inv.still, ← inv.blamed) c.in_err-end.ensures.err)

pub returns-in_err-end-clause-told : goal.returns-in_err-end-clause-told
returns-in_err-end-clause-told g c = c.in_err-end.ensures.told ∙ c.loop-place.invariant.told

pub returns-in_err-end-clause-later : goal.returns-in_err-end-clause-later
returns-in_err-end-clause-later g c = omega (arith, c.loop-place.invariant.still, c.in_err-end.ensures.later)
