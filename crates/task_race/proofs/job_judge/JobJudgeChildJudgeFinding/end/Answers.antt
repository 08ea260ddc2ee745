use Rattle.std.proofs.Common.{◌∙◌, subst, sym}
use Rattle.task_race.proofs.Subjects.{ended_awaits, solver_says_ended, stream_says_ended}
use Rattle.task_race.specs.Watching.{Watches}
use Rattle.task_race.specs.declared.job_judge.Watch.{Watch}
use Rattle.task_race.specs.declared.job_judge.Watch.TheVariants.{Stream, Solver}
use Rattle.task_race.proofs.job_judge.JobJudgeChildJudgeFinding.end.Goals as goal

pub returns-in-Stream-clause-says : goal.returns-in-Stream-clause-says
returns-in-Stream-clause-says c =
    let s = c.args.self.now in
    let watches : Watches s.problem.now s.job s.evidence (Stream c.in-Stream.judge) s.output.bytes = subst (λ (w : Watch). Watches s.problem.now s.job s.evidence w s.output.bytes) (sym c.deref_mut.ensures.value ∙ c.in-Stream.is) c.requires in
    stream_says_ended s.problem.now s.job s.evidence c.in-Stream.judge s.output.bytes c.end_stream.result watches c.end_stream.ensures c.has_file.ensures.0 c.has_file.ensures.1

pub returns-in-Stream-clause-more : goal.returns-in-Stream-clause-more
returns-in-Stream-clause-more c =
    let s = c.args.self.now in
    ended_awaits s.problem.now s.job s.evidence s.watch.value s.output.bytes c.has_file.ensures.0 c.end_stream.result c.requires c.has_file.ensures.1
    (returns-in-Stream-clause-says c)

pub returns-in-Solver-clause-says : goal.returns-in-Solver-clause-says
returns-in-Solver-clause-says c =
    let s = c.args.self.now in
    let watches : Watches s.problem.now s.job s.evidence (Solver c.in-Solver.judge) s.output.bytes = subst (λ (w : Watch). Watches s.problem.now s.job s.evidence w s.output.bytes) (sym c.deref_mut.ensures.value ∙ c.in-Solver.is) c.requires in
    solver_says_ended s.problem.now s.job s.evidence c.in-Solver.judge s.output.bytes c.end_solver.result watches c.end_solver.ensures c.has_file.ensures.0 c.has_file.ensures.1

pub returns-in-Solver-clause-more : goal.returns-in-Solver-clause-more
returns-in-Solver-clause-more c =
    let s = c.args.self.now in
    ended_awaits s.problem.now s.job s.evidence s.watch.value s.output.bytes c.has_file.ensures.0 c.end_solver.result c.requires c.has_file.ensures.1
    (returns-in-Solver-clause-says c)
