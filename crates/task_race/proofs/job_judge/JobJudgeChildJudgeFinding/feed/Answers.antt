use Rattle.std.proofs.Common.{◌∙◌, subst, sym}
use Rattle.task_race.proofs.Subjects.{solver_says, stream_says}
use Rattle.task_race.specs.Watching.{Watches}
use Rattle.task_race.specs.declared.job_judge.Watch.{Watch}
use Rattle.task_race.specs.declared.job_judge.Watch.TheVariants.{Stream, Solver}
use Rattle.task_race.proofs.job_judge.JobJudgeChildJudgeFinding.feed.Goals as goal

pub returns-in-Stream-clause-says : goal.returns-in-Stream-clause-says
returns-in-Stream-clause-says c =
    let s = c.args.self.now in
    let watches : Watches s.problem.now s.job s.evidence (Stream c.in-Stream.judge) s.output.bytes = subst (λ (w : Watch). Watches s.problem.now s.job s.evidence w s.output.bytes) (sym c.deref_mut.ensures.value ∙ c.in-Stream.is) c.requires in
    let fed = stream_says s.problem.now s.job s.evidence c.in-Stream.judge c.feed_stream.new.judge s.output.bytes c.args.piece.now c.feed_stream.result watches c.feed_stream.ensures in
    rw c.with_piece.ensures (fed.says c.has_file.ensures.0 c.has_file.ensures.1)

pub returns-in-Stream-clause-more : goal.returns-in-Stream-clause-more
returns-in-Stream-clause-more c =
    let s = c.args.self.now in
    let watches : Watches s.problem.now s.job s.evidence (Stream c.in-Stream.judge) s.output.bytes = subst (λ (w : Watch). Watches s.problem.now s.job s.evidence w s.output.bytes) (sym c.deref_mut.ensures.value ∙ c.in-Stream.is) c.requires in
    let fed = stream_says s.problem.now s.job s.evidence c.in-Stream.judge c.feed_stream.new.judge s.output.bytes c.args.piece.now c.feed_stream.result watches c.feed_stream.ensures in
    rw c.with_piece.ensures (fed.more c.has_file.ensures.0 c.has_file.ensures.1)

pub returns-in-Solver-clause-says : goal.returns-in-Solver-clause-says
returns-in-Solver-clause-says c =
    let s = c.args.self.now in
    let watches : Watches s.problem.now s.job s.evidence (Solver c.in-Solver.judge) s.output.bytes = subst (λ (w : Watch). Watches s.problem.now s.job s.evidence w s.output.bytes) (sym c.deref_mut.ensures.value ∙ c.in-Solver.is) c.requires in
    let fed = solver_says s.problem.now s.job s.evidence c.in-Solver.judge c.feed_solver.new.judge s.output.bytes c.args.piece.now c.feed_solver.result watches c.feed_solver.ensures in
    rw c.with_piece.ensures (fed.says c.has_file.ensures.0 c.has_file.ensures.1)

pub returns-in-Solver-clause-more : goal.returns-in-Solver-clause-more
returns-in-Solver-clause-more c =
    let s = c.args.self.now in
    let watches : Watches s.problem.now s.job s.evidence (Solver c.in-Solver.judge) s.output.bytes = subst (λ (w : Watch). Watches s.problem.now s.job s.evidence w s.output.bytes) (sym c.deref_mut.ensures.value ∙ c.in-Solver.is) c.requires in
    let fed = solver_says s.problem.now s.job s.evidence c.in-Solver.judge c.feed_solver.new.judge s.output.bytes c.args.piece.now c.feed_solver.result watches c.feed_solver.ensures in
    rw c.with_piece.ensures (fed.more c.has_file.ensures.0 c.has_file.ensures.1)
