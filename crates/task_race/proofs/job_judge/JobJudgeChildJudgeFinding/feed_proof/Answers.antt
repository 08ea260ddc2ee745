use Rattle.std.proofs.Common.{◌∙◌, subst, sym}
use Rattle.task_race.proofs.Subjects.{file_fed}
use Rattle.task_race.specs.Watching.{Proving}
use Rattle.task_race.specs.declared.job_judge.Watch.{Watch}
use Rattle.task_race.specs.declared.job_judge.Watch.TheVariants.{Stream}
use Rattle.task_race.proofs.job_judge.JobJudgeChildJudgeFinding.feed_proof.Goals as goal

pub returns-clause-says : goal.returns-clause-says
returns-clause-says c =
    let s = c.args.self.now in
    let proving : Proving s.problem.now s.job s.evidence (Stream c.in-Stream.judge) s.proof.bytes = subst (λ (w : Watch). Proving s.problem.now s.job s.evidence w s.proof.bytes) (sym c.deref_mut.ensures.value ∙ c.in-Stream.is) c.requires in
    let fed = file_fed s.problem.now s.job s.evidence c.in-Stream.judge c.feed_stream.new.judge s.proof.bytes c.args.piece.now c.has_file.ensures.0 c.feed_stream.result c.has_file.ensures.1 proving c.feed_stream.ensures in
    rw c.with_piece.ensures fed.0

pub returns-clause-more : goal.returns-clause-more
returns-clause-more c =
    let s = c.args.self.now in
    let proving : Proving s.problem.now s.job s.evidence (Stream c.in-Stream.judge) s.proof.bytes = subst (λ (w : Watch). Proving s.problem.now s.job s.evidence w s.proof.bytes) (sym c.deref_mut.ensures.value ∙ c.in-Stream.is) c.requires in
    let fed = file_fed s.problem.now s.job s.evidence c.in-Stream.judge c.feed_stream.new.judge s.proof.bytes c.args.piece.now c.has_file.ensures.0 c.feed_stream.result c.has_file.ensures.1 proving c.feed_stream.ensures in
    rw c.with_piece.ensures fed.1
