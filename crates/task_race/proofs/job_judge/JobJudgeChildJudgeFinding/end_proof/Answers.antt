use Rattle.std.proofs.Common.{◌∙◌, subst, sym}
use Rattle.task_race.proofs.Subjects.{file_ended}
use Rattle.task_race.specs.Watching.{Proving}
use Rattle.task_race.specs.declared.job_judge.Watch.{Watch}
use Rattle.task_race.specs.declared.job_judge.Watch.TheVariants.{Stream}
use Rattle.task_race.proofs.job_judge.JobJudgeChildJudgeFinding.end_proof.Goals as goal

pub returns : goal.returns
returns c =
    let s = c.args.self.now in
    let proving : Proving s.problem.now s.job s.evidence (Stream c.in-Stream.judge) s.proof.bytes = subst (λ (w : Watch). Proving s.problem.now s.job s.evidence w s.proof.bytes) (sym c.deref_mut.ensures.value ∙ c.in-Stream.is) c.requires in
    let over = file_ended s.problem.now s.job s.evidence c.in-Stream.judge s.proof.bytes c.has_file.ensures.0 c.end_stream.result c.has_file.ensures.1 proving c.end_stream.ensures in
    record { says = over.0; whole = over.1 }
