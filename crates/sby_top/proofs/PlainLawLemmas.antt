-- The plain status of a task that was judged: there is one, and only one.
use Rattle.std.proofs.Common.{◌≡◌, ℕ, ◌<◌, List, refl, ap, sym, subst, length}
use Rattle.std.specs.Prelude.{IsSome, Option, Some, None}
use Rattle.sby_edge.specs.Child.{YardOf}
use Rattle.sby_edge.specs.Files.{Store}
use Rattle.sby_edge.specs.Script.{ScriptOf}
use Rattle.judge.specs.Finding.{FindingOf}
use Rattle.judge.specs.Problem.{IsJobFile}
use Rattle.race_core.specs.Asking.{name_at}
use Rattle.race_core.specs.Collect.{AreCollected, IsStatus}
use Rattle.race_core.specs.Report.{ReportOf}
use Rattle.sby_terms.specs.Problem.{ProblemOf}
use Rattle.sby_terms.specs.declared.engine.Engine.{Engine}
use Rattle.sby_terms.specs.declared.names.Answer.{Answer}
use Rattle.sby_terms.specs.declared.names.JobName.{JobName}
use Rattle.sby_terms.specs.declared.names.Mode.{Mode}
use Rattle.sby_terms.specs.declared.names.Status.{Status}
use Rattle.sby_lines.specs.Told.{answer_of, job_of, jobs_for}
use Rattle.sby_lines.proofs.PlaceLemmas.{job_named}
use Rattle.task_race.specs.Ends.{script_of}
use Rattle.task_race.specs.Ran.{RacingOf}
use Rattle.sby_top.specs.Claims.{IsJudgedAt}
use Rattle.sby_top.specs.Complete.{ArePlain, IsPlainLanesStatus}
use Rattle.sby_top.specs.Judged.{racing_of}
use Rattle.sby_top.specs.Served.{jobs_in}
use Rattle.sby_top.specs.Task.{TaskOf}
use Rattle.sby_top.specs.World.{Moments}
use Rattle.sby_top.specs.declared.outcome.TaskEnd.{TaskEnd}
use Rattle.sby_top.proofs.PutLemmas.{file_put}
use Rattle.sby_top.proofs.ExistLemmas.{some_answers, status_exists}
use Rattle.sby_top.proofs.LawLemmas.{OneFate, OneFile}
use Rattle.sby_top.proofs.PlainOnceLemmas.{once}
use Rattle.sby_top.proofs.PlainStatusLemmas.{SomeFate, some_reports}
use Rattle.sby_top.proofs.ReportLemmas.{job_count}

module _ (may_read : ℕ → Type 0) (number : ℕ) (moments : Moments) (task : TaskOf) (end : TaskEnd) (engines : List Engine) (now : Store) (judged : IsJudgedAt may_read number moments task end now) where
  abbrev Racing : RacingOf
  Racing = racing_of task judged.done.problem number engines

  mode_is : judged.done.problem.problem.mode ≡ task.request.mode
  mode_is = ap (λ (q : ProblemOf). q.mode) judged.done.served.0.asked

  count : length (jobs_in judged.done.problem) ≡ length (jobs_for task.request judged.done.problem.design)
  count = job_count moments.got.told task judged.done.problem judged.done.served.0

  file_at : (k : ℕ) → k < length (jobs_in judged.done.problem) → (file : List ℕ) × IsJobFile judged.done.problem (name_at judged.done.problem.problem.mode k) file
  file_at k lt =
      file_put task.service judged.done.problem task.request.name moments.got.told moments.put.told judged.done.put k (name_at judged.done.problem.problem.mode k)
      (job_named judged.done.problem.problem.mode judged.done.problem.problem.span judged.done.problem.design k lt)

  exists_by : SomeFate → OneFile → (o : Option YardOf) → moments.before.yard.scripts ≡ o → IsSome o → ((status : Status) → IsPlainLanesStatus moments task judged.done.problem number engines status → ⊥) → ⊥
  exists_by some_fate one_file None is some none = absurd (cc)
  exists_by some_fate one_file (Some scripts) is some none = some_reports some_fate one_file Racing judged.done.served.0.problem scripts file_at (λ reports are.
      let answers = some_answers job_of answer_of task.request.mode (length (jobs_for task.request judged.done.problem.design)) reports in
      let status = status_exists job_of task.request.mode reports answers.0 in
      none status.0 (record { reports = reports; are_plain = subst (λ o. ArePlain Racing o reports) (sym is) are; is_status = (answers.0, answers.1, status.1) }))

  pub plain_exists : SomeFate → OneFile → IsSome moments.before.yard.scripts → ((status : Status) → IsPlainLanesStatus moments task judged.done.problem number engines status → ⊥) → ⊥
  plain_exists some_fate one_file some none = exists_by some_fate one_file moments.before.yard.scripts refl some none

  own_answers : (reports : List (ReportOf FindingOf)) (answers : List (Option Answer)) → AreCollected job_of answer_of task.request.mode (length (jobs_for task.request judged.done.problem.design)) reports answers
      → AreCollected job_of answer_of judged.done.problem.problem.mode (length (jobs_in judged.done.problem)) reports answers
  own_answers reports answers are =
      subst (λ n. AreCollected job_of answer_of judged.done.problem.problem.mode n reports answers) (sym count)
      (subst (λ (m : Mode). AreCollected job_of answer_of m (length (jobs_for task.request judged.done.problem.design)) reports answers) (sym mode_is) are)

  own_status : (reports : List (ReportOf FindingOf)) (answers : List (Option Answer)) (s : Status) → IsStatus job_of task.request.mode reports answers s → IsStatus job_of judged.done.problem.problem.mode reports answers s
  own_status reports answers s is = subst (λ (m : Mode). IsStatus job_of m reports answers s) (sym mode_is) is

  script_at : (o : Option YardOf) → moments.before.yard.scripts ≡ o → IsSome o → (lane : ℕ) (job : JobName) → (script : ScriptOf) × (script_of moments.before.yard.scripts number lane job ≡ Some script)
  script_at None is some lane job = absurd (cc)
  script_at (Some scripts) is some lane job = (scripts number lane job, ap (λ (x : Option YardOf). script_of x number lane job) is)

  pub plain_once : OneFate → IsSome moments.before.yard.scripts → ((lane : ℕ) (job : JobName) (script : ScriptOf) → script_of moments.before.yard.scripts number lane job ≡ Some script → script.gate ≡ None) → (s t : Status)
      → IsPlainLanesStatus moments task judged.done.problem number engines s → IsPlainLanesStatus moments task judged.done.problem number engines t → s ≡ t
  plain_once one some ungated s t is too =
      once one Racing judged.done.served.0.problem moments.before.yard.scripts (λ lane job. let script = script_at moments.before.yard.scripts refl some lane job in (script.0, script.1, ungated lane job script.0 script.1)) file_at
      judged.done.problem.problem.span judged.done.problem.design refl is.reports too.reports is.are_plain too.are_plain is.is_status.0 too.is_status.0
      (own_answers is.reports is.is_status.0 is.is_status.1) (own_answers too.reports too.is_status.0 too.is_status.1) s t
      (own_status is.reports is.is_status.0 s is.is_status.2) (own_status too.reports too.is_status.0 t too.is_status.2)
