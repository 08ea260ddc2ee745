-- A valid certificate of a child settles its job, in every mode.
use Rattle.std.proofs.Common.{◌≡◌, ℕ, zero, suc, ◌+◌, ◌<◌, List, [], ◌∷◌, refl, ap, sym, subst, inl, inr, ◌⊎◌, length, take, arith}
use Rattle.std.specs.Prelude.{Contains, None, Option, Some, slice_get}
use Rattle.std.proofs.lemmas.List.{get_or_default}
use Rattle.sby_edge.specs.Child.{up_to}
use Rattle.sby_edge.specs.Files.{Store}
use Rattle.sby_edge.specs.Script.{ScriptOf}
use Rattle.cert_judge.specs.Fate.{Found as FoundFate, Unknown as UnknownFate, Bad as BadFate}
use Rattle.judge.specs.Finding.{FindingOf}
use Rattle.judge.specs.Problem.{IsJobFile}
use Rattle.race_core.specs.Asking.{name_at}
use Rattle.race_core.specs.Carrying.{Carries}
use Rattle.race_core.specs.Collect.{SettledIn}
use Rattle.race_core.specs.Consistent.{end_at}
use Rattle.race_core.specs.Report.{ReportOf}
use Rattle.race_core.specs.Told.{told_by}
use Rattle.sby_terms.specs.declared.names.Event.TheVariants.{Fault as FaultEvent, Memory as MemoryEvent}
use Rattle.race_core.specs.declared.end.JobEnd.{JobEnd}
use Rattle.race_core.specs.declared.end.JobEnd.TheVariants.{Found, Unknown as UnknownEnd, NotServed, Bad, ReadFailed, StartFailed, HoldFailed, Skipped, CalledOff, Stopped, Memory as MemoryEnd}
use Rattle.sby_edge.specs.Cause.{CountsOf}
use Rattle.sby_lines.specs.Told.{job_of}
use Rattle.sby_terms.specs.Problem.{ProblemOf}
use Rattle.sby_terms.specs.declared.engine.Engine.{Engine}
use Rattle.sby_terms.specs.declared.names.Answer.{Answer}
use Rattle.sby_terms.specs.declared.names.Mode.{Mode}
use Rattle.task_race.specs.Fates.{most_bytes}
use Rattle.task_race.specs.Serving.{IsServing, evidence_at}
use Rattle.task_race.specs.Bays.{AreCountsOf}
use Rattle.task_race.specs.Ends.{HasEndCause, IsEndOfFate, IsFateOf, IsLimitShown, script_of}
use Rattle.task_race.specs.Ran.{LanesRan}
use Rattle.task_race.proofs.EndLemmas.{lane_cause}
use Rattle.task_race.proofs.FateLemmas.{end_of_fate}
use Rattle.task_race.proofs.PlaceLemmas.{at_contains, stands_at}
use Rattle.sby_top.specs.Claims.{HasOwnFailedCall, IsJobInTime, IsJudgedAt}
use Rattle.sby_top.specs.Judged.{AreReports, racing_of}
use Rattle.sby_top.specs.Served.{jobs_in}
use Rattle.sby_top.specs.Task.{Lanes, TaskOf}
use Rattle.sby_top.specs.World.{Moments, race_of}
use Rattle.sby_top.specs.declared.outcome.TaskEnd.{TaskEnd}
use Rattle.sby_top.proofs.EvidenceLemmas.{judged_job}
use Rattle.sby_terms.specs.declared.names.JobName.{JobName}

pub serving_within : (engines : List Engine) (lane : ℕ) (job : JobName) → IsServing (slice_get engines lane) job → lane < length engines
serving_within [] lane job serving = absurd serving
serving_within (e ∷ engines) zero job serving = omega arith
serving_within (e ∷ engines) (suc lane) job serving = let rest = serving_within engines lane job serving in omega (rest, arith)

-- the ends of a job with a valid certificate that don't settle it
abbrev pub Hinders : (ℕ → Type 0) → Option ℕ → Type 0 → Option ℕ → JobEnd FindingOf → Type 0
Hinders may_read limit Failed start e =
    ((told_by e ≡ FaultEvent) × Failed) ⊎ ((t : ℕ) × (e ≡ Stopped t) × IsLimitShown may_read limit start t) ⊎ (told_by e ≡ MemoryEvent)

module _ (may_read : ℕ → Type 0) (number : ℕ) (moments : Moments) (task : TaskOf) (end : TaskEnd) (engines : List Engine) (lane place : ℕ) (script : ScriptOf) (now : Store) (file : List ℕ) (answer : Answer)
    (judged : IsJudgedAt may_read number moments task end now) (service : task.service ≡ Lanes engines) (lt : place < length (jobs_in judged.done.problem)) (serving : IsServing (slice_get engines lane) (name_at task.request.mode place))
    (script_is : script_of moments.before.yard.scripts number lane (name_at task.request.mode place) ≡ Some script) (no_gate : script.gate ≡ None) (own_file : IsJobFile judged.done.problem (name_at task.request.mode place) file)
    (valid : IsFateOf judged.done.problem (name_at task.request.mode place) (evidence_at (slice_get engines lane)) file (up_to script.stalls script.bytes) (take (most_bytes + 1) script.proof) (FoundFate answer)) where
  lanes_ran : LanesRan (racing_of task judged.done.problem number engines) moments.pool may_read moments.before.yard moments.after.yard end.start end.reports.items
  lanes_ran = subst (λ s. AreReports s may_read task judged.done.problem moments.put.told (race_of number moments.pool moments.before moments.after end.start) end.reports.items) service judged.done.reports_are

  own_report : (r : ReportOf FindingOf) × (slice_get end.reports.items lane ≡ Some r)
  own_report = let count = lanes_ran.consistent.lanes_are in let within = serving_within engines lane (name_at task.request.mode place) serving in stands_at end.reports.items lane (omega (arith, count, within))

  own_cause : (counts : CountsOf) × AreCountsOf number lane moments.before.yard moments.after.yard counts
      × HasEndCause (racing_of task judged.done.problem number engines) may_read moments.before.yard.scripts counts end.start lane (name_at task.request.mode place) (end_at own_report.0 place)
  own_cause =
      let cause = lane_cause (racing_of task judged.done.problem number engines) may_read moments.before.yard moments.after.yard end.start end.reports.items lanes_ran lane place own_report.0 own_report.1 lt (end_at own_report.0 place) refl in (
        cause.0,
        cause.1,
        subst (λ (m : Mode). HasEndCause (racing_of task judged.done.problem number engines) may_read moments.before.yard.scripts cause.0 end.start lane (name_at m place) (end_at own_report.0 place))
            (ap (λ (q : ProblemOf). q.mode) judged.done.served.0.asked) cause.2,
      )

  own_fate : IsEndOfFate (FoundFate answer) (end_at own_report.0 place)
  own_fate = end_of_fate (racing_of task judged.done.problem number engines) may_read moments.before.yard.scripts own_cause.0 end.start lane (name_at task.request.mode place) script file (FoundFate answer) serving script_is no_gate own_file
      judged.done.served.0.problem valid (end_at own_report.0 place) own_cause.2

  among : Contains end.reports.items own_report.0
  among = at_contains end.reports.items lane own_report.0 own_report.1

  settles : (f : FindingOf) → end_at own_report.0 place ≡ Found f → f.job ≡ name_at task.request.mode place → SettledIn job_of end.reports.items (name_at task.request.mode place) f
  settles f is of_job =
      let size = (lanes_ran.consistent.replays lane own_report.0 own_report.1).ends in
      let within : place < length own_report.0.ends = omega (arith, size, lt) in (
        own_report.0,
        among,
        (end_at own_report.0 place, (place, within, get_or_default own_report.0.ends place (end_at own_report.0 place) NotServed within), subst (λ (x : JobEnd FindingOf). Carries x f) (sym is) refl),
        of_job,
      )

  by_end : (e : JobEnd FindingOf) → end_at own_report.0 place ≡ e
      → HasEndCause (racing_of task judged.done.problem number engines) may_read moments.before.yard.scripts own_cause.0 end.start lane (name_at task.request.mode place) e → IsEndOfFate (FoundFate answer) e
      → IsJobInTime may_read number lane place moments task judged.done.problem engines end answer
  by_end (Found f) is cause fate =
      let same : f.answer ≡ answer = cc in
      inl (f, settles f is (judged_job (racing_of task judged.done.problem number engines) moments.before.yard.scripts lane (name_at task.request.mode place) f cause), same)
  by_end UnknownEnd is cause fate = let no : FoundFate answer ≡ UnknownFate = fate in cc
  by_end (Bad kind at) is cause fate = let no : FoundFate answer ≡ BadFate fate.0 at = fate.2 in cc
  by_end NotServed is cause fate = absurd fate
  by_end ReadFailed is cause fate = inr (inl (own_cause.0, own_cause.1, inr (inl cause)))
  by_end StartFailed is cause fate = inr (inl (own_cause.0, own_cause.1, inl cause))
  by_end HoldFailed is cause fate = inr (inl (own_cause.0, own_cause.1, inr (inr cause)))
  by_end (Skipped f) is cause fate = inr (inr (inr (inr (own_report.0, own_report.1, (f, subst (λ (x : JobEnd FindingOf). Carries x f) (sym is) refl, inl cause)))))
  by_end (CalledOff f) is cause fate = inr (inr (inr (inr (own_report.0, own_report.1, (f, subst (λ (x : JobEnd FindingOf). Carries x f) (sym is) refl, inr cause)))))
  by_end (Stopped t) is cause fate = inr (inr (inl (own_report.0, own_report.1, (t, is, cause))))
  by_end MemoryEnd is cause fate = inr (inr (inr (inl (own_report.0, own_report.1, is))))

  pub child_settles : IsJobInTime may_read number lane place moments task judged.done.problem engines end answer
  child_settles = by_end (end_at own_report.0 place) refl own_cause.2 own_fate

  hinders : (e : JobEnd FindingOf) → ((f : FindingOf) → Carries e f → ⊥)
      → HasEndCause (racing_of task judged.done.problem number engines) may_read moments.before.yard.scripts own_cause.0 end.start lane (name_at task.request.mode place) e → IsEndOfFate (FoundFate answer) e
      → Hinders may_read task.request.limit (HasOwnFailedCall number lane moments.before.yard moments.after.yard) end.start e
  hinders (Found f) none cause fate = absurd (none f refl)
  hinders UnknownEnd none cause fate = let no : FoundFate answer ≡ UnknownFate = fate in cc
  hinders (Bad kind at) none cause fate = let no : FoundFate answer ≡ BadFate fate.0 at = fate.2 in cc
  hinders NotServed none cause fate = absurd fate
  hinders ReadFailed none cause fate = inl (refl, (own_cause.0, own_cause.1, inr (inl cause)))
  hinders StartFailed none cause fate = inl (refl, (own_cause.0, own_cause.1, inl cause))
  hinders HoldFailed none cause fate = inl (refl, (own_cause.0, own_cause.1, inr (inr cause)))
  hinders (Skipped f) none cause fate = absurd (none f refl)
  hinders (CalledOff f) none cause fate = absurd (none f refl)
  hinders (Stopped t) none cause fate = inr (inl (t, refl, cause))
  hinders MemoryEnd none cause fate = inr (inr refl)

  -- an end of the job that carries no finding hinders it
  pub child_hindered : ((r : ReportOf FindingOf) → slice_get end.reports.items lane ≡ Some r → (f : FindingOf) → Carries (end_at r place) f → ⊥)
      → (r : ReportOf FindingOf) × (slice_get end.reports.items lane ≡ Some r) × Hinders may_read task.request.limit (HasOwnFailedCall number lane moments.before.yard moments.after.yard) end.start (end_at r place)
  child_hindered none = (own_report.0, own_report.1, hinders (end_at own_report.0 place) (none own_report.0 own_report.1) own_cause.2 own_fate)
