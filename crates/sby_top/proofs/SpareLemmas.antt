-- A finding that an end carries spares its job.
use Rattle.std.proofs.Common.{◌≡◌, ℕ, ◌<◌, List, [], refl, ap, sym, ◌∙◌, subst, inl, inr, length, arith}
use Rattle.std.specs.Prelude.{Contains, Option, Some, slice_get}
use Rattle.std.proofs.lemmas.Option.{slice_get-get_or}
use Rattle.sby_edge.specs.Cause.{CountsOf}
use Rattle.sby_edge.specs.Child.{YardOf}
use Rattle.sby_edge.specs.Files.{Store}
use Rattle.judge.specs.Finding.{FindingOf}
use Rattle.judge.specs.Problem.{AskedOf}
use Rattle.race_core.specs.Asking.{name_at}
use Rattle.race_core.specs.Carrying.{Carries}
use Rattle.race_core.specs.Consistent.{end_at}
use Rattle.race_core.specs.Report.{ReportOf}
use Rattle.race_core.specs.declared.end.JobEnd.{JobEnd}
use Rattle.race_core.specs.declared.end.JobEnd.TheVariants.{Found, Unknown, NotServed, Bad, ReadFailed, StartFailed, HoldFailed, Skipped, CalledOff, Stopped, Memory as MemoryEnd}
use Rattle.sby_terms.specs.Problem.{ProblemOf}
use Rattle.sby_terms.specs.declared.names.Mode.{Mode}
use Rattle.sby_lines.proofs.PlaceLemmas.{at_contains, job_named}
use Rattle.task_race.specs.Ends.{HasEndCause}
use Rattle.task_race.specs.Ran.{RacingOf}
use Rattle.task_race.proofs.EndLemmas.{lane_cause}
use Rattle.sby_top.specs.Judged.{AreReports, AreStreamReports, racing_of}
use Rattle.sby_top.specs.Served.{IsAccepted, jobs_in}
use Rattle.sby_top.specs.Task.{Lanes, Service, Streams, TaskOf}
use Rattle.sby_top.specs.World.{RaceOf}
use Rattle.sby_top.proofs.AnswerLemmas.{IsPlace, Spares, calling_spares, skipping_spares}
use Rattle.sby_top.proofs.EvidenceLemmas.{judged_job}
use Rattle.sby_top.proofs.JobLemmas.{judged_count}
use Rattle.sby_top.proofs.OpenLemmas.{is_place}
use Rattle.sby_top.proofs.PlainLemmas.{carried_at}
use Rattle.sby_top.proofs.ReportLemmas.{first_or_later, nothing_in}

-- in a lane: its own find is one for the job, and it is skipped or called off by one that spares it
pub lane_spares : (racing : RacingOf) (may_read : ℕ → Type 0) (told : Option YardOf) (counts : CountsOf) (start : Option ℕ) (lane place : ℕ) (mode : Mode) → IsPlace mode place → (e : JobEnd FindingOf)
    → HasEndCause racing may_read told counts start lane (name_at mode place) e → (f : FindingOf) → Carries e f → Spares mode place f.job f.answer
lane_spares racing may_read told counts start lane place mode within (Found g) cause f carries =
    subst (λ (x : FindingOf). Spares mode place x.job x.answer) carries (inl (judged_job racing told lane (name_at mode place) g cause))
lane_spares racing may_read told counts start lane place mode within (Skipped g) cause f carries =
    subst (λ (x : FindingOf). Spares mode place x.job x.answer) carries (skipping_spares mode place g.job g.answer within cause.2)
lane_spares racing may_read told counts start lane place mode within (CalledOff g) cause f carries =
    subst (λ (x : FindingOf). Spares mode place x.job x.answer) carries (calling_spares mode place g.job g.answer within cause.2)
lane_spares racing may_read told counts start lane place mode within Unknown cause f carries = absurd carries
lane_spares racing may_read told counts start lane place mode within NotServed cause f carries = absurd carries
lane_spares racing may_read told counts start lane place mode within (Bad number at) cause f carries = absurd carries
lane_spares racing may_read told counts start lane place mode within ReadFailed cause f carries = absurd carries
lane_spares racing may_read told counts start lane place mode within StartFailed cause f carries = absurd carries
lane_spares racing may_read told counts start lane place mode within HoldFailed cause f carries = absurd carries
lane_spares racing may_read told counts start lane place mode within (Stopped t) cause f carries = absurd carries
lane_spares racing may_read told counts start lane place mode within MemoryEnd cause f carries = absurd carries

-- of stored streams: each finding is one for its job
stream_job : (p : AskedOf) (told : Option Store) (paths : List (List ℕ)) (reports : List (ReportOf FindingOf)) → AreStreamReports p told paths reports → (lane place : ℕ) (r : ReportOf FindingOf)
    → slice_get reports lane ≡ Some r → place < length (jobs_in p) → (f : FindingOf) → Carries (end_at r place) f → f.job ≡ name_at p.problem.mode place
stream_job p told paths reports are lane place r at lt f carries = elim (first_or_later are.0 r [] (subst (λ rs. Contains rs r) are.2 (at_contains reports lane r at))) [
  | inl here ↦
      let size = judged_count p told (jobs_in p) paths are.0.ends are.1.ends in
      let own = carried_at p told (jobs_in p) paths are.0.ends place (end_at are.0 place) f are.1.ends (slice_get-get_or are.0.ends place NotServed (omega (arith, lt, size)))
      (subst (λ (q : ReportOf FindingOf). Carries (end_at q place) f) (sym here) carries) in
      let named = job_named p.problem.mode p.problem.span p.design place lt in
      let both : Some f.job ≡ Some (name_at p.problem.mode place) = sym own.1 ∙ named in cc
  | inr later ↦ absurd (nothing_in r later)
]

pub carried_spares : (may_read : ℕ → Type 0) (now : Option Store) (task : TaskOf) (p : AskedOf) (race : RaceOf) (service : Service) (reports : List (ReportOf FindingOf)) → AreReports service may_read task p now race reports
    → {told : Option Store} → IsAccepted told task p → (lane place : ℕ) (r : ReportOf FindingOf) → slice_get reports lane ≡ Some r → place < length (jobs_in p) → (f : FindingOf) → Carries (end_at r place) f
    → Spares task.request.mode place f.job f.answer
carried_spares may_read now task p race (Streams paths) reports are accepted lane place r at lt f carries =
    let mode : p.problem.mode ≡ task.request.mode = ap (λ (q : ProblemOf). q.mode) accepted.asked in
    inl (stream_job p now paths reports are.0 lane place r at lt f carries ∙ ap (λ m. name_at m place) mode)
carried_spares may_read now task p race (Lanes engines) reports ran accepted lane place r at lt f carries =
    let mode : p.problem.mode ≡ task.request.mode = ap (λ (q : ProblemOf). q.mode) accepted.asked in
    let cause = lane_cause (racing_of task p race.task engines) may_read race.before race.after race.start reports ran lane place r at lt (end_at r place) refl in
    subst (λ m. Spares m place f.job f.answer) mode
    (lane_spares (racing_of task p race.task engines) may_read race.before.scripts cause.0 race.start lane place p.problem.mode (is_place p.problem.mode p.problem.span p.design place lt) (end_at r place)
    cause.2 f carries)
