-- Each status names its event.
use Rattle.std.proofs.Common.{◌≡◌, List, ℕ, refl, ap, sym, ◌∙◌, subst, inl, inr, ◌⊎◌, ◌<◌, length, arith}
use Rattle.std.specs.Prelude.{Contains, Option, Some, None, slice_get}
use Rattle.std.proofs.lemmas.Option.{slice_get_within}
use Rattle.design_core.specs.Shape.{DesignOf}
use Rattle.design_reader.specs.Grammar.{Reads}
use Rattle.judge.specs.Finding.{FindingOf}
use Rattle.judge.specs.Jobs.{jobs_in as jobs_of_mode}
use Rattle.race_core.specs.Carrying.{Carries}
use Rattle.race_core.specs.Consistent.{end_at}
use Rattle.race_core.specs.Report.{ReportOf}
use Rattle.race_core.specs.Told.{Decided, told_by}
use Rattle.race_core.specs.declared.end.JobEnd.{JobEnd}
use Rattle.race_core.specs.declared.end.JobEnd.TheVariants.{Found, Unknown as UnknownEnd, NotServed, Bad, ReadFailed, StartFailed, HoldFailed, Skipped, CalledOff, Stopped, Memory as MemoryEnd}
use Rattle.sby_terms.specs.Problem.{ProblemOf}
use Rattle.sby_terms.specs.Decide.{Decides}
use Rattle.sby_terms.specs.Status.{HasStatus}
use Rattle.sby_terms.specs.declared.names.Answer.{Answer}
use Rattle.sby_terms.specs.declared.names.Event.{Event}
use Rattle.sby_terms.specs.declared.names.Event.TheVariants.{Fault as FaultEvent, Memory as MemoryEvent, Stopped as StoppedEvent}
use Rattle.sby_terms.specs.declared.names.Status.{Status}
use Rattle.sby_terms.specs.declared.names.Status.TheVariants.{Pass, Fail, Unknown, Error, Timeout, Memory}
use Rattle.sby_terms.specs.declared.names.Verdict.{Verdict}
use Rattle.sby_lines.specs.Lines.{IsStatus}
use Rattle.sby_lines.specs.Told.{AreAnswers, CameTo, IsRaceStatus, Request}
use Rattle.sby_lines.proofs.PlaceLemmas.{at_contains, contains_at}
use Rattle.sby_lines.specs.declared.early.Early.{Early}
use Rattle.sby_lines.specs.declared.early.Early.TheVariants.{File, Sby, Task, Read, Design, TooMany, Streams, Memory as MemoryEarly}
use Rattle.sby_top.specs.Causes.{IsOutcome}
use Rattle.sby_top.specs.Claims.{IsCausedEnd, IsEvent, IsFaultyEnd, IsLeftEnd, IsOpenEnd, IsUnsettledEnd, WasJudged}
use Rattle.sby_top.specs.Headline.{NamesEvent, WasStopped}
use Rattle.sby_top.specs.Task.{TaskOf}
use Rattle.sby_top.specs.Served.{jobs_in}
use Rattle.sby_top.specs.World.{Moments, race_of}
use Rattle.sby_top.specs.declared.outcome.TaskEnd.{TaskEnd}
use Rattle.sby_top.proofs.OpenLemmas.{none_spared}
use Rattle.sby_top.proofs.ReportLemmas.{caused, job_count, reported}
use Rattle.sby_top.proofs.SpareLemmas.{carried_spares}
use Rattle.sby_top.proofs.TruthLemmas.{own_design}

early_status : (request : Request) (early : Early) (c : CameTo) (s : Status) → IsStatus request (Some early) c s → (s ≡ Error) ⊎ (s ≡ Memory)
early_status request (File path) c s is = inl is
early_status request (Sby fault) c s is = inl is
early_status request (Task fault) c s is = inl is
early_status request (Read fault) c s is = inl is
early_status request (Design fault) c s is = inl is
early_status request (TooMany job) c s is = inl is
early_status request Streams c s is = inl is
early_status request MemoryEarly c s is = inr is

left_end : (e : JobEnd FindingOf) → (told_by e ≡ FaultEvent → ⊥) → (told_by e ≡ StoppedEvent → ⊥) → (told_by e ≡ MemoryEvent → ⊥) → ((f : FindingOf) → Carries e f → ⊥) → IsLeftEnd e
left_end (Found f) fault stopped memory none = none f refl
left_end UnknownEnd fault stopped memory none = tt
left_end NotServed fault stopped memory none = tt
left_end (Bad number at) fault stopped memory none = fault refl
left_end ReadFailed fault stopped memory none = fault refl
left_end StartFailed fault stopped memory none = fault refl
left_end HoldFailed fault stopped memory none = fault refl
left_end (Skipped f) fault stopped memory none = none f refl
left_end (CalledOff f) fault stopped memory none = none f refl
left_end (Stopped reading) fault stopped memory none = stopped refl
left_end MemoryEnd fault stopped memory none = memory refl

stopped_end : (e : JobEnd FindingOf) → told_by e ≡ StoppedEvent → (t : ℕ) × (e ≡ Stopped t)
stopped_end (Found f) is = cc
stopped_end UnknownEnd is = cc
stopped_end NotServed is = cc
stopped_end (Bad number at) is = cc
stopped_end ReadFailed is = cc
stopped_end StartFailed is = cc
stopped_end HoldFailed is = cc
stopped_end (Skipped f) is = cc
stopped_end (CalledOff f) is = cc
stopped_end (Stopped reading) is = (reading, refl)
stopped_end MemoryEnd is = cc

-- what the events say without a verdict
abbrev Says : List Event → Status → Type 0
Says events status = HasStatus None events status

says_unknown : (o : Option Verdict) (events : List Event) → HasStatus o events Unknown → Says events Unknown × (o ≡ None)
says_unknown None events h = (h, refl)
says_unknown (Some v) events h = absurd h

says_error : (o : Option Verdict) (events : List Event) → HasStatus o events Error → Says events Error
says_error None events h = h
says_error (Some v) events h = absurd h

says_timeout : (o : Option Verdict) (events : List Event) → HasStatus o events Timeout → Says events Timeout
says_timeout None events h = h
says_timeout (Some v) events h = absurd h

faulty : (e : JobEnd FindingOf) → told_by e ≡ FaultEvent → IsFaultyEnd e
faulty (Bad number at) is = tt
faulty ReadFailed is = tt
faulty StartFailed is = tt
faulty HoldFailed is = tt
faulty (Found f) is = cc
faulty UnknownEnd is = cc
faulty NotServed is = cc
faulty (Skipped f) is = cc
faulty (CalledOff f) is = cc
faulty (Stopped reading) is = cc
faulty MemoryEnd is = cc

module _ (may_read : ℕ → Type 0) (number : ℕ) (moments : Moments) (task : TaskOf) (end : TaskEnd) where
  -- the outcome of a task that reached its lanes
  abbrev Outcome : Type 0
  Outcome = IsOutcome may_read task moments (race_of number moments.pool moments.before moments.after end.start) None end.text end.reports.items end.unput.items (WasStopped moments end)

  abbrev Came : DesignOf → CameTo
  Came d = record { design = d; reports = end.reports.items; start = end.start }

  abbrev was_judged : (d : DesignOf) (answers : List (Option Answer)) → end.early ≡ None → Reads end.text d → AreAnswers task.request (Came d) answers → Outcome → WasJudged may_read number moments task end
  was_judged d answers early reads are came = record { early = early; outcome = came; design = d; reads = reads; answers = answers; are_answers = are }

  -- the cause of an end of an unsettled job
  open_caused : (d : DesignOf) (answers : List (Option Answer)) → Reads end.text d → AreAnswers task.request (Came d) answers → (came : Outcome) → (lane place : ℕ) (e : JobEnd FindingOf)
      → IsUnsettledEnd end.reports.items answers lane place e → IsCausedEnd task.service may_read task came.0.problem (race_of number moments.pool moments.before moments.after end.start) lane place e
  open_caused d answers reads are came lane place e is =
      let p = came.0.problem in
      let same : d ≡ came.0.problem.design = own_design came.0.problem end.text d came.0.served.0.problem came.0.text_is reads in
      let count = job_count moments.got.told task came.0.problem came.0.served.0 in
      let size : length answers ≡ length (jobs_of_mode task.request.mode task.request.span came.0.problem.design) = are.size ∙ ap (λ x. length (jobs_of_mode task.request.mode task.request.span x)) same in
      let lt : place < length (jobs_in came.0.problem) = omega (arith, count, size, slice_get_within answers place None is.unsettled) in
      caused may_read moments.put.told task p (race_of number moments.pool moments.before moments.after end.start) task.service end.reports.items came.0.reports_are (ap (λ (q : ProblemOf). q.mode) came.0.served.0.asked)
      lane place is.report e is.at lt is.end_is

  -- where the answers decide nothing, the end of an unsettled job carries no finding
  pub none_carried : (d : DesignOf) (answers : List (Option Answer)) → Reads end.text d → AreAnswers task.request (Came d) answers → (came : Outcome) → ((v : Verdict) → Decides task.request.mode answers v → ⊥)
      → (lane place : ℕ) (e : JobEnd FindingOf) → IsUnsettledEnd end.reports.items answers lane place e → (f : FindingOf) → Carries e f → ⊥
  none_carried d answers reads are came left lane place e is f carries =
      let p = came.0.problem in
      let same : d ≡ came.0.problem.design = own_design came.0.problem end.text d came.0.served.0.problem came.0.text_is reads in
      let count = job_count moments.got.told task came.0.problem came.0.served.0 in
      let own : AreAnswers task.request (Came came.0.problem.design) answers = subst (λ x. AreAnswers task.request (Came x) answers) same are in
      let lt : place < length (jobs_of_mode task.request.mode task.request.span came.0.problem.design) = omega (arith, own.size, slice_get_within answers place None is.unsettled) in
      let among = at_contains end.reports.items lane is.report is.at in
      let here : Carries (end_at is.report place) f = subst (λ x. Carries x f) (sym is.end_is) carries in
      let spares = carried_spares may_read moments.put.told task p (race_of number moments.pool moments.before moments.after end.start) task.service end.reports.items came.0.reports_are came.0.served.0 lane place is.report is.at
      (omega (arith, count, lt)) f here in
      none_spared task.request.mode task.request.span p.design end.reports.items
      (reported may_read moments.got.told moments.put.told task p (race_of number moments.pool moments.before moments.after end.start) task.service end.reports.items came.0.served.0 came.0.reports_are)
      answers own left is.report place f among lt is.unsettled here spares

  -- what an event comes from
  from_end : (answers : List (Option Answer)) (e : Event) → ((r : ReportOf FindingOf) × (k : ℕ) × Contains end.reports.items r × (slice_get answers k ≡ Some None) × (told_by (end_at r k) ≡ e))
      → (lane : ℕ) × (place : ℕ) × (x : JobEnd FindingOf) × IsUnsettledEnd end.reports.items answers lane place x × (told_by x ≡ e)
  from_end answers e come =
      (come.2.0, come.1, end_at come.0 come.1, record { report = come.0; at = contains_at end.reports.items come.0 come.2; unsettled = come.3; end_is = refl }, come.4)

  open_end : (d : DesignOf) (answers : List (Option Answer)) → Reads end.text d → AreAnswers task.request (Came d) answers → (came : Outcome) → (lane place : ℕ) (e : JobEnd FindingOf)
      → IsUnsettledEnd end.reports.items answers lane place e → IsOpenEnd may_read number moments task end came.0.problem answers e
  open_end d answers reads are came lane place e is = record { lane = lane; place = place; is_end = is; caused = open_caused d answers reads are came lane place e is }

  race_event : (d : DesignOf) (status : Status) → end.early ≡ None → Reads end.text d → IsRaceStatus task.request (Came d) status → Outcome → IsEvent may_read number moments task end status
  race_event d Pass early reads race came = tt
  race_event d Fail early reads race came = tt
  race_event d Memory early reads race came = tt
  race_event d Timeout early reads race came =
      let says = says_timeout race.2.decided race.2.events race.2.has_status in
      let from = from_end race.0 StoppedEvent (race.2.come StoppedEvent says.1) in
      let stop = stopped_end from.2 from.4 in (
        was_judged d race.0 early reads race.1 came,
        (stop.0, open_end d race.0 reads race.1 came from.0 from.1 (Stopped stop.0) (subst (IsUnsettledEnd end.reports.items race.0 from.0 from.1) stop.1 from.3)),
      )
  race_event d Unknown early reads race came =
      let unknown = says_unknown race.2.decided race.2.events race.2.has_status in
      let says = unknown.0 in (
        was_judged d race.0 early reads race.1 came,
        (λ lane place e own.
            let told : Contains race.2.events (told_by e) = subst (λ (x : JobEnd FindingOf). Contains race.2.events (told_by x)) own.end_is
            (race.2.all own.report place (at_contains end.reports.items lane own.report own.at) own.unsettled) in (
              left_end e (λ f. says.2 (subst (Contains race.2.events) f told)) (λ s. says.1 (subst (Contains race.2.events) s told)) (λ m. says.0 (subst (Contains race.2.events) m told))
                  (none_carried d race.0 reads race.1 came (subst (Decided task.request.mode race.0) unknown.1 race.2.decides) lane place e own),
              open_caused d race.0 reads race.1 came lane place e own,
            )),
      )
  race_event d Error early reads race came =
      let says = says_error race.2.decided race.2.events race.2.has_status in
      let from = from_end race.0 FaultEvent (race.2.come FaultEvent says.2) in
      inr (
        was_judged d race.0 early reads race.1 came,
        (from.2, open_end d race.0 reads race.1 came from.0 from.1 from.2 from.3, faulty from.2 from.4),
      )

  early_event : (early : Early) (status : Status) → end.early ≡ Some early → (status ≡ Error) ⊎ (status ≡ Memory)
      → IsOutcome may_read task moments (race_of number moments.pool moments.before moments.after end.start) (Some early) end.text end.reports.items end.unput.items (WasStopped moments end)
      → IsEvent may_read number moments task end status
  early_event early status at (inl error) came = subst (IsEvent may_read number moments task end) (sym error) (inl (early, at, came.3))
  early_event early status at (inr memory) came = subst (IsEvent may_read number moments task end) (sym memory) tt

  event_by : (early : Option Early) (d : DesignOf) (status : Status) → end.early ≡ early → (early ≡ None → Reads end.text d) → IsStatus task.request early (Came d) status
      → IsOutcome may_read task moments (race_of number moments.pool moments.before moments.after end.start) early end.text end.reports.items end.unput.items (WasStopped moments end)
      → IsEvent may_read number moments task end status
  event_by (Some early) d status at reads is came = early_event early status at (early_status task.request early _ status is) came
  event_by None d status at reads is came = race_event d status at (reads refl) is came

  pub event_named : NamesEvent may_read number moments task end → IsEvent may_read number moments task end end.status
  event_named named = elim named.status [
    | inl own ↦ event_by end.early own.0 end.status refl own.1 own.2 named.cause
    | inr memory ↦ subst (IsEvent may_read number moments task end) (sym memory) tt
  ]
