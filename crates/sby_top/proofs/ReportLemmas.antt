-- What holds of the reports of a task.
use Rattle.std.proofs.Common.{◌≡◌, ℕ, zero, suc, ◌<◌, List, [], ◌∷◌, refl, ap, sym, ◌∙◌, subst, inl, inr, ◌⊎◌, length, get_or, arith}
use Rattle.std.specs.Prelude.{Option, Some, None, IsSome, All, Contains, replicate, slice_get, slice_index_or, true}
use Rattle.std.proofs.lemmas.Bool.{cases_lt}
use Rattle.std.proofs.lemmas.List.{get_or-replicate, get_or_default, get_or_past, length-replicate}
use Rattle.std.proofs.lemmas.Option.{slice_get-get_or}
use Rattle.sby_edge.specs.Files.{Store}
use Rattle.judge.specs.Finding.{FindingOf, IsTrueFinding}
use Rattle.judge.specs.Jobs.{jobs_in as jobs_of_mode}
use Rattle.judge.specs.Problem.{AskedOf}
use Rattle.race_core.specs.Carrying.{Carries}
use Rattle.race_core.specs.Asking.{name_at}
use Rattle.race_core.specs.Collect.{CarriedIn, HasFinding, HasWon}
use Rattle.race_core.specs.Consistent.{end_at}
use Rattle.race_core.specs.declared.event.LaneEvent.TheVariants as event
use Rattle.race_core.specs.Report.{EventsOf, ReportOf, no_events}
use Rattle.race_core.specs.declared.end.JobEnd.{JobEnd}
use Rattle.race_core.specs.declared.end.JobEnd.TheVariants.{Found, Unknown, NotServed, Bad, ReadFailed, StartFailed, HoldFailed, Skipped, CalledOff, Stopped, Memory as MemoryEnd}
use Rattle.sby_terms.specs.Problem.{ProblemOf}
use Rattle.sby_terms.specs.Span.{IsSpan}
use Rattle.sby_terms.specs.declared.engine.Engine.{Engine}
use Rattle.sby_terms.specs.declared.names.JobName.{JobName}
use Rattle.sby_terms.specs.declared.names.Mode.{Mode}
use Rattle.sby_lines.specs.Told.{AreLimited, AreReported, IsGiven, job_of}
use Rattle.sby_lines.proofs.PlaceLemmas.{at_contains, contains_at, job_named}
use Rattle.sby_top.specs.Claims.{IsCausedEnd, IsStoredEnd}
use Rattle.sby_top.specs.Judged.{AreJudged, AreReports, AreStreamReports, IsEndOf, IsReport, IsStreamEnd, racing_of}
use Rattle.sby_top.specs.Ready.{report_count}
use Rattle.sby_top.specs.Served.{IsAccepted, jobs_in}
use Rattle.sby_top.specs.Task.{Lanes, Service, Streams, TaskOf}
use Rattle.sby_top.specs.World.{RaceOf}
use Rattle.task_race.specs.Ends.{HasEndCause}
use Rattle.task_race.specs.Ran.{LanesRan}
use Rattle.task_race.proofs.EndLemmas.{lane_cause, limited as race_limited}
use Rattle.task_race.proofs.RanLemmas.{winners_find}
use Rattle.sby_top.proofs.JobLemmas.{judged_count}

-- ---- what each report is like

-- a report of lane i, with an end and no events for each job, whose findings are true ones of the problem
record IsPlain (p : AskedOf) (i : ℕ) (r : ReportOf FindingOf) : Type 0 where
  lane : r.lane ≡ i
  ends : length r.ends ≡ length (jobs_in p)
  events : r.events ≡ replicate (length (jobs_in p)) no_events
  carried : (f : FindingOf) → CarriedIn r.ends f → IsTrueFinding f × (f.problem ≡ p.problem)

end_carries : (p : AskedOf) (job : JobName) (end : JobEnd FindingOf) (f : FindingOf) → IsEndOf p job end → Carries end f → IsTrueFinding f × (f.problem ≡ p.problem)
end_carries p job (Found g) f of carries = (subst IsTrueFinding carries of.is_true, ap (λ (x : FindingOf). x.problem) (sym carries) ∙ of.problem)
end_carries p job Unknown f of carries = absurd carries
end_carries p job NotServed f of carries = absurd carries
end_carries p job (Bad number at) f of carries = absurd carries
end_carries p job ReadFailed f of carries = absurd carries
end_carries p job StartFailed f of carries = absurd carries
end_carries p job HoldFailed f of carries = absurd carries
end_carries p job (Skipped g) f of carries = absurd of
end_carries p job (CalledOff g) f of carries = absurd of
end_carries p job (Stopped reading) f of carries = absurd carries
end_carries p job MemoryEnd f of carries = absurd carries

pub first_or_later : {X : Type 0} (y x : X) (xs : List X) → Contains (y ∷ xs) x → (y ≡ x) ⊎ Contains xs x
first_or_later y x xs (zero, lt, is) = inl is
first_or_later y x xs (suc k, lt, is) = inr (k, omega (arith, lt), is)

pub nothing_in : {X : Type 0} (x : X) → Contains [] x → ⊥
nothing_in x c = omega (arith, c.1)

stream_carries : (p : AskedOf) (told : Option Store) (job : JobName) (path : List ℕ) (end : JobEnd FindingOf) (f : FindingOf) → IsStreamEnd p told job path end → Carries end f → IsTrueFinding f × (f.problem ≡ p.problem)
stream_carries p told job path end f (inl judged) carries = end_carries p job end f judged.of carries
stream_carries p told job path end f (inr (unserved, is)) carries = absurd (subst (λ x. Carries x f) is carries)

ends_carry : (p : AskedOf) (told : Option Store) (jobs : List JobName) (paths : List (List ℕ)) (ends : List (JobEnd FindingOf)) → AreJudged p told jobs paths ends
    → (f : FindingOf) (e : JobEnd FindingOf) → Contains ends e → Carries e f → IsTrueFinding f × (f.problem ≡ p.problem)
ends_carry p told [] paths ends judged f e among carries = absurd (nothing_in e (subst (λ es. Contains es e) judged among))
ends_carry p told (job ∷ jobs) paths [] judged f e among carries = absurd judged
ends_carry p told (job ∷ jobs) [] (end ∷ ends) judged f e among carries = elim (first_or_later end e ends among) [
  | inl here ↦ absurd (subst (λ x. Carries x f) (sym here ∙ judged.0) carries)
  | inr later ↦ ends_carry p told jobs [] ends judged.1 f e later carries
]
ends_carry p told (job ∷ jobs) (path ∷ paths) (end ∷ ends) judged f e among carries = elim (first_or_later end e ends among) [
  | inl here ↦ stream_carries p told job path end f judged.0 (subst (λ x. Carries x f) (sym here) carries)
  | inr later ↦ ends_carry p told jobs paths ends judged.1 f e later carries
]

stream_plain : (p : AskedOf) (told : Option Store) (paths : List (List ℕ)) (r : ReportOf FindingOf) → IsReport p told paths r → IsPlain p 0 r
stream_plain p told paths r is = record {
  lane = is.lane;
  ends = judged_count p told (jobs_in p) paths r.ends is.ends;
  events = is.events;
  carried = λ f in_ends. ends_carry p told (jobs_in p) paths r.ends is.ends f in_ends.0 in_ends.1 in_ends.2;
}

plain_at : (p : AskedOf) (told : Option Store) (paths : List (List ℕ)) (reports : List (ReportOf FindingOf)) → AreStreamReports p told paths reports → (i : ℕ) (r : ReportOf FindingOf) → slice_get reports i ≡ Some r → IsPlain p i r
plain_at p told paths reports are i r at = one_plain p told paths are.0 are.1 i r (subst (λ rs. slice_get rs i ≡ Some r) are.2 at)
  where
    one_plain : (p : AskedOf) (told : Option Store) (paths : List (List ℕ)) (own : ReportOf FindingOf) → IsReport p told paths own → (i : ℕ) (r : ReportOf FindingOf) → slice_get (own ∷ []) i ≡ Some r → IsPlain p i r
    one_plain p told paths own is zero r at = let here : own ≡ r = cc in subst (IsPlain p 0) here (stream_plain p told paths own is)
    one_plain p told paths own is (suc i) r at = cc

-- ---- no cell was won

no_events_at : (n k : ℕ) → slice_index_or {A = EventsOf FindingOf} (replicate n no_events) k no_events ≡ no_events
no_events_at n k = elim (cases_lt k n) [
  | inl within ↦ get_or-replicate n k no_events no_events within
  | inr past ↦ get_or_past (replicate n no_events) k no_events (omega (arith, past, length-replicate {A = EventsOf FindingOf} n no_events))
]

nothing_of : {X : Type 0} (xs : List X) (x : X) → xs ≡ [] → Contains xs x → ⊥
nothing_of xs x none c = nothing_in x (subst (λ ys. Contains ys x) none c)

not_won : (p : AskedOf) (i k : ℕ) (r : ReportOf FindingOf) → IsPlain p i r → HasWon r k → ⊥
not_won p i k r plain won =
    let none : slice_index_or r.events k no_events ≡ no_events = ap (λ (es : List (EventsOf FindingOf)). slice_index_or es k no_events) plain.events ∙ no_events_at (length (jobs_in p)) k in
    nothing_of (slice_index_or r.events k no_events).reader (event.Settle true) (ap (λ (es : EventsOf FindingOf). es.reader) none) won

end_not_stopped : (p : AskedOf) (job : JobName) (end : JobEnd FindingOf) (t : ℕ) → IsEndOf p job end → end ≡ Stopped t → ⊥
end_not_stopped p job end t of is = subst (IsEndOf p job) is of

stream_not_stopped : (p : AskedOf) (told : Option Store) (job : JobName) (path : List ℕ) (end : JobEnd FindingOf) (t : ℕ) → IsStreamEnd p told job path end → end ≡ Stopped t → ⊥
stream_not_stopped p told job path end t (inl judged) is = end_not_stopped p job end t judged.of is
stream_not_stopped p told job path end t (inr (unserved, none)) is = let both : ◌≡◌ {A = JobEnd FindingOf} NotServed (Stopped t) = sym none ∙ is in cc

ends_not_stopped : (p : AskedOf) (told : Option Store) (jobs : List JobName) (paths : List (List ℕ)) (ends : List (JobEnd FindingOf)) → AreJudged p told jobs paths ends
    → (k t : ℕ) → slice_index_or ends k NotServed ≡ Stopped t → ⊥
ends_not_stopped p told [] paths ends judged k t is =
    let none : slice_index_or ends k NotServed ≡ NotServed = ap (λ (es : List (JobEnd FindingOf)). slice_index_or es k NotServed) judged in
    let both : ◌≡◌ {A = JobEnd FindingOf} NotServed (Stopped t) = sym none ∙ is in cc
ends_not_stopped p told (job ∷ jobs) paths [] judged k t is = absurd judged
ends_not_stopped p told (job ∷ jobs) [] (end ∷ ends) judged zero t is = let both : ◌≡◌ {A = JobEnd FindingOf} NotServed (Stopped t) = sym judged.0 ∙ is in cc
ends_not_stopped p told (job ∷ jobs) [] (end ∷ ends) judged (suc k) t is = ends_not_stopped p told jobs [] ends judged.1 k t is
ends_not_stopped p told (job ∷ jobs) (path ∷ paths) (end ∷ ends) judged zero t is = stream_not_stopped p told job path end t judged.0 is
ends_not_stopped p told (job ∷ jobs) (path ∷ paths) (end ∷ ends) judged (suc k) t is = ends_not_stopped p told jobs paths ends judged.1 k t is

not_stopped : (p : AskedOf) (told : Option Store) (paths : List (List ℕ)) (reports : List (ReportOf FindingOf)) → AreStreamReports p told paths reports → (r : ReportOf FindingOf) → Contains reports r
    → (k t : ℕ) → end_at r k ≡ Stopped t → ⊥
not_stopped p told paths reports are r among k t is = elim (first_or_later are.0 r [] (subst (λ rs. Contains rs r) are.2 among)) [
  | inl here ↦ ends_not_stopped p told (jobs_in p) paths are.0.ends are.1.ends k t (ap (λ (q : ReportOf FindingOf). end_at q k) here ∙ is)
  | inr later ↦ nothing_in r later
]

-- ---- why jobs end so

own_stored : (p : AskedOf) (job : JobName) (path : Option (List ℕ)) (end : JobEnd FindingOf) → IsEndOf p job end → IsStoredEnd job path end
own_stored p job path (Found f) of = tt
own_stored p job path Unknown of = tt
own_stored p job path NotServed of = absurd of
own_stored p job path (Bad number at) of = tt
own_stored p job path ReadFailed of = of
own_stored p job path StartFailed of = of
own_stored p job path HoldFailed of = of
own_stored p job path (Skipped f) of = of
own_stored p job path (CalledOff f) of = of
own_stored p job path (Stopped reading) of = of
own_stored p job path MemoryEnd of = tt

unserved_stored : (job : JobName) (end : JobEnd FindingOf) → end ≡ NotServed → IsStoredEnd job None end
unserved_stored job end none = subst (IsStoredEnd job None) (sym none) tt

stream_stored : (p : AskedOf) (told : Option Store) (job : JobName) (path : List ℕ) (end : JobEnd FindingOf) → IsStreamEnd p told job path end → IsStoredEnd job (Some path) end
stream_stored p told job path end (inl judged) = own_stored p job (Some path) end judged.of
stream_stored p told job path end (inr (unserved, none)) = subst (IsStoredEnd job (Some path)) (sym none) unserved

ends_stored : (p : AskedOf) (told : Option Store) (jobs : List JobName) (paths : List (List ℕ)) (ends : List (JobEnd FindingOf)) → AreJudged p told jobs paths ends
    → (k : ℕ) (job : JobName) → slice_get jobs k ≡ Some job → IsStoredEnd job (slice_get paths k) (slice_index_or ends k NotServed)
ends_stored p told [] paths ends judged k job at = let none : ◌≡◌ {A = Option JobName} None (Some job) = at in cc
ends_stored p told (j ∷ jobs) paths [] judged k job at = absurd judged
ends_stored p told (j ∷ jobs) [] (end ∷ ends) judged zero job at = unserved_stored job end judged.0
ends_stored p told (j ∷ jobs) [] (end ∷ ends) judged (suc k) job at = ends_stored p told jobs [] ends judged.1 k job at
ends_stored p told (j ∷ jobs) (path ∷ paths) (end ∷ ends) judged zero job at =
    let same : j ≡ job = cc in subst (λ (x : JobName). IsStoredEnd x (Some path) end) same (stream_stored p told j path end judged.0)
ends_stored p told (j ∷ jobs) (path ∷ paths) (end ∷ ends) judged (suc k) job at = ends_stored p told jobs paths ends judged.1 k job at

one_stored : (p : AskedOf) (told : Option Store) (paths : List (List ℕ)) (reports : List (ReportOf FindingOf)) → AreStreamReports p told paths reports → (r : ReportOf FindingOf) → Contains reports r
    → (k : ℕ) (job : JobName) → slice_get (jobs_in p) k ≡ Some job → IsStoredEnd job (slice_get paths k) (end_at r k)
one_stored p told paths reports are r among k job at = elim (first_or_later are.0 r [] (subst (λ rs. Contains rs r) are.2 among)) [
  | inl here ↦ subst (λ (q : ReportOf FindingOf). IsStoredEnd job (slice_get paths k) (end_at q k)) here (ends_stored p told (jobs_in p) paths are.0.ends are.1.ends k job at)
  | inr later ↦ absurd (nothing_in r later)
]

-- each end of a job has its cause
pub caused : (may_read : ℕ → Type 0) (now : Option Store) (task : TaskOf) (p : AskedOf) (race : RaceOf) (service : Service) (reports : List (ReportOf FindingOf)) → AreReports service may_read task p now race reports
    → p.problem.mode ≡ task.request.mode → (lane place : ℕ) (r : ReportOf FindingOf) (e : JobEnd FindingOf) → slice_get reports lane ≡ Some r → place < length (jobs_in p) → end_at r place ≡ e
    → IsCausedEnd service may_read task p race lane place e
caused may_read now task p race (Streams paths) reports are mode lane place r e at lt is =
    subst (IsStoredEnd (name_at task.request.mode place) (slice_get paths place)) is
    (one_stored p now paths reports are.0 r (at_contains reports lane r at) place (name_at task.request.mode place)
    (job_named p.problem.mode p.problem.span p.design place lt ∙ ap (λ (m : Mode). Some (name_at m place)) mode))
caused may_read now task p race (Lanes engines) reports ran mode lane place r e at lt is =
    let cause = lane_cause (racing_of task p race.task engines) may_read race.before race.after race.start reports ran lane place r at lt e is in (
      cause.0,
      cause.1,
      subst (λ (m : Mode). HasEndCause (racing_of task p race.task engines) may_read race.before.scripts cause.0 race.start lane (name_at m place) e) mode cause.2,
    )

-- ---- what is reported

each_of : {X : Type 0} (P : X → Type 0) (xs : List X) → ((i : ℕ) (x : X) → slice_get xs i ≡ Some x → P x) → All P xs
each_of {X} P xs h = λ i d lt. h i (get_or xs i d) (slice_get-get_or xs i (get_or xs i d) lt ∙ ap Some (get_or_default xs i (get_or xs i d) d lt))

-- the jobs are those of the task's mode and cycles
pub job_count : (told : Option Store) (task : TaskOf) (p : AskedOf) → IsAccepted told task p → length (jobs_in p) ≡ length (jobs_of_mode task.request.mode task.request.span p.design)
job_count told task p accepted =
    ap (λ (q : ProblemOf). length (jobs_of_mode q.mode p.problem.span p.design)) accepted.asked ∙ ap (λ (q : ProblemOf). length (jobs_of_mode task.request.mode q.span p.design)) accepted.asked

stream_reported : (told now : Option Store) (task : TaskOf) (p : AskedOf) (paths : List (List ℕ)) (reports : List (ReportOf FindingOf)) → IsAccepted told task p → AreStreamReports p now paths reports
    → AreReported task.request.mode task.request.span p.design reports
stream_reported told now task p paths reports accepted are =
    let plain = plain_at p now paths reports are in
    let span : p.problem.span ≡ task.request.span = ap (λ (q : ProblemOf). q.span) accepted.asked in
    let count = job_count told task p accepted in
    record {
      text = p.problem.text;
      reads = accepted.problem.reads;
      is_span = subst IsSpan span accepted.problem.span.is_span;
      are_true = λ r f in_reports carried. let own = (plain in_reports.0 r (contains_at reports r in_reports)).carried f carried in (own.0, own.1 ∙ accepted.asked);
      places = λ i r at. (plain i r at).lane;
      ends = each_of (λ r. length r.ends ≡ length (jobs_of_mode task.request.mode task.request.span p.design)) reports (λ i r at. (plain i r at).ends ∙ count);
      events = each_of (λ r. length r.events ≡ length (jobs_of_mode task.request.mode task.request.span p.design)) reports
          (λ i r at. ap length (plain i r at).events ∙ length-replicate (length (jobs_in p)) no_events ∙ count);
      winners = λ r k in_reports won. absurd (not_won p in_reports.0 k r (plain in_reports.0 r (contains_at reports r in_reports)) won);
    }

lanes_reported : (may_read : ℕ → Type 0) (told : Option Store) (task : TaskOf) (p : AskedOf) (race : RaceOf) (engines : List Engine) (reports : List (ReportOf FindingOf)) → IsAccepted told task p
    → LanesRan (racing_of task p race.task engines) race.pool may_read race.before race.after race.start reports → AreReported task.request.mode task.request.span p.design reports
lanes_reported may_read told task p race engines reports accepted ran =
    let span : p.problem.span ≡ task.request.span = ap (λ (q : ProblemOf). q.span) accepted.asked in
    let mode : p.problem.mode ≡ task.request.mode = ap (λ (q : ProblemOf). q.mode) accepted.asked in
    let count = job_count told task p accepted in
    record {
      text = p.problem.text;
      reads = accepted.problem.reads;
      is_span = subst IsSpan span accepted.problem.span.is_span;
      are_true = λ r f in_reports carried. let own = ran.are_true r f in_reports carried in (own.0, own.1 ∙ accepted.asked);
      places = ran.consistent.places;
      ends = each_of (λ r. length r.ends ≡ length (jobs_of_mode task.request.mode task.request.span p.design)) reports (λ i r at. (ran.consistent.replays i r at).ends ∙ count);
      events = each_of (λ r. length r.events ≡ length (jobs_of_mode task.request.mode task.request.span p.design)) reports (λ i r at. (ran.consistent.replays i r at).events ∙ count);
      winners = λ r k in_reports won. subst (λ (m : Mode). HasFinding job_of (name_at m k) r) mode
          (winners_find (racing_of task p race.task engines) may_read race.start ran.done.0 reports ran.done.1 in_reports.0 r (contains_at reports r in_reports) k won);
    }

pub reported : (may_read : ℕ → Type 0) (told now : Option Store) (task : TaskOf) (p : AskedOf) (race : RaceOf) (service : Service) (reports : List (ReportOf FindingOf)) → IsAccepted told task p
    → AreReports service may_read task p now race reports → AreReported task.request.mode task.request.span p.design reports
reported may_read told now task p race (Streams paths) reports accepted are = stream_reported told now task p paths reports accepted are.0
reported may_read told now task p race (Lanes engines) reports accepted ran = lanes_reported may_read told task p race engines reports accepted ran

-- there are as many as the service gives
pub are_counted : (may_read : ℕ → Type 0) (now : Option Store) (task : TaskOf) (p : AskedOf) (race : RaceOf) (service : Service) (reports : List (ReportOf FindingOf)) → AreReports service may_read task p now race reports
    → length reports ≡ report_count service
are_counted may_read now task p race (Streams paths) reports are = ap length are.0.2
are_counted may_read now task p race (Lanes engines) reports ran = ran.consistent.lanes_are

-- the findings that are carried are true ones of the problem
pub true_findings : (may_read : ℕ → Type 0) (now : Option Store) (task : TaskOf) (p : AskedOf) (race : RaceOf) (service : Service) (reports : List (ReportOf FindingOf)) → AreReports service may_read task p now race reports
    → (r : ReportOf FindingOf) (f : FindingOf) → Contains reports r → CarriedIn r.ends f → IsTrueFinding f × (f.problem ≡ p.problem)
true_findings may_read now task p race (Streams paths) reports are r f among carried = (plain_at p now paths reports are.0 among.0 r (contains_at reports r among)).carried f carried
true_findings may_read now task p race (Lanes engines) reports ran r f among carried = ran.are_true r f among carried

is_given : (o : Option ℕ) → IsSome o → IsGiven o
is_given None some = absurd (cc)
is_given (Some n) some = (n, refl)

-- a lane is stopped under a limit alone
pub limited : (may_read : ℕ → Type 0) (now : Option Store) (task : TaskOf) (p : AskedOf) (race : RaceOf) (service : Service) (reports : List (ReportOf FindingOf)) → AreReports service may_read task p now race reports
    → AreLimited race.start task.request.limit reports
limited may_read now task p race (Streams paths) reports are = λ r k t in_reports stopped. absurd (not_stopped p now paths reports are.0 r in_reports k t stopped)
limited may_read now task p race (Lanes engines) reports ran = λ r k t in_reports stopped.
    let both = race_limited (racing_of task p race.task engines) may_read race.before race.after race.start reports ran r k t in_reports stopped in
    (is_given race.start both.0, is_given task.request.limit both.1)
