-- What the lanes of a task leave, by what each of them left its bay.
use Rattle.std.proofs.Common.{◌≡◌, ℕ, ◌<◌, List, length, map, refl, sym, subst, ◌∙◌, arith}
use Rattle.std.specs.Prelude.{Option, Some, None, All, Contains, IfSome, slice_get, unwrap_or}
use Rattle.std.proofs.lemmas.Option.{slice_get_within}
use Rattle.jobs_pool.specs.Places.{PoolOf}
use Rattle.sby_edge.specs.Cause.{CountsOf}
use Rattle.sby_edge.specs.Child.{BayOf, IsLogged, YardOf, new_bay}
use Rattle.judge.specs.Finding.{FindingOf, IsTrueFinding}
use Rattle.judge.specs.Problem.{IsProblem}
use Rattle.race_core.specs.Carrying.{Carries}
use Rattle.race_cells.specs.Notes.{NoteOf}
use Rattle.race_core.specs.Asking.{name_at, terms_of}
use Rattle.race_core.specs.Collect.{CarriedIn}
use Rattle.race_core.specs.Consistent.{Consistent, end_at}
use Rattle.race_core.specs.Report.{ReportOf}
use Rattle.race_core.specs.declared.end.JobEnd.{JobEnd}
use Rattle.race_core.specs.declared.end.JobEnd.TheVariants as end
use Rattle.lane_run.specs.Asked.{IsFor, terms_at}
use Rattle.lane_run.specs.Done.{LaneFaults, LaneStops}
use Rattle.lane_run.specs.Raced.{LanesDone}
use Rattle.lane_run.specs.Started.{LaneStarts}
use Rattle.task_race.specs.Fates.{Ends, Proves, Stands, most_bytes, most_output}
use Rattle.task_race.specs.Serving.{IsServed, file_of}
use Rattle.sby_terms.specs.declared.names.Mode.{Mode}
use Rattle.task_race.specs.Bays.{BackOf, CameBack, YardAt, left_all, none_failed}
use Rattle.task_race.specs.Ran.{RacingOf, AreConsistent, AreDone, AreStarts, EachBack, HaveRaced, IsStart, LanesRan, Serves, WinnersFind, answer_in, evidence_in, job_count, job_in, limit_from, name_in, problem_in, terms_in, words_in}
use Rattle.task_race.specs.Prepared.{AreNew}
use Rattle.task_race.proofs.BackLemmas.{counts_left}
use Rattle.task_race.proofs.PlaceLemmas.{all_at, at_map, contains_at, stands_at}
use Rattle.task_race.proofs.WonLemmas.{winner_finds}
use Rattle.std.proofs.lemmas.List.{get_or_default, length-map}

module _ {B : Type 0} (counts : B → CountsOf) (tells : B → Option BayOf) (racing : RacingOf) (pool : Option PoolOf) (may_read : ℕ → Type 0) (before now : YardAt) (start : Option ℕ)
    (bays backs : List B) (reports : List (ReportOf FindingOf))
    (consistent : AreConsistent racing start reports)
    (many : length bays ≡ length racing.engines) (same : length backs ≡ length bays)
    (fresh : (lane : ℕ) (b : B) → slice_get bays lane ≡ Some b → (tells b ≡ new_bay before.scripts racing.task lane) × (counts b ≡ none_failed)) where
  -- the bay of a lane, as it was made and as it came back
  bay_of : (lane : ℕ) (r : ReportOf FindingOf) → slice_get reports lane ≡ Some r → (b : B) × (slice_get bays lane ≡ Some b)
  bay_of lane r at = stands_at bays lane (omega (slice_get_within reports lane r at, consistent.lanes_are, many, arith))

  back_of : (lane : ℕ) (r : ReportOf FindingOf) → slice_get reports lane ≡ Some r → (d : B) × (slice_get backs lane ≡ Some d)
  back_of lane r at = stands_at backs lane (omega (slice_get_within reports lane r at, consistent.lanes_are, many, same, arith))

  view : B → BackOf
  view b = record { told = tells b; counts = counts b }

  some_same : {X : Type 0} (x y : X) → ◌≡◌ {A = Option X} (Some x) (Some y) → x ≡ y
  some_same x y h = cc

  -- what a lane's bay left is that of the bay at its place
  left_of : (lane : ℕ) (d : B) (back : BackOf) → slice_get backs lane ≡ Some d → slice_get (map view backs) lane ≡ Some back → view d ≡ back
  left_of lane d back at is = some_same (view d) back (sym (at_map view backs lane d at) ∙ is)

  lane_faults : ((i : ℕ) (b d : B) (q : ReportOf FindingOf) → slice_get bays i ≡ Some b → slice_get backs i ≡ Some d → slice_get reports i ≡ Some q → LaneFaults (counts b) (counts d) (job_count racing) q)
      → EachBack reports (map view backs) (λ lane r back. LaneFaults none_failed back.counts (job_count racing) r)
  unfolding view
  lane_faults faults = λ lane r back at is.
      let b = bay_of lane r at in
      let d = back_of lane r at in
      subst (λ (x : BackOf). LaneFaults none_failed x.counts (job_count racing) r) (left_of lane d.0 back d.1 is)
      (subst (λ (c : CountsOf). LaneFaults c (counts d.0) (job_count racing) r) (fresh lane b.0 b.1).1 (faults lane b.0 d.0 r b.1 d.1 at))

  lane_starts : ((i : ℕ) (b d : B) (q : ReportOf FindingOf) → slice_get bays i ≡ Some b → slice_get backs i ≡ Some d → slice_get reports i ≡ Some q → AreStarts racing pool (tells b) (tells d) i q)
      → EachBack reports (map view backs) (λ lane r back. AreStarts racing pool (new_bay before.scripts racing.task lane) back.told lane r)
  unfolding view
  lane_starts starts = λ lane r back at is.
      let b = bay_of lane r at in
      let d = back_of lane r at in
      subst (λ (x : BackOf). AreStarts racing pool (new_bay before.scripts racing.task lane) x.told lane r) (left_of lane d.0 back d.1 is)
      (subst (λ (was : Option BayOf). AreStarts racing pool was (tells d.0) lane r) (fresh lane b.0 b.1).0 (starts lane b.0 d.0 r b.1 d.1 at))

  -- what an end carries is of the problem
  carried_problem : (r : ReportOf FindingOf) (f : FindingOf) → Contains reports r → CarriedIn r.ends f → f.problem ≡ racing.problem.problem
  carried_problem r f among (e, among_ends, carries) =
      let at = contains_at reports r among in
      let within : among_ends.0 < job_count racing = omega (among_ends.1, (consistent.replays among.0 r at).ends, arith) in
      let is : end_at r among_ends.0 ≡ e = get_or_default r.ends among_ends.0 end.NotServed e among_ends.1 ∙ among_ends.2 in
      (consistent.carried among.0 among_ends.0 r f at within (subst (λ (x : JobEnd FindingOf). Carries x f) (sym is) carries)).1.0

  pub lanes_ran : IsProblem racing.problem → IsStart may_read racing.limit start → (notes : List (NoteOf FindingOf)) → AreDone racing may_read start notes reports
      → ((r : ReportOf FindingOf) (f : FindingOf) → Contains reports r → CarriedIn r.ends f → IsTrueFinding f)
      → ((i : ℕ) (b d : B) (q : ReportOf FindingOf) → slice_get bays i ≡ Some b → slice_get backs i ≡ Some d → slice_get reports i ≡ Some q → LaneFaults (counts b) (counts d) (job_count racing) q)
      → ((i : ℕ) (b d : B) (q : ReportOf FindingOf) → slice_get bays i ≡ Some b → slice_get backs i ≡ Some d → slice_get reports i ≡ Some q → AreStarts racing pool (tells b) (tells d) i q)
      → All (λ q. LaneStops may_read (limit_from racing start) (job_count racing) q) reports
      → CameBack (map counts backs) before.counts now.counts
      → IsLogged (left_all (map (λ b. record { told = tells b; counts = counts b }) backs)) before.started now.started
      → LanesRan racing pool may_read before now start reports
  unfolding view
  lanes_ran problem began notes done are_true faults starts stopped back logged = record {
    backs = map view backs;
    backs_are = length-map backs view ∙ (same ∙ many);
    came_back = subst (λ (parts : List CountsOf). CameBack parts before.counts now.counts) (sym (counts_left view counts backs (λ b. refl))) back;
    logged = logged;
    is_problem = problem;
    start_is = began;
    consistent = consistent;
    are_true = λ r f among carried. (are_true r f among carried, carried_problem r f among carried);
    done = (notes, done);
    faults = lane_faults faults;
    starts = lane_starts starts;
    stopped = λ lane r at. all_at (λ (q : ReportOf FindingOf). LaneStops may_read (limit_from racing start) (job_count racing) q) reports lane r stopped at;
  }

-- what lanes leave that were raced in new bays of these scripts, wherever the bays come back
pub have_raced : {B : Type 0} (counts : B → CountsOf) (tells : B → Option BayOf) (racing : RacingOf) (pool : Option PoolOf) (may_read : ℕ → Type 0) (scripts : Option YardOf) (start : Option ℕ)
    (bays backs : List B) (reports : List (ReportOf FindingOf))
    → AreNew scripts racing.task (map (λ b. record { told = tells b; counts = counts b }) bays)
    → AreConsistent racing start reports → length bays ≡ length racing.engines → length backs ≡ length bays
    → IsProblem racing.problem → IsStart may_read racing.limit start → (notes : List (NoteOf FindingOf)) → AreDone racing may_read start notes reports
    → ((r : ReportOf FindingOf) (f : FindingOf) → Contains reports r → CarriedIn r.ends f → IsTrueFinding f)
    → ((i : ℕ) (b d : B) (q : ReportOf FindingOf) → slice_get bays i ≡ Some b → slice_get backs i ≡ Some d → slice_get reports i ≡ Some q → LaneFaults (counts b) (counts d) (job_count racing) q)
    → ((i : ℕ) (b d : B) (q : ReportOf FindingOf) → slice_get bays i ≡ Some b → slice_get backs i ≡ Some d → slice_get reports i ≡ Some q → AreStarts racing pool (tells b) (tells d) i q)
    → All (λ q. LaneStops may_read (limit_from racing start) (job_count racing) q) reports
    → HaveRaced racing pool may_read scripts start reports (map (λ b. record { told = tells b; counts = counts b }) backs)
have_raced {B} counts tells racing pool may_read scripts start bays backs reports new consistent many same problem began notes done are_true faults starts stopped = λ before now is back logged.
    let view : B → BackOf = λ b. record { told = tells b; counts = counts b } in
    lanes_ran counts tells racing pool may_read before now start bays backs reports consistent many same
    (λ lane b at. subst (λ (s : Option YardOf). (tells b ≡ new_bay s racing.task lane) × (counts b ≡ none_failed)) (sym is) (new lane (view b) (at_map view bays lane b at)))
    problem began notes done are_true faults starts stopped
    (subst (λ (parts : List CountsOf). CameBack parts before.counts now.counts) (counts_left view counts backs (λ b. refl)) back) logged

-- ---- what a race of bays leaves

-- the start that lanes are asked under is a reading that the clock may give
pub start_read : (may_read : ℕ → Type 0) (limit start : Option ℕ) (begun : ℕ) → begun ≡ unwrap_or start 0 → IsStart may_read limit start → IfSome limit (λ millis. may_read begun)
start_read may_read None start begun is began = tt
start_read may_read (Some millis) None begun is began = absurd began
start_read may_read (Some millis) (Some t) begun is began = subst may_read (sym is) began

module _ (racing : RacingOf) (start : Option ℕ) (mode : Mode) (begun jobs : ℕ) (mode_is : mode ≡ racing.problem.problem.mode) (begun_is : begun ≡ unwrap_or start 0)
    (jobs_are : jobs ≡ job_count racing) where
  pub raced_consistent : (lanes : ℕ) (reports : List (ReportOf FindingOf)) → lanes ≡ length racing.engines
      → Consistent (IsFor problem_in job_in racing.problem.problem mode) (λ lane place. IsServed racing.engines racing.problem lane (name_at mode place))
      (λ place. terms_of job_in answer_in (terms_at mode (record { start = begun; millis = racing.limit; wait = racing.wait }) place)) lanes jobs reports
      → AreConsistent racing start reports
  raced_consistent lanes reports lanes_are consistent =
      subst (λ (m : Mode). Consistent (IsFor problem_in job_in racing.problem.problem m) (λ lane place. IsServed racing.engines racing.problem lane (name_at m place))
      (λ place. terms_of job_in answer_in (terms_at m (limit_from racing start) place)) (length racing.engines) (job_count racing) reports) mode_is
      (subst (λ (t : ℕ). Consistent (IsFor problem_in job_in racing.problem.problem mode) (λ lane place. IsServed racing.engines racing.problem lane (name_at mode place))
      (λ place. terms_of job_in answer_in (terms_at mode (record { start = t; millis = racing.limit; wait = racing.wait }) place)) (length racing.engines) (job_count racing) reports) begun_is
      (subst (λ (n : ℕ). Consistent (IsFor problem_in job_in racing.problem.problem mode) (λ lane place. IsServed racing.engines racing.problem lane (name_at mode place))
      (λ place. terms_of job_in answer_in (terms_at mode (record { start = begun; millis = racing.limit; wait = racing.wait }) place)) (length racing.engines) n reports) jobs_are
      (subst (λ (n : ℕ). Consistent (IsFor problem_in job_in racing.problem.problem mode) (λ lane place. IsServed racing.engines racing.problem lane (name_at mode place))
      (λ place. terms_of job_in answer_in (terms_at mode (record { start = begun; millis = racing.limit; wait = racing.wait }) place)) n jobs reports) lanes_are consistent)))

  pub raced_done : (may_read : ℕ → Type 0) (notes : List (NoteOf FindingOf)) (reports : List (ReportOf FindingOf))
      → LanesDone (IsFor problem_in job_in racing.problem.problem mode) (λ lane place. IsServed racing.engines racing.problem lane (name_at mode place))
      (λ place. terms_of job_in answer_in (terms_at mode (record { start = begun; millis = racing.limit; wait = racing.wait }) place)) may_read jobs notes reports
      → AreDone racing may_read start notes reports
  raced_done may_read notes reports done =
      subst (λ (m : Mode). LanesDone (IsFor problem_in job_in racing.problem.problem m) (λ lane place. IsServed racing.engines racing.problem lane (name_at m place))
      (λ place. terms_of job_in answer_in (terms_at m (limit_from racing start) place)) may_read (job_count racing) notes reports) mode_is
      (subst (λ (t : ℕ). LanesDone (IsFor problem_in job_in racing.problem.problem mode) (λ lane place. IsServed racing.engines racing.problem lane (name_at mode place))
      (λ place. terms_of job_in answer_in (terms_at mode (record { start = t; millis = racing.limit; wait = racing.wait }) place)) may_read (job_count racing) notes reports) begun_is
      (subst (λ (n : ℕ). LanesDone (IsFor problem_in job_in racing.problem.problem mode) (λ lane place. IsServed racing.engines racing.problem lane (name_at mode place))
      (λ place. terms_of job_in answer_in (terms_at mode (record { start = begun; millis = racing.limit; wait = racing.wait }) place)) may_read n notes reports) jobs_are done))

  pub raced_starts : (pool : Option PoolOf) (before now : Option BayOf) (lane : ℕ) (r : ReportOf FindingOf)
      → LaneStarts pool (words_in racing lane) (file_of racing.problem)
      (λ job. Stands racing.problem job (evidence_in racing lane)) (λ job. Ends racing.problem job (evidence_in racing lane)) (λ job. Proves racing.problem job (evidence_in racing lane)) most_bytes (most_output (evidence_in racing lane)) mode before now jobs r → AreStarts racing pool before now lane r
  raced_starts pool before now lane r starts =
      subst (λ (m : Mode). LaneStarts pool (words_in racing lane) (file_of racing.problem)
      (λ job. Stands racing.problem job (evidence_in racing lane)) (λ job. Ends racing.problem job (evidence_in racing lane)) (λ job. Proves racing.problem job (evidence_in racing lane)) most_bytes (most_output (evidence_in racing lane)) m before now (job_count racing) r) mode_is
      (subst (λ (n : ℕ). LaneStarts pool (words_in racing lane) (file_of racing.problem)
      (λ job. Stands racing.problem job (evidence_in racing lane)) (λ job. Ends racing.problem job (evidence_in racing lane)) (λ job. Proves racing.problem job (evidence_in racing lane)) most_bytes (most_output (evidence_in racing lane)) mode before now n r) jobs_are starts)

  pub raced_stopped : (may_read : ℕ → Type 0) (reports : List (ReportOf FindingOf))
      → All (λ q. LaneStops may_read (record { start = begun; millis = racing.limit; wait = racing.wait }) jobs q) reports
      → All (λ q. LaneStops may_read (limit_from racing start) (job_count racing) q) reports
  raced_stopped may_read reports stopped =
      subst (λ (t : ℕ). All (λ q. LaneStops may_read (record { start = t; millis = racing.limit; wait = racing.wait }) (job_count racing) q) reports) begun_is
      (subst (λ (n : ℕ). All (λ q. LaneStops may_read (record { start = begun; millis = racing.limit; wait = racing.wait }) n q) reports) jobs_are stopped)

-- a lane that won a job's cell carries a finding for the job
pub winners_find : (racing : RacingOf) (may_read : ℕ → Type 0) (start : Option ℕ) (notes : List (NoteOf FindingOf)) (reports : List (ReportOf FindingOf))
    → AreDone racing may_read start notes reports → WinnersFind racing reports
winners_find racing may_read start notes reports done = λ lane r at place won.
    winner_finds job_in (name_in racing) (IsFor problem_in job_in racing.problem.problem racing.problem.problem.mode) (λ k f is. is.1) (Serves racing lane) (terms_in racing start) may_read (job_count racing) notes r
    (done.each lane r at) place won
