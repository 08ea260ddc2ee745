-- Why jobs of lanes end so.
use Rattle.std.proofs.Common.{◌≡◌, ◌⊎◌, ℕ, zero, suc, ◌-◌, ◌<◌, ◌≤◌, inl, inr, Bool, true, false, List, [], ◌∷◌, ◌++◌, length, map, refl, sym, subst, ◌∙◌, arith}
use Rattle.std.proofs.Common.{not, ◌&&◌}
use Rattle.std.specs.Prelude.{Option, Some, None, IsSome, IsSomeAnd, Contains, slice_get, slice_index_or, unwrap_or}
use Rattle.sby_edge.specs.Cause.{CountsOf, Rose}
use Rattle.sby_edge.specs.Child.{YardOf, new_bay}
use Rattle.sby_terms.specs.declared.names.JobName.{JobName}
use Rattle.judge.specs.Finding.{FindingOf}
use Rattle.race_core.specs.Asking.{needless_by, skipped_by}
use Rattle.race_core.specs.Carrying.{Carries, KnewBy}
use Rattle.race_core.specs.Consistent.{Replayed, end_at, events_at}
use Rattle.race_core.specs.Ends.{EndIs, IsLast}
use Rattle.race_core.specs.Parts.{keeper_of, reader_of}
use Rattle.race_core.specs.Report.{ReportOf}
use Rattle.race_core.specs.declared.end.JobEnd.{JobEnd}
use Rattle.race_core.specs.declared.end.JobEnd.TheVariants as end
use Rattle.race_core.specs.declared.event.Judged.{Judged}
use Rattle.race_core.specs.declared.event.Judged.TheVariants as judged
use Rattle.lane_run.specs.Reading.{Comes, IsProof, NotByFile}
use Rattle.lane_run.specs.Starting.{EndsWaiting, IsFrontOf, NoStart, ReadsScript}
use Rattle.lane_run.proofs.Plains.{plain_bad, plain_found, plain_unknown}
use Rattle.lane_run.proofs.Reasons.{called_by_look, skipped_by_look}
use Rattle.lane_run.specs.Complete.{ComesTo}
use Rattle.lane_run.specs.Started.{starts_upto}
use Rattle.std.proofs.lemmas.Option.{slice_get_within}
use Rattle.jobs_pool.specs.Places.{PoolOf}
use Rattle.task_race.specs.Fates.{Ends, Proves, Stands, most_bytes, most_output, stays_law}
use Rattle.task_race.specs.Serving.{IsServing}
use Rattle.task_race.specs.Bays.{AreCountsOf, BackOf, YardAt, counts_in}
use Rattle.task_race.proofs.BackLemmas.{counts_told}
use Rattle.task_race.specs.Ends.{HasEndCause, IsJudgedAs, IsLimitShown, IsCalledOffBy, IsProofOf, IsSkippedBy, IsStreamOf, script_of}
use Rattle.task_race.specs.Ran.{RacingOf, IsStart, LanesRan, Serves, evidence_in, job_count, name_in, terms_in}
use Rattle.task_race.proofs.JobLemmas.{job_named}
use Rattle.task_race.proofs.PlaceLemmas.{at_contains, at_map, contains_at, stands_at}

-- ---- what a child leaves

-- an output and what is left after it are the stream of the job's child
front_streams : (told : Option YardOf) (task lane : ℕ) (job : JobName) (output rest : List ℕ) → IsFrontOf (new_bay told task lane) job output rest
    → IsStreamOf (script_of told task lane job) (output ++ rest)
front_streams None task lane job output rest front = tt
front_streams (Some scripts) task lane job output rest front = front

-- what is got of a lane's proof file is that of the job's script
proof_streams : {A : Type 0} (told : Option YardOf) (task lane : ℕ) (job : JobName) (proof : List ℕ) → IsProof (new_bay told task lane) job most_bytes proof ⊎ A
    → IsProofOf (script_of told task lane job) proof ⊎ A
proof_streams None task lane job proof (inl is) = inl tt
proof_streams (Some scripts) task lane job proof (inl is) = inl is
proof_streams told task lane job proof (inr none) = inr none

-- ---- who spares a job

and_parts : (x y : Bool) → (x && y) ≡ true → (x ≡ true) × (y ≡ true)
and_parts true y is = (refl, is)
and_parts false y is = absurd (cc)

not_true : (x : Bool) → not x ≡ true → x ≡ false
not_true true is = absurd (cc)
not_true false is = refl

-- ---- when the limit is shown

limit_shown : (may_read : ℕ → Type 0) (limit start : Option ℕ) (t : ℕ) → IsStart may_read limit start → may_read t
    → IsSomeAnd limit (λ millis. (unwrap_or start 0 ≤ t) × (millis ≤ t - unwrap_or start 0)) → IsLimitShown may_read limit start t
limit_shown may_read None start t began may shows = absurd shows
limit_shown may_read (Some millis) None t began may shows = absurd began
limit_shown may_read (Some millis) (Some begun) t began may shows =
    record { begun = begun; millis = millis; limit_is = refl; start_is = refl; may_start = began; may_stop = may; shows = shows }

-- ---- a job's end

above : (n : ℕ) → Rose 0 n → 0 < n
above n rose = omega (rose, arith)

module _ (racing : RacingOf) (pool : Option PoolOf) (may_read : ℕ → Type 0) (before now : YardAt) (start : Option ℕ) (reports : List (ReportOf FindingOf))
    (ran : LanesRan racing pool may_read before now start reports) where
  -- what a lane's bay left
  pub back_of : (lane : ℕ) (r : ReportOf FindingOf) → slice_get reports lane ≡ Some r → (back : BackOf) × (slice_get ran.backs lane ≡ Some back)
  back_of lane r at = stands_at ran.backs lane (omega (slice_get_within reports lane r at, ran.consistent.lanes_are, ran.backs_are, arith))

  pub counts_of_lane : (lane : ℕ) (r : ReportOf FindingOf) (back : BackOf) → slice_get reports lane ≡ Some r → slice_get ran.backs lane ≡ Some back → AreCountsOf racing.task lane before now back.counts
  counts_of_lane lane r back at is = record {
    rose = ran.came_back.rose back.counts (at_contains (map counts_in ran.backs) lane back.counts (at_map counts_in ran.backs lane back is));
    told = counts_told before.scripts before.started now.started racing.task lane ran.backs back (starts_upto (job_count racing) (ran.starts lane r back at is).starts)
        (at_contains ran.backs lane back is) (ran.starts lane r back at is).told ran.logged;
  }

module _ (racing : RacingOf) (pool : Option PoolOf) (may_read : ℕ → Type 0) (before now : YardAt) (start : Option ℕ) (reports : List (ReportOf FindingOf))
    (ran : LanesRan racing pool may_read before now start reports) (lane place : ℕ) (r : ReportOf FindingOf) (back : BackOf) (at : slice_get reports lane ≡ Some r)
    (is_back : slice_get ran.backs lane ≡ Some back) (lt : place < job_count racing) where
  -- an end that ends no lane's work follows from the job's events
  replayed : (e : JobEnd FindingOf) → end_at r place ≡ e → (IsLast e → ⊥) → Replayed (Serves racing lane place) (terms_in racing start place) (KnewBy (events_at r) place) (events_at r place) e
  replayed e is goes_on = elim ((ran.consistent.replays lane r at).each place lt) [
    | inl own ↦ subst (λ (x : JobEnd FindingOf). Replayed (Serves racing lane place) (terms_in racing start place) (KnewBy (events_at r) place) (events_at r place) x) is own.1
    | inr late ↦ absurd (goes_on (subst (λ (x : JobEnd FindingOf). IsLast x) (sym late.3 ∙ is) late.2))
  ]

  -- what is carried is of the problem
  of_problem : (e : JobEnd FindingOf) (f : FindingOf) → end_at r place ≡ e → Carries e f → f.problem ≡ racing.problem.problem
  of_problem e f is carries = (ran.consistent.carried lane place r f at lt (subst (λ (x : JobEnd FindingOf). Carries x f) (sym is) carries)).1.0

  -- an end of a child that ran, and what its reader read
  read_out : (e : JobEnd FindingOf) → end_at r place ≡ e → (IsLast e → ⊥) → (NoStart e → ⊥) → (EndsWaiting e → ⊥) → (e ≡ end.StartFailed → ⊥)
      → ReadsScript (Stands racing.problem (name_in racing place) (evidence_in racing lane)) (Ends racing.problem (name_in racing place) (evidence_in racing lane))
      (Proves racing.problem (name_in racing place) (evidence_in racing lane)) (new_bay before.scripts racing.task lane) (name_in racing place) most_bytes (most_output (evidence_in racing lane))
      (events_at r place).reader
  read_out e is goes_on started placed ran_on = elim ((ran.starts lane r back at is_back).each place lt) [
    | inl late ↦ absurd (goes_on (subst (λ (x : JobEnd FindingOf). IsLast x) (sym late.0.3 ∙ is) late.0.2))
    | inr own ↦ elim own [
      | inl none ↦ absurd (elim none.0 [
        | inl unasked ↦ started (subst (λ (x : JobEnd FindingOf). NoStart x) is unasked)
        | inr waits ↦ placed (subst (λ (x : JobEnd FindingOf). EndsWaiting x) is waits.1)
      ])
      | inr some ↦ elim some [
        | inl failed ↦ absurd (ran_on (sym is ∙ failed.0))
        | inr child ↦ child.1
      ]
    ]
  ]

  judged_as : (said : Judged FindingOf) (e : JobEnd FindingOf) → end_at r place ≡ e → (IsLast e → ⊥) → (NoStart e → ⊥) → (EndsWaiting e → ⊥) → (e ≡ end.StartFailed → ⊥) → Serves racing lane place
      → ((output rest proof : List ℕ) → IsProofOf (script_of before.scripts racing.task lane (name_in racing place)) proof ⊎ ((proof ≡ []) × NotByFile (reader_of (events_at r place)))
      → Comes (Stands racing.problem (name_in racing place) (evidence_in racing lane)) (Ends racing.problem (name_in racing place) (evidence_in racing lane))
      (Proves racing.problem (name_in racing place) (evidence_in racing lane)) (rest ≡ []) output proof (reader_of (events_at r place))
      → ComesTo (Ends racing.problem (name_in racing place) (evidence_in racing lane)) (Proves racing.problem (name_in racing place) (evidence_in racing lane))
      (IsProofOf (script_of before.scripts racing.task lane (name_in racing place))) (output ++ rest) said)
      → IsJudgedAs racing before.scripts lane (name_in racing place) said
  judged_as said e is goes_on started placed ran_on serves comes =
      let read = read_out e is goes_on started placed ran_on in (
        serves,
        (
          read.output ++ read.rest,
          front_streams before.scripts racing.task lane (name_in racing place) read.output read.rest read.front,
          comes read.output read.rest read.proof (proof_streams before.scripts racing.task lane (name_in racing place) read.proof read.is_proof) read.comes,
        ),
      )

  found_cause : (f : FindingOf) → end_at r place ≡ end.Found f → IsJudgedAs racing before.scripts lane (name_in racing place) (judged.Found f)
  found_cause f is = elim (replayed (end.Found f) is (λ last. last)) [
    | inl own ↦ judged_as (judged.Found f) (end.Found f) is (λ last. last) (λ none. none) (λ waits. waits) (λ failed. cc) own.0
        (λ output rest proof got comes. plain_found (Stands racing.problem (name_in racing place) (evidence_in racing lane)) (Ends racing.problem (name_in racing place) (evidence_in racing lane))
        (Proves racing.problem (name_in racing place) (evidence_in racing lane)) (stays_law racing.problem (name_in racing place) (evidence_in racing lane))
        (IsProofOf (script_of before.scripts racing.task lane (name_in racing place))) output rest proof (output ++ rest) refl f (reader_of (events_at r place)) own.1 got comes)
    | inr passed ↦ absurd passed.1
  ]

  unknown_cause : end_at r place ≡ end.Unknown → IsJudgedAs racing before.scripts lane (name_in racing place) judged.Unknown
  unknown_cause is = elim (replayed end.Unknown is (λ last. last)) [
    | inl own ↦ judged_as judged.Unknown end.Unknown is (λ last. last) (λ none. none) (λ waits. waits) (λ failed. cc) own.0
        (λ output rest proof got comes. plain_unknown (Stands racing.problem (name_in racing place) (evidence_in racing lane)) (Ends racing.problem (name_in racing place) (evidence_in racing lane))
        (Proves racing.problem (name_in racing place) (evidence_in racing lane)) (stays_law racing.problem (name_in racing place) (evidence_in racing lane))
        (IsProofOf (script_of before.scripts racing.task lane (name_in racing place))) output rest proof (output ++ rest) refl (reader_of (events_at r place)) own.1.0 got comes)
    | inr passed ↦ absurd passed.1
  ]

  bad_cause : (number place_in : ℕ) → end_at r place ≡ end.Bad number place_in → IsJudgedAs racing before.scripts lane (name_in racing place) (judged.Bad number place_in)
  bad_cause number place_in is = elim (replayed (end.Bad number place_in) is (λ last. last)) [
    | inl own ↦ judged_as (judged.Bad number place_in) (end.Bad number place_in) is (λ last. last) (λ none. none) (λ waits. waits) (λ failed. cc) own.0
        (λ output rest proof got comes. plain_bad (Stands racing.problem (name_in racing place) (evidence_in racing lane)) (Ends racing.problem (name_in racing place) (evidence_in racing lane))
        (Proves racing.problem (name_in racing place) (evidence_in racing lane)) (stays_law racing.problem (name_in racing place) (evidence_in racing lane))
        (IsProofOf (script_of before.scripts racing.task lane (name_in racing place))) output rest proof (output ++ rest) refl number place_in (reader_of (events_at r place)) own.1.0 got comes)
    | inr passed ↦ absurd passed.1
  ]

  -- the engine of a lane whose job isn't served doesn't serve it
  unserved_cause : end_at r place ≡ end.NotServed → IsServing (slice_get racing.engines lane) (name_in racing place) → ⊥
  unserved_cause is serving = elim (replayed end.NotServed is (λ last. last)) [
    | inl own ↦ own.1
    | inr passed ↦ passed.0 (serving, (place, job_named racing.problem.problem.mode racing.problem.problem.span racing.problem.design place lt))
  ]

  -- a finding that makes the job needless calls it off
  called_off_cause : (f : FindingOf) → end_at r place ≡ end.CalledOff f → IsCalledOffBy racing (name_in racing place) f
  called_off_cause f is = elim (replayed (end.CalledOff f) is (λ last. last)) [
    | inl own ↦
        let needless = (called_by_look (terms_in racing start place) f (events_at r place).keeper own.1.1).1 in
        let parts = and_parts (not racing.wait) (needless_by f.job f.answer (name_in racing place)) needless in
        (not_true racing.wait parts.0, of_problem (end.CalledOff f) f is refl, parts.1)
    | inr passed ↦ absurd passed.1
  ]

  -- or skips it
  skip_skips : (f : FindingOf)
      → EndIs (terms_in racing start place) (KnewBy (events_at r) place) (reader_of (events_at r place)) (keeper_of (terms_in racing start place) (events_at r place)) (end.Skipped f)
      → (terms_in racing start place).skipped f ≡ true
  skip_skips f (unread, inl looked) = (skipped_by_look (terms_in racing start place) f (events_at r place).keeper looked).1
  skip_skips f (unread, inr knew) = knew.2

  skipped_by_it : (f : FindingOf) → end_at r place ≡ end.Skipped f → (terms_in racing start place).skipped f ≡ true → IsSkippedBy racing (name_in racing place) f
  skipped_by_it f is skips =
      let parts = and_parts (not racing.wait) (skipped_by f.job f.answer (name_in racing place)) skips in
      (not_true racing.wait parts.0, of_problem (end.Skipped f) f is refl, parts.1)

  skipped_cause : (f : FindingOf) → end_at r place ≡ end.Skipped f → IsSkippedBy racing (name_in racing place) f
  skipped_cause f is = elim (replayed (end.Skipped f) is (λ last. last)) [
    | inl own ↦ skipped_by_it f is (skip_skips f own.1)
    | inr passed ↦ skipped_by_it f is (skip_skips f passed.1)
  ]

  stopped_cause : (t : ℕ) → end_at r place ≡ end.Stopped t → IsLimitShown may_read racing.limit start t
  stopped_cause t is =
      let stopped = ran.stopped lane r at place t lt is in
      limit_shown may_read racing.limit start t ran.start_is stopped.reading stopped.shows

  pub end_cause : (e : JobEnd FindingOf) → end_at r place ≡ e → HasEndCause racing may_read before.scripts back.counts start lane (name_in racing place) e
  end_cause (end.Found f) is = found_cause f is
  end_cause end.Unknown is = unknown_cause is
  end_cause (end.Bad number place_in) is = bad_cause number place_in is
  end_cause end.NotServed is = unserved_cause is
  end_cause end.ReadFailed is = above back.counts.reads (((ran.faults lane r back at is_back).each place lt).read is)
  end_cause end.StartFailed is = above back.counts.starts (((ran.faults lane r back at is_back).each place lt).start is)
  end_cause end.HoldFailed is = above back.counts.holds (((ran.faults lane r back at is_back).each place lt).hold is)
  end_cause (end.Skipped f) is = skipped_cause f is
  end_cause (end.CalledOff f) is = called_off_cause f is
  end_cause (end.Stopped t) is = stopped_cause t is
  end_cause end.Memory is = tt

-- the cause of an end, with the counts of the lane's bay
pub lane_cause : (racing : RacingOf) {pool : Option PoolOf} (may_read : ℕ → Type 0) (before now : YardAt) (start : Option ℕ) (reports : List (ReportOf FindingOf)) → LanesRan racing pool may_read before now start reports
    → (lane place : ℕ) (r : ReportOf FindingOf) → slice_get reports lane ≡ Some r → place < job_count racing → (e : JobEnd FindingOf) → end_at r place ≡ e
    → (counts : CountsOf) × AreCountsOf racing.task lane before now counts × HasEndCause racing may_read before.scripts counts start lane (name_in racing place) e
lane_cause racing {pool} may_read before now start reports ran lane place r at lt e is =
    let back = back_of racing pool may_read before now start reports ran lane r at in (
      back.0.counts,
      counts_of_lane racing pool may_read before now start reports ran lane r back.0 at back.1,
      end_cause racing pool may_read before now start reports ran lane place r back.0 at back.1 lt e is,
    )

-- ---- stops

not_past : (ends : List (JobEnd FindingOf)) (place t : ℕ) → slice_index_or ends place end.NotServed ≡ end.Stopped t → place < length ends
not_past [] place t is = absurd (cc)
not_past (e ∷ ends) zero t is = omega arith
not_past (e ∷ ends) (suc place) t is = let rest = not_past ends place t is in omega (rest, arith)

given : (may_read : ℕ → Type 0) (limit start : Option ℕ) (t : ℕ) → IsLimitShown may_read limit start t → IsSome start × IsSome limit
given may_read limit start t shown = (subst (λ (o : Option ℕ). IsSome o) (sym shown.start_is) refl, subst (λ (o : Option ℕ). IsSome o) (sym shown.limit_is) refl)

pub limited : (racing : RacingOf) {pool : Option PoolOf} (may_read : ℕ → Type 0) (before now : YardAt) (start : Option ℕ) (reports : List (ReportOf FindingOf))
    → LanesRan racing pool may_read before now start reports → (r : ReportOf FindingOf) (place t : ℕ) → Contains reports r → end_at r place ≡ end.Stopped t → IsSome start × IsSome racing.limit
limited racing {pool} may_read before now start reports ran r place t among is =
    let at = contains_at reports r among in
    let within : place < job_count racing = omega (not_past r.ends place t is, (ran.consistent.replays among.0 r at).ends, arith) in
    given may_read racing.limit start t (stopped_cause racing pool may_read before now start reports ran among.0 place r (back_of racing pool may_read before now start reports ran among.0 r at).0 at (back_of racing pool may_read before now start reports ran among.0 r at).1 within t is)
