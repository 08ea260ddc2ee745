-- What a lane's jobs add to its bay's starts, one job more at a time.
use Rattle.std.proofs.Common.{◌≡◌, ◌≢◌, ◌⊎◌, inl, inr, ℕ, zero, suc, ◌+◌, ◌<◌, List, [], ◌∷◌, ◌++◌, length, set, get_or, Option, None, Some, option_map, refl, sym, ap, subst, ◌∙◌, arith}
use Rattle.std.proofs.lemmas.List.{append-nil, append_assoc, get_or-append-add, get_or-set_other, get_or-set_same, get_or_append_left}
use Rattle.jobs_pool.specs.Places.{PoolOf}
use Rattle.sby_edge.specs.Child.{BayOf, StartOf}
use Rattle.sby_terms.specs.declared.names.JobName.{JobName}
use Rattle.sby_terms.specs.declared.names.Mode.{Mode}
use Rattle.race_core.specs.Asking.{name_at}
use Rattle.race_core.specs.Consistent.{end_at, events_at}
use Rattle.race_core.specs.Ends.{IsLast}
use Rattle.race_core.specs.Parts.{reader_from}
use Rattle.race_core.specs.Report.{EventsOf, ReportOf, no_events}
use Rattle.race_core.specs.declared.end.JobEnd.{JobEnd}
use Rattle.race_core.specs.declared.end.JobEnd.TheVariants as end
use Rattle.race_core.specs.declared.event.Judged.{Judged}
use Rattle.race_core.specs.declared.event.LaneEvent.{LaneEvent}
use Rattle.race_core.specs.declared.part.Reader.{Reader}
use Rattle.race_core.specs.declared.part.Reader.TheVariants as reader
use Rattle.lane_run.specs.Reading.{TookProof}
use Rattle.lane_run.specs.Starting.{IsFrontOf, ReadsScript, with_starts}
use Rattle.lane_run.specs.Done.{CameLate, Stand}
use Rattle.lane_run.specs.Started.{JobStarts, LaneStarts, starts_upto}

-- no start more
pub no_more : (bay : Option BayOf) → bay ≡ option_map (with_starts []) bay
no_more None = refl
no_more (Some bay) = ap (λ (l : List StartOf). Some (record bay { starts = l })) (sym (append-nil bay.starts))

-- some starts, and then others
both : (first then : List StartOf) (bay : Option BayOf) → option_map (with_starts then) (option_map (with_starts first) bay) ≡ option_map (with_starts (first ++ then)) bay
both first then None = refl
both first then (Some bay) = ap (λ (l : List StartOf). Some (record bay { starts = l })) (append_assoc bay.starts first then)

-- the starts so far are no part of what a bay tells of its scripts
front_before : (starts : List StartOf) (bay : Option BayOf) (job : JobName) (output rest : List ℕ) → IsFrontOf (option_map (with_starts starts) bay) job output rest → IsFrontOf bay job output rest
front_before starts None job output rest h = tt
front_before starts (Some bay) job output rest h = h

proof_before : {T : Type 0} (starts : List StartOf) (bay : Option BayOf) (job : JobName) (most : ℕ) (proof : List ℕ) (part : Reader T)
    → TookProof (option_map (with_starts starts) bay) job most proof part → TookProof bay job most proof part
proof_before starts None job most proof part (inl is) = inl tt
proof_before starts None job most proof part (inr none) = inr none
proof_before starts (Some bay) job most proof part h = h

reads_before : {T : Type 0} (st en pr : List ℕ → Judged T → Type 0) (starts : List StartOf) (bay : Option BayOf) (job : JobName) (most most_output : ℕ) (events : List (LaneEvent T))
    → ReadsScript st en pr (option_map (with_starts starts) bay) job most most_output events → ReadsScript st en pr bay job most most_output events
reads_before st en pr starts bay job most most_output events h = record {
  output = h.output;
  rest = h.rest;
  proof = h.proof;
  front = front_before starts bay job h.output h.rest h.front;
  read = h.read;
  filed = h.filed;
  is_proof = proof_before starts bay job most h.proof (reader_from reader.Fresh events) h.is_proof;
  comes = h.comes;
  closed = h.closed;
  bound = h.bound;
}

-- so a job's starts are the same to a bay with fewer
job_before : {T : Type 0} (pool : Option PoolOf) (words : JobName → List (List ℕ)) (file : JobName → List ℕ) (st en pr : JobName → List ℕ → Judged T → Type 0) (most most_output : ℕ) (job : JobName) (first : List StartOf) (bay : Option BayOf)
    (es : EventsOf T) (e : JobEnd T) (starts : List StartOf)
    → JobStarts pool words file st en pr most most_output job (option_map (with_starts first) bay) es e starts → JobStarts pool words file st en pr most most_output job bay es e starts
job_before pool words file st en pr most most_output job first bay es e starts (inl h) = inl h
job_before pool words file st en pr most most_output job first bay es e starts (inr (inl h)) = inr (inl h)
job_before pool words file st en pr most most_output job first bay es e starts (inr (inr h)) = inr (inr (h.0, reads_before (st job) (en job) (pr job) first bay job most most_output es.reader h.1, h.2))

-- the starts of each job, with those of one job put in
with_job : ℕ → List StartOf → (ℕ → List StartOf) → ℕ → List StartOf
with_job zero new old zero = new
with_job zero new old (suc j) = old (suc j)
with_job (suc n) new old zero = old zero
with_job (suc n) new old (suc j) = with_job n new (λ k. old (suc k)) j

with_job_there : (n : ℕ) (new : List StartOf) (old : ℕ → List StartOf) → with_job n new old n ≡ new
unfolding with_job
with_job_there zero new old = refl
with_job_there (suc n) new old = with_job_there n new (λ k. old (suc k))

with_job_below : (n : ℕ) (new : List StartOf) (old : ℕ → List StartOf) (j : ℕ) → j < n → with_job n new old j ≡ old j
unfolding with_job
with_job_below zero new old j h = absurd (omega (h, arith))
with_job_below (suc n) new old zero h = refl
with_job_below (suc n) new old (suc j) h = with_job_below n new (λ k. old (suc k)) j (omega (h, arith))

upto_same : (n : ℕ) (f g : ℕ → List StartOf) → ((j : ℕ) → j < n → f j ≡ g j) → starts_upto n f ≡ starts_upto n g
upto_same zero f g same = refl
upto_same (suc n) f g same =
    ap (λ (l : List StartOf). l ++ f n) (upto_same n f g (λ j lt. same j (omega (lt, arith)))) ∙ ap (λ (l : List StartOf). starts_upto n g ++ l) (same n (omega arith))

upto_next : (n : ℕ) (f : ℕ → List StartOf) → starts_upto (n + 1) f ≡ starts_upto n f ++ f n
upto_next n f = ap (λ (k : ℕ). starts_upto k f) (next n)
  where
    next : (n : ℕ) → n + 1 ≡ suc n
    next n = omega arith

last_or_below : (j n : ℕ) → j < n + 1 → (j < n) ⊎ (j ≡ n)
last_or_below j n h = grind (arith, h)

-- a job after an earlier end stays so
late_stands : {T : Type 0} (n : ℕ) (r r' : ReportOf T) (j : ℕ) → Stand n r r' → j < n → CameLate r j → CameLate r' j
late_stands {T} n r r' j stand lt (l, lj, last, same, without) =
    let ln : l < n = omega (lj, lt, arith) in
    (l, lj, subst (λ (e : JobEnd T). IsLast e) (sym (stand l ln).0) last, (stand j lt).0 ∙ (same ∙ sym (stand l ln).0), (stand j lt).1 ∙ without)

module _ {T : Type 0} (pool : Option PoolOf) (words : JobName → List (List ℕ)) (file : JobName → List ℕ) (st en pr : JobName → List ℕ → Judged T → Type 0) (most most_output : ℕ) (mode : Mode) where
  -- a lane that has done nothing started nothing
  pub lane_unstarted : (bay : Option BayOf) (r : ReportOf T) → LaneStarts pool words file st en pr most most_output mode bay bay 0 r
  lane_unstarted bay r = record {
    starts = λ j. [];
    told = no_more bay;
    each = λ j lt. absurd (omega (lt, arith));
  }

  -- one more job
  pub starts_more : (before mid now : Option BayOf) (n : ℕ) (r r' : ReportOf T) (new : List StartOf) → LaneStarts pool words file st en pr most most_output mode before mid n r → Stand n r r'
      → now ≡ option_map (with_starts new) mid
      → (CameLate r' n × (new ≡ [])) ⊎ JobStarts pool words file st en pr most most_output (name_at mode n) mid (events_at r' n) (end_at r' n) new
      → LaneStarts pool words file st en pr most most_output mode before now (n + 1) r'
  starts_more before mid now n r r' new lane stand told job = record {
    starts = all;
    told = told ∙ (ap (λ (b : Option BayOf). option_map (with_starts new) b) lane.told
        ∙ (both (starts_upto n lane.starts) new before ∙ ap (λ (l : List StartOf). option_map (with_starts l) before) (sym listed)));
    each = λ j lt. elim (last_or_below j n lt) [
      | inl less ↦ earlier j less (lane.each j less)
      | inr same ↦ subst (λ (k : ℕ). At k) (sym same) here
    ];
  }
    where
      all : ℕ → List StartOf
      all = with_job n new lane.starts

      At : ℕ → Type 0
      At j = (CameLate r' j × (all j ≡ [])) ⊎ JobStarts pool words file st en pr most most_output (name_at mode j) before (events_at r' j) (end_at r' j) (all j)

      listed : starts_upto (n + 1) all ≡ starts_upto n lane.starts ++ new
      listed = upto_next n all ∙ (ap (λ (l : List StartOf). l ++ all n) (upto_same n all lane.starts (λ j lt. with_job_below n new lane.starts j lt))
          ∙ ap (λ (l : List StartOf). starts_upto n lane.starts ++ l) (with_job_there n new lane.starts))

      put : (CameLate r' n × (new ≡ [])) ⊎ JobStarts pool words file st en pr most most_output (name_at mode n) mid (events_at r' n) (end_at r' n) new
          → (CameLate r' n × (new ≡ [])) ⊎ JobStarts pool words file st en pr most most_output (name_at mode n) before (events_at r' n) (end_at r' n) new
      put (inl late) = inl late
      put (inr h) = inr (job_before pool words file st en pr most most_output (name_at mode n) (starts_upto n lane.starts) before (events_at r' n) (end_at r' n) new
          (subst (λ (b : Option BayOf). JobStarts pool words file st en pr most most_output (name_at mode n) b (events_at r' n) (end_at r' n) new) lane.told h))

      here : At n
      here = subst (λ (l : List StartOf). (CameLate r' n × (l ≡ [])) ⊎ JobStarts pool words file st en pr most most_output (name_at mode n) before (events_at r' n) (end_at r' n) l)
          (sym (with_job_there n new lane.starts)) (put job)

      earlier : (j : ℕ) → j < n
          → (CameLate r j × (lane.starts j ≡ [])) ⊎ JobStarts pool words file st en pr most most_output (name_at mode j) before (events_at r j) (end_at r j) (lane.starts j)
          → At j
      earlier j lt (inl late) = inl (late_stands n r r' j stand lt late.0, with_job_below n new lane.starts j lt ∙ late.1)
      earlier j lt (inr h) = inr (
          subst (λ (l : List StartOf). JobStarts pool words file st en pr most most_output (name_at mode j) before (events_at r' j) (end_at r' j) l) (sym (with_job_below n new lane.starts j lt))
          (subst (λ (e : JobEnd T). JobStarts pool words file st en pr most most_output (name_at mode j) before (events_at r' j) e (lane.starts j)) (sym (stand j lt).0)
          (subst (λ (es : EventsOf T). JobStarts pool words file st en pr most most_output (name_at mode j) before es (end_at r j) (lane.starts j)) (sym (stand j lt).1) h)))

-- the report with one more job: the earlier ones stand
module _ {T : Type 0} (n : ℕ) (r r' : ReportOf T) (e : JobEnd T) (es : EventsOf T) (ends : length r.ends ≡ n) (is : r' ≡ record r { events = set r.events n es; ends = r.ends ++ e ∷ [] }) where
  pub one_stands : Stand n r r'
  one_stands j lt =
      let ne : j ≢ n = omega (lt, arith) in (
        ap (λ (x : ReportOf T). end_at x j) is ∙ get_or_append_left r.ends (e ∷ []) end.NotServed j (omega (lt, ends, arith)),
        ap (λ (x : ReportOf T). events_at x j) is ∙ get_or-set_other r.events n j es no_events ne,
      )

  pub one_end : end_at r' n ≡ e
  one_end = ap (λ (x : ReportOf T). end_at x n) is ∙ subst (λ (k : ℕ). get_or (r.ends ++ e ∷ []) k end.NotServed ≡ e) (omega (ends, arith)) (get_or-append-add r.ends (e ∷ []) 0 end.NotServed)

  pub one_events : n < length r.events → events_at r' n ≡ es
  one_events few = ap (λ (x : ReportOf T). events_at x n) is ∙ get_or-set_same r.events n es no_events few

-- the same after an end that ended the lane's work
module _ {T : Type 0} (n : ℕ) (r r' : ReportOf T) (e : JobEnd T) (ends : length r.ends ≡ n) (is : r' ≡ record r { ends = r.ends ++ e ∷ [] }) where
  pub late_stand : Stand n r r'
  late_stand j lt = (
    ap (λ (x : ReportOf T). end_at x j) is ∙ get_or_append_left r.ends (e ∷ []) end.NotServed j (omega (lt, ends, arith)),
    ap (λ (x : ReportOf T). events_at x j) is,
  )

  pub came_late : (l : ℕ) → l < n → IsLast e → e ≡ end_at r l → events_at r n ≡ no_events → CameLate r' n
  came_late l ln last same none = (
    l,
    ln,
    subst (λ (x : JobEnd T). IsLast x) (sym ((late_stand l ln).0 ∙ sym same)) last,
    new_end ∙ (same ∙ sym (late_stand l ln).0),
    ap (λ (x : ReportOf T). events_at x n) is ∙ none,
  )
    where
      new_end : end_at r' n ≡ e
      new_end = ap (λ (x : ReportOf T). end_at x n) is ∙ subst (λ (k : ℕ). get_or (r.ends ++ e ∷ []) k end.NotServed ≡ e) (omega (ends, arith)) (get_or-append-add r.ends (e ∷ []) 0 end.NotServed)

-- the starts of a job, as its report tells of it
pub in_report : {T : Type 0} (pool : Option PoolOf) (words : JobName → List (List ℕ)) (file : JobName → List ℕ) (st en pr : JobName → List ℕ → Judged T → Type 0) (most most_output : ℕ) (job : JobName) (bay : Option BayOf) (n : ℕ) (r : ReportOf T)
    (e : JobEnd T) (es : EventsOf T) (starts : List StartOf) → end_at r n ≡ e → events_at r n ≡ es
    → JobStarts pool words file st en pr most most_output job bay es e starts → JobStarts pool words file st en pr most most_output job bay (events_at r n) (end_at r n) starts
in_report {T} pool words file st en pr most most_output job bay n r e es starts ended told h =
    subst (λ (x : JobEnd T). JobStarts pool words file st en pr most most_output job bay (events_at r n) x starts) (sym ended)
    (subst (λ (x : EventsOf T). JobStarts pool words file st en pr most most_output job bay x e starts) (sym told) h)
