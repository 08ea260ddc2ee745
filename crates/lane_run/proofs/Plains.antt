-- The ends of an undisturbed lane are Plain's.
use Rattle.std.proofs.Common.{◌≡◌, ◌≢◌, ◌⊎◌, inl, inr, ℕ, ◌<◌, List, [], ◌++◌, Option, Some, None, IsSomeAnd, refl, sym, ap, subst, ◌∙◌, append-nil, arith}
use Rattle.jobs_pool.specs.Places.{PoolOf}
use Rattle.sby_edge.specs.Cause.{CountsOf}
use Rattle.sby_edge.specs.Child.{BayOf, StartOf, up_to}
use Rattle.sby_edge.specs.Script.{ScriptOf}
use Rattle.sby_terms.specs.declared.names.JobName.{JobName}
use Rattle.sby_terms.specs.declared.names.Mode.{Mode}
use Rattle.race_cells.specs.Notes.{NoteOf}
use Rattle.race_core.specs.Asking.{name_at}
use Rattle.race_core.specs.Carrying.{KnewBy}
use Rattle.race_core.specs.Consistent.{end_at, events_at}
use Rattle.race_core.specs.Ends.{EndIs, HasEnd, IsLast, UnservedEndIs}
use Rattle.race_core.specs.Parts.{Terms, keeper_of, reader_of}
use Rattle.race_core.specs.Report.{ReportOf}
use Rattle.race_core.specs.declared.end.JobEnd.{JobEnd}
use Rattle.race_core.specs.declared.end.JobEnd.TheVariants as end
use Rattle.race_core.specs.declared.event.Judged.{Judged}
use Rattle.race_core.specs.declared.event.Judged.TheVariants as judged
use Rattle.race_core.specs.declared.event.LaneEvent.{LaneEvent}
use Rattle.race_core.specs.declared.part.By.{By}
use Rattle.race_core.specs.declared.part.By.TheVariants as by
use Rattle.race_core.specs.declared.part.Reader.{Reader}
use Rattle.race_core.specs.declared.part.Reader.TheVariants as reader
use Rattle.lane_run.specs.Reading.{Comes, ComesBy, IsProof, NotByFile}
use Rattle.lane_run.specs.Starting.{EndsWaiting, IsFront, NoStart, ReadsScript, Starts, Unstarted}
use Rattle.lane_run.specs.Complete.{ComesTo, IsKnown, IsPlain, IsUndisturbed}
use Rattle.lane_run.specs.Done.{CameLate, LaneFaults, LaneSoFar, LaneStops}
use Rattle.lane_run.specs.Started.{LaneStarts}
use Rattle.lane_run.specs.declared.task.Limit.{Limit}
use Rattle.lane_run.proofs.Reasons.{called_by_look, skipped_by_look}

-- without a gate a front and what is left after it are the script's bytes
whole_front : (script : ScriptOf) (output rest : List ℕ) → script.gate ≡ None → IsFront script output rest → output ++ rest ≡ up_to script.stalls script.bytes
whole_front script output rest none (inl h) = h
whole_front script output rest none (inr h) = absurd (subst (λ g. IsSomeAnd g (λ gate. output ++ rest ≡ up_to script.stalls gate.instead)) none h)

-- an output that has ended is whole
whole_output : (output rest whole : List ℕ) → output ++ rest ≡ whole → rest ≡ [] → output ≡ whole
whole_output output rest whole is none = sym (append-nil output) ∙ (ap (λ (r : List ℕ). output ++ r) (sym none) ∙ is)

module _ {T : Type 0} (stands ends proves : List ℕ → Judged T → Type 0) (stays : (bytes more : List ℕ) (p : Judged T) → p ≢ judged.More → stands bytes p → ends (bytes ++ more) p)
    (Got : List ℕ → Type 0) (output rest proof whole : List ℕ) (is : output ++ rest ≡ whole) where
  plain_by : (b : By) (p : Judged T) → p ≢ judged.More → Got proof ⊎ (b ≢ by.File) → ComesBy stands ends proves (rest ≡ []) output proof b p → ComesTo ends proves Got whole p
  plain_by by.Bytes p some got h = inl (subst (λ (w : List ℕ). ends w p) is (stays output rest p some h))
  plain_by by.Close p some got h = inl (subst (λ (w : List ℕ). ends w p) (whole_output output rest whole is h.0) h.1)
  plain_by by.File p some (inl got) h = inr (subst (λ (w : List ℕ). ends w judged.More) (whole_output output rest whole is h.0) h.1, (proof, got, h.2))
  plain_by by.File p some (inr unfiled) h = absurd (unfiled refl)

  unknown_some : ◌≡◌ {A = Judged T} judged.Unknown judged.More → ⊥
  unknown_some h = cc

  bad_some : (n a : ℕ) → ◌≡◌ {A = Judged T} (judged.Bad n a) judged.More → ⊥
  bad_some n a h = cc

  same_bad : (n a m x : ℕ) → ◌≡◌ {A = JobEnd T} (end.Bad n a) (end.Bad m x) → ◌≡◌ {A = Judged T} (judged.Bad m x) (judged.Bad n a)
  same_bad n a m x h = cc

  -- by the file only where it was got
  got_or : (A : Type 0) → Got proof ⊎ ((proof ≡ []) × A) → Got proof ⊎ A
  got_or A (inl got) = inl got
  got_or A (inr none) = inr none.1

  pub plain_unknown : (r : Reader T) → HasEnd r end.Unknown → Got proof ⊎ ((proof ≡ []) × NotByFile r) → Comes stands ends proves (rest ≡ []) output proof r → ComesTo ends proves Got whole judged.Unknown
  plain_unknown (reader.Unknown b) h got comes = plain_by b judged.Unknown unknown_some (got_or (b ≢ by.File) got) comes
  plain_unknown (reader.Holding f b) h got comes = absurd h
  plain_unknown (reader.Found f b won) h got comes = absurd cc
  plain_unknown (reader.Bad number at b) h got comes = absurd cc
  plain_unknown reader.Failed h got comes = absurd cc
  plain_unknown reader.Fresh h got comes = absurd h
  plain_unknown reader.Reading h got comes = absurd h
  plain_unknown reader.Asking h got comes = absurd h
  plain_unknown reader.Unjudged h got comes = absurd h
  plain_unknown reader.Short h got comes = absurd h
  plain_unknown reader.Wrong h got comes = absurd h

  pub plain_bad : (n a : ℕ) (r : Reader T) → HasEnd r (end.Bad n a) → Got proof ⊎ ((proof ≡ []) × NotByFile r) → Comes stands ends proves (rest ≡ []) output proof r → ComesTo ends proves Got whole (judged.Bad n a)
  plain_bad n a (reader.Bad m x b) h got comes = subst (λ (p : Judged T). ComesTo ends proves Got whole p) (same_bad n a m x h) (plain_by b (judged.Bad m x) (bad_some m x) (got_or (b ≢ by.File) got) comes)
  plain_bad n a (reader.Unknown b) h got comes = absurd cc
  plain_bad n a (reader.Holding f b) h got comes = absurd h
  plain_bad n a (reader.Found f b won) h got comes = absurd cc
  plain_bad n a reader.Failed h got comes = absurd cc
  plain_bad n a reader.Fresh h got comes = absurd h
  plain_bad n a reader.Reading h got comes = absurd h
  plain_bad n a reader.Asking h got comes = absurd h
  plain_bad n a reader.Unjudged h got comes = absurd h
  plain_bad n a reader.Short h got comes = absurd h
  plain_bad n a reader.Wrong h got comes = absurd h

  found_some : (f : T) → ◌≡◌ {A = Judged T} (judged.Found f) judged.More → ⊥
  found_some f h = cc

  same_found : (f g : T) → ◌≡◌ {A = JobEnd T} (end.Found f) (end.Found g) → ◌≡◌ {A = Judged T} (judged.Found g) (judged.Found f)
  same_found f g h = cc

  pub plain_found : (f : T) (r : Reader T) → HasEnd r (end.Found f) → Got proof ⊎ ((proof ≡ []) × NotByFile r) → Comes stands ends proves (rest ≡ []) output proof r → ComesTo ends proves Got whole (judged.Found f)
  plain_found f (reader.Holding g b) h got comes = absurd h
  plain_found f (reader.Found g b won) h got comes = subst (λ (p : Judged T). ComesTo ends proves Got whole p) (same_found f g h) (plain_by b (judged.Found g) (found_some g) (got_or (b ≢ by.File) got) comes)
  plain_found f (reader.Unknown b) h got comes = absurd cc
  plain_found f (reader.Bad number at b) h got comes = absurd cc
  plain_found f reader.Failed h got comes = absurd cc
  plain_found f reader.Fresh h got comes = absurd h
  plain_found f reader.Reading h got comes = absurd h
  plain_found f reader.Asking h got comes = absurd h
  plain_found f reader.Unjudged h got comes = absurd h
  plain_found f reader.Short h got comes = absurd h
  plain_found f reader.Wrong h got comes = absurd h

-- an end that has neither no start nor a wait has a start
was_started : {T : Type 0} (pool : Option PoolOf) (e : JobEnd T) → (NoStart e → ⊥) → (EndsWaiting e → ⊥) → Unstarted pool e → ⊥
was_started pool e asked waited (inl none) = asked none
was_started pool e asked waited (inr waits) = waited waits.1

-- a job whose child was started, and whose start didn't fail, ran
ran_of : {T : Type 0} (pool : Option PoolOf) (job : JobName) (words : List (List ℕ)) (file : List ℕ) (ran : Type 0) (events kept : List (LaneEvent T)) (e : JobEnd T) (starts : List StartOf)
    → (Unstarted pool e → ⊥) → (e ≡ end.StartFailed → ⊥) → Starts pool job words file ran events kept e starts → ran
ran_of pool job words file ran events kept e starts unasked failed (inl h) = absurd (unasked h.0)
ran_of pool job words file ran events kept e starts unasked failed (inr (inl h)) = absurd (failed h.0)
ran_of pool job words file ran events kept e starts unasked failed (inr (inr h)) = h.1

-- no end that ends the lane's work
last_not : {T : Type 0} (e : JobEnd T) → IsLast e → ((t : ℕ) → e ≡ end.Stopped t → ⊥) → (e ≡ end.Memory → ⊥) → ⊥
last_not (end.Stopped t) last stopped memory = stopped t refl
last_not end.Memory last stopped memory = memory refl
last_not (end.Found f) last stopped memory = last
last_not end.Unknown last stopped memory = last
last_not end.NotServed last stopped memory = last
last_not (end.Bad number at) last stopped memory = last
last_not end.ReadFailed last stopped memory = last
last_not end.StartFailed last stopped memory = last
last_not end.HoldFailed last stopped memory = last
last_not (end.Skipped f) last stopped memory = last
last_not (end.CalledOff f) last stopped memory = last

module _ {T : Type 0} (For : ℕ → T → Type 0) (serves : ℕ → Type 0) (terms : ℕ → Terms T) (may_read : ℕ → Type 0) (limit : Limit) (mode : Mode)
    (pool : Option PoolOf) (words : JobName → List (List ℕ)) (file : JobName → List ℕ) (stands ends proves : JobName → List ℕ → Judged T → Type 0) (most most_output : ℕ)
    (stays : (job : JobName) (bytes more : List ℕ) (p : Judged T) → p ≢ judged.More → stands job bytes p → ends job (bytes ++ more) p)
    (n : ℕ) (notes : List (NoteOf T)) (r : ReportOf T) (so_far : LaneSoFar For serves terms may_read n notes r) (stops : LaneStops may_read limit n r)
    (bay : BayOf) (told : Option BayOf) (before now : CountsOf) (faults : LaneFaults before now n r)
    (starts : LaneStarts pool words file stands ends proves most most_output mode (Some bay) told n r) (calm : IsUndisturbed may_read limit mode bay before now n r) where
  not_stopped : (j : ℕ) → j < n → (t : ℕ) → end_at r j ≡ end.Stopped t → ⊥
  not_stopped j lt t h = let s = stops j t lt h in calm.in_time limit.start t s.start s.reading s.shows

  not_late : (j : ℕ) → j < n → CameLate r j → ⊥
  not_late j lt late =
      let less : late.0 < n = omega (late.1, lt, arith) in
      last_not (end_at r late.0) late.2 (λ t h. not_stopped late.0 less t h) (λ h. calm.has_memory late.0 less h)

  knew_later : (j : ℕ) (f : T) → j < n → KnewBy (events_at r) j f → KnewBy (events_at r) n f
  knew_later j f lt k = (k.0, omega (k.1, lt, arith), k.2)

  read_of : (j : ℕ) → j < n → (Unstarted pool (end_at r j) → ⊥) → (end_at r j ≡ end.StartFailed → ⊥)
      → ReadsScript (stands (name_at mode j)) (ends (name_at mode j)) (proves (name_at mode j)) (Some bay) (name_at mode j) most most_output (events_at r j).reader
  read_of j lt unasked failed = elim (starts.each j lt) [
    | inl late ↦ absurd (not_late j lt late.0)
    | inr s ↦ ran_of pool (name_at mode j) (words (name_at mode j)) (file (name_at mode j))
        (ReadsScript (stands (name_at mode j)) (ends (name_at mode j)) (proves (name_at mode j)) (Some bay) (name_at mode j) most most_output (events_at r j).reader)
        (events_at r j).reader (events_at r j).keeper (end_at r j) (starts.starts j) unasked failed s
  ]

  unknown_at : (j : ℕ) → j < n → end_at r j ≡ end.Unknown → HasEnd (reader_of (events_at r j)) end.Unknown
      → ComesTo (ends (name_at mode j)) (proves (name_at mode j)) (IsProof (Some bay) (name_at mode j) most) (up_to (bay.scripts (name_at mode j)).stalls (bay.scripts (name_at mode j)).bytes) judged.Unknown
  unknown_at j lt is h =
      let x = read_of j lt (λ (unasked : Unstarted pool (end_at r j)). was_started {T = T} pool end.Unknown (λ none. none) (λ waits. waits) (subst (λ (e : JobEnd T). Unstarted pool e) is unasked)) (λ failed. apart (sym is ∙ failed)) in
      plain_unknown (stands (name_at mode j)) (ends (name_at mode j)) (proves (name_at mode j)) (stays (name_at mode j)) (IsProof (Some bay) (name_at mode j) most) x.output x.rest x.proof
      (up_to (bay.scripts (name_at mode j)).stalls (bay.scripts (name_at mode j)).bytes)
      (whole_front (bay.scripts (name_at mode j)) x.output x.rest (calm.ungated j lt) x.front) (reader_of (events_at r j)) h x.is_proof x.comes
    where
      apart : ◌≡◌ {A = JobEnd T} end.Unknown end.StartFailed → ⊥
      apart h = cc

  bad_at : (j m a : ℕ) → j < n → end_at r j ≡ end.Bad m a → HasEnd (reader_of (events_at r j)) (end.Bad m a)
      → ComesTo (ends (name_at mode j)) (proves (name_at mode j)) (IsProof (Some bay) (name_at mode j) most) (up_to (bay.scripts (name_at mode j)).stalls (bay.scripts (name_at mode j)).bytes) (judged.Bad m a)
  bad_at j m a lt is h =
      let x = read_of j lt (λ (unasked : Unstarted pool (end_at r j)). was_started {T = T} pool (end.Bad m a) (λ none. none) (λ waits. waits) (subst (λ (e : JobEnd T). Unstarted pool e) is unasked)) (λ failed. apart (sym is ∙ failed)) in
      plain_bad (stands (name_at mode j)) (ends (name_at mode j)) (proves (name_at mode j)) (stays (name_at mode j)) (IsProof (Some bay) (name_at mode j) most) x.output x.rest x.proof
      (up_to (bay.scripts (name_at mode j)).stalls (bay.scripts (name_at mode j)).bytes)
      (whole_front (bay.scripts (name_at mode j)) x.output x.rest (calm.ungated j lt) x.front) m a (reader_of (events_at r j)) h x.is_proof x.comes
    where
      apart : ◌≡◌ {A = JobEnd T} (end.Bad m a) end.StartFailed → ⊥
      apart h = cc

  -- the end of a job that is served
  served_end : (j : ℕ) → j < n → serves j → (e : JobEnd T) → e ≡ end_at r j → EndIs (terms j) (KnewBy (events_at r) j) (reader_of (events_at r j)) (keeper_of (terms j) (events_at r j)) e
      → IsPlain (serves j) (ends (name_at mode j)) (proves (name_at mode j)) most bay (name_at mode j) e ⊎ IsKnown n r e
  served_end j lt serve (end.Found f) same h = inr (f, refl, (j, lt, inl h))
  served_end j lt serve end.Unknown same h = inl (inl (serve, unknown_at j lt (sym same) h.0))
  served_end j lt serve (end.Bad m a) same h = inl (inl (serve, bad_at j m a lt (sym same) h.0))
  served_end j lt serve end.ReadFailed same h = absurd (calm.reads ((faults.each j lt).read (sym same)))
  served_end j lt serve end.StartFailed same h = absurd (calm.starts ((faults.each j lt).start (sym same)))
  served_end j lt serve end.HoldFailed same h = absurd (calm.holds ((faults.each j lt).hold (sym same)))
  served_end j lt serve (end.Stopped t) same h = absurd (not_stopped j lt t (sym same))
  served_end j lt serve end.Memory same h = absurd (calm.has_memory j lt (sym same))
  served_end j lt serve (end.CalledOff f) same h = inr (f, refl, (j, lt, inr (called_by_look (terms j) f (events_at r j).keeper h.1).0))
  served_end j lt serve (end.Skipped f) same (h, inl x) = inr (f, refl, (j, lt, inr (skipped_by_look (terms j) f (events_at r j).keeper x).0))
  served_end j lt serve (end.Skipped f) same (h, inr x) = inr (f, refl, knew_later j f lt x.1)
  served_end j lt serve end.NotServed same h = absurd h

  -- and of one that isn't
  unserved_end : (j : ℕ) → j < n → (serves j → ⊥) → (e : JobEnd T) → e ≡ end_at r j → UnservedEndIs (terms j) (KnewBy (events_at r) j) (reader_of (events_at r j)) (keeper_of (terms j) (events_at r j)) e
      → IsPlain (serves j) (ends (name_at mode j)) (proves (name_at mode j)) most bay (name_at mode j) e ⊎ IsKnown n r e
  unserved_end j lt not end.NotServed same h = inl (inr (not, refl))
  unserved_end j lt not (end.Skipped f) same (h, inl x) = inr (f, refl, (j, lt, inr (skipped_by_look (terms j) f (events_at r j).keeper x).0))
  unserved_end j lt not (end.Skipped f) same (h, inr x) = inr (f, refl, knew_later j f lt x.1)
  unserved_end j lt not end.Memory same h = absurd (calm.has_memory j lt (sym same))
  unserved_end j lt not (end.Found f) same h = absurd h
  unserved_end j lt not end.Unknown same h = absurd h
  unserved_end j lt not (end.Bad m a) same h = absurd h
  unserved_end j lt not end.ReadFailed same h = absurd h
  unserved_end j lt not end.StartFailed same h = absurd h
  unserved_end j lt not end.HoldFailed same h = absurd h
  unserved_end j lt not (end.CalledOff f) same h = absurd h
  unserved_end j lt not (end.Stopped t) same h = absurd h

  pub ends_plain : (j : ℕ) → j < n → IsPlain (serves j) (ends (name_at mode j)) (proves (name_at mode j)) most bay (name_at mode j) (end_at r j) ⊎ IsKnown n r (end_at r j)
  ends_plain j lt = elim (so_far.each j lt) [
    | inl d ↦ elim d.1.replayed [
      | inl h ↦ served_end j lt h.0 (end_at r j) refl h.1
      | inr h ↦ unserved_end j lt h.0 (end_at r j) refl h.1
    ]
    | inr late ↦ absurd (not_late j lt late)
  ]
