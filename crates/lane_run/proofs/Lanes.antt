-- The jobs of a lane, one more at a time.
use Rattle.std.proofs.Common.{◌≡◌, ◌≢◌, ◌⊎◌, inl, inr, ℕ, zero, suc, ◌+◌, ◌-◌, ◌<◌, ◌≤◌, true, false, List, [], ◌∷◌, ◌++◌, length, set, get_or, Option, Some, Contains, refl, sym, ap, subst, ◌∙◌, arith}
use Rattle.std.proofs.lemmas.List.{get_or-append-add, get_or-set_other, get_or-set_same, get_or_append_left, length-append, length-set}
use Rattle.race_cells.specs.Notes.{NoteOf, known_at}
use Rattle.race_core.specs.Carrying.{Carries, KnewBy, Looked}
use Rattle.race_core.specs.Consistent.{end_at, events_at}
use Rattle.race_core.specs.Ends.{EndIs, HasEnd, IsLast, IsUnread, Leaves, UnservedEndIs}
use Rattle.race_core.specs.Parts.{Terms, keeper_of, reader_of}
use Rattle.race_core.specs.Report.{EventsOf, ReportOf, no_events}
use Rattle.race_core.specs.declared.end.JobEnd.{JobEnd}
use Rattle.race_core.specs.declared.end.JobEnd.TheVariants as end
use Rattle.race_core.specs.declared.event.LaneEvent.{LaneEvent}
use Rattle.race_core.specs.declared.event.LaneEvent.TheVariants as event
use Rattle.race_core.specs.declared.part.Keeper.{Keeper}
use Rattle.race_core.specs.declared.part.Reader.{Reader}
use Rattle.race_core.specs.declared.part.Reader.TheVariants as reader
use Rattle.lane_run.specs.Keeping.{Remember}
use Rattle.lane_run.specs.Reading.{IfWon}
use Rattle.lane_run.specs.Done.{CameLate, JobDone, KnownIn, LaneSoFar}
use Rattle.lane_run.proofs.Jobs.{replayed_same}

-- a reader has one end
one_end : {T : Type 0} (r : Reader T) (e : JobEnd T) (f : T) → HasEnd r e → HasEnd r (end.Found f) → e ≡ end.Found f
one_end (reader.Holding g b) e f h is = absurd h
one_end (reader.Found g b won) e f h is = h ∙ sym is
one_end (reader.Unknown b) e f h is = h ∙ sym is
one_end (reader.Bad number at b) e f h is = h ∙ sym is
one_end reader.Failed e f h is = h ∙ sym is
one_end reader.Fresh e f h is = absurd h
one_end reader.Reading e f h is = absurd h
one_end reader.Asking e f h is = absurd h
one_end reader.Unjudged e f h is = absurd h
one_end reader.Short e f h is = absurd h
one_end reader.Wrong e f h is = absurd h

unread_none : {T : Type 0} (r : Reader T) (f : T) → HasEnd r (end.Found f) → IsUnread r → ⊥
unread_none (reader.Holding g b) f is h = h
unread_none (reader.Found g b won) f is h = h
unread_none (reader.Unknown b) f is h = h
unread_none (reader.Bad number at b) f is h = h
unread_none reader.Failed f is h = h
unread_none reader.Fresh f is h = is
unread_none reader.Reading f is h = h
unread_none reader.Asking f is h = h
unread_none reader.Unjudged f is h = h
unread_none reader.Short f is h = h
unread_none reader.Wrong f is h = h

leaves_none : {T : Type 0} (r : Reader T) (k : Keeper T) (f : T) → HasEnd r (end.Found f) → Leaves r k → ⊥
leaves_none (reader.Holding g b) k f is h = is
leaves_none (reader.Found g b won) k f is h = elim h [ inl x ↦ x | inr y ↦ elim y [ inl x ↦ x.0 | inr x ↦ x.0 ] ]
leaves_none (reader.Unknown b) k f is h = absurd cc
leaves_none (reader.Bad number at b) k f is h = absurd cc
leaves_none reader.Failed k f is h = absurd cc
leaves_none reader.Fresh k f is h = is
leaves_none reader.Reading k f is h = is
leaves_none reader.Asking k f is h = is
leaves_none reader.Unjudged k f is h = is
leaves_none reader.Short k f is h = is
leaves_none reader.Wrong k f is h = is

-- a job whose reader found something ends so
found_end : {T : Type 0} (a : Terms T) (known : T → Type 0) (r : Reader T) (k : Keeper T) (e : JobEnd T) (f : T) → HasEnd r (end.Found f) → EndIs a known r k e → e ≡ end.Found f
found_end a known r k (end.Found g) f is h = one_end r (end.Found g) f h is
found_end a known r k end.Unknown f is h = one_end r end.Unknown f h.0 is
found_end a known r k (end.Bad number at) f is h = one_end r (end.Bad number at) f h.0 is
found_end a known r k end.ReadFailed f is h = one_end r end.ReadFailed f h is
found_end a known r k (end.Stopped t) f is h = absurd (leaves_none r k f is h.0)
found_end a known r k (end.CalledOff g) f is h = absurd (leaves_none r k f is h.0)
found_end a known r k (end.Skipped g) f is h = absurd (unread_none r f is h.0)
found_end a known r k end.HoldFailed f is h = absurd (leaves_none r k f is h.0)
found_end a known r k end.StartFailed f is h = absurd (unread_none r f is h.0)
found_end a known r k end.Memory f is h = absurd (leaves_none r k f is h.0)
found_end a known r k end.NotServed f is h = absurd h

passed_end : {T : Type 0} (a : Terms T) (known : T → Type 0) (r : Reader T) (k : Keeper T) (e : JobEnd T) (f : T) → HasEnd r (end.Found f) → UnservedEndIs a known r k e → e ≡ end.Found f
passed_end a known r k end.NotServed f is h = absurd (unread_none r f is h.0)
passed_end a known r k (end.Skipped g) f is h = absurd (unread_none r f is h.0)
passed_end a known r k end.Memory f is h = absurd (leaves_none r k f is h.0)
passed_end a known r k (end.Found g) f is h = absurd h
passed_end a known r k end.Unknown f is h = absurd h
passed_end a known r k (end.Bad number at) f is h = absurd h
passed_end a known r k end.ReadFailed f is h = absurd h
passed_end a known r k (end.Stopped t) f is h = absurd h
passed_end a known r k (end.CalledOff g) f is h = absurd h
passed_end a known r k end.HoldFailed f is h = absurd h
passed_end a known r k end.StartFailed f is h = absurd h

-- a list has the looks that it shows
look_stands : {T : Type 0} (c : ℕ) (f : T) (es : List (LaneEvent T)) → Looked c f es → Contains es (event.Look c (Some f))
look_stands c f [] h = absurd h
look_stands {T} c f (event.Look d known ∷ es) (inl h) = (0, omega arith, subst (λ (o : Option T). event.Look d o ≡ event.Look c (Some f)) (sym h.1) (ap (λ n. event.Look n (Some f)) h.0))
look_stands c f (event.Look d known ∷ es) (inr h) = let x = look_stands c f es h in (suc x.0, omega (x.1, arith), x.2)
look_stands c f ((event.Read n p) ∷ es) h = let x = look_stands c f es h in (suc x.0, omega (x.1, arith), x.2)
look_stands c f ((event.File n p) ∷ es) h = let x = look_stands c f es h in (suc x.0, omega (x.1, arith), x.2)
look_stands c f ((event.Settle won) ∷ es) h = let x = look_stands c f es h in (suc x.0, omega (x.1, arith), x.2)
look_stands c f (event.ReaderMemory ∷ es) h = let x = look_stands c f es h in (suc x.0, omega (x.1, arith), x.2)
look_stands c f ((event.Turns n) ∷ es) h = let x = look_stands c f es h in (suc x.0, omega (x.1, arith), x.2)
look_stands c f ((event.Poll p) ∷ es) h = let x = look_stands c f es h in (suc x.0, omega (x.1, arith), x.2)
look_stands c f ((event.Clock r) ∷ es) h = let x = look_stands c f es h in (suc x.0, omega (x.1, arith), x.2)
look_stands c f (event.Kill ∷ es) h = let x = look_stands c f es h in (suc x.0, omega (x.1, arith), x.2)
look_stands c f (event.KeeperMemory ∷ es) h = let x = look_stands c f es h in (suc x.0, omega (x.1, arith), x.2)
look_stands c f (event.Took ∷ es) h = let x = look_stands c f es h in (suc x.0, omega (x.1, arith), x.2)
look_stands c f (event.Start ∷ es) h = let x = look_stands c f es h in (suc x.0, omega (x.1, arith), x.2)
look_stands c f (event.Finish ∷ es) h = let x = look_stands c f es h in (suc x.0, omega (x.1, arith), x.2)
look_stands c f (event.Gave ∷ es) h = let x = look_stands c f es h in (suc x.0, omega (x.1, arith), x.2)

look_shows : {T : Type 0} (c : ℕ) (f : T) (es : List (LaneEvent T)) (k : ℕ) → k < length es → get_or es k (event.Look c (Some f)) ≡ event.Look c (Some f) → Looked c f es
look_shows c f [] k lt is = absurd (omega (lt, arith))
look_shows {T} c f (event.Look d known ∷ es) zero lt is = inl (cell is, value is)
  where
    cell : ◌≡◌ {A = LaneEvent T} (event.Look d known) (event.Look c (Some f)) → d ≡ c
    cell is = cc

    value : ◌≡◌ {A = LaneEvent T} (event.Look d known) (event.Look c (Some f)) → known ≡ Some f
    value is = cc
look_shows c f (event.Look d known ∷ es) (suc k) lt is = inr (look_shows c f es k (omega (lt, arith)) is)
look_shows c f ((event.Read n p) ∷ es) zero lt is = absurd cc
look_shows c f ((event.Read n p) ∷ es) (suc k) lt is = look_shows c f es k (omega (lt, arith)) is
look_shows c f ((event.File n p) ∷ es) zero lt is = absurd cc
look_shows c f ((event.File n p) ∷ es) (suc k) lt is = look_shows c f es k (omega (lt, arith)) is
look_shows c f ((event.Settle won) ∷ es) zero lt is = absurd cc
look_shows c f ((event.Settle won) ∷ es) (suc k) lt is = look_shows c f es k (omega (lt, arith)) is
look_shows c f (event.ReaderMemory ∷ es) zero lt is = absurd cc
look_shows c f (event.ReaderMemory ∷ es) (suc k) lt is = look_shows c f es k (omega (lt, arith)) is
look_shows c f ((event.Turns n) ∷ es) zero lt is = absurd cc
look_shows c f ((event.Turns n) ∷ es) (suc k) lt is = look_shows c f es k (omega (lt, arith)) is
look_shows c f ((event.Poll p) ∷ es) zero lt is = absurd cc
look_shows c f ((event.Poll p) ∷ es) (suc k) lt is = look_shows c f es k (omega (lt, arith)) is
look_shows c f ((event.Clock r) ∷ es) zero lt is = absurd cc
look_shows c f ((event.Clock r) ∷ es) (suc k) lt is = look_shows c f es k (omega (lt, arith)) is
look_shows c f (event.Kill ∷ es) zero lt is = absurd cc
look_shows c f (event.Kill ∷ es) (suc k) lt is = look_shows c f es k (omega (lt, arith)) is
look_shows c f (event.KeeperMemory ∷ es) zero lt is = absurd cc
look_shows c f (event.KeeperMemory ∷ es) (suc k) lt is = look_shows c f es k (omega (lt, arith)) is
look_shows c f (event.Took ∷ es) zero lt is = absurd cc
look_shows c f (event.Took ∷ es) (suc k) lt is = look_shows c f es k (omega (lt, arith)) is
look_shows c f (event.Start ∷ es) zero lt is = absurd cc
look_shows c f (event.Start ∷ es) (suc k) lt is = look_shows c f es k (omega (lt, arith)) is
look_shows c f (event.Finish ∷ es) zero lt is = absurd cc
look_shows c f (event.Finish ∷ es) (suc k) lt is = look_shows c f es k (omega (lt, arith)) is
look_shows c f (event.Gave ∷ es) zero lt is = absurd cc
look_shows c f (event.Gave ∷ es) (suc k) lt is = look_shows c f es k (omega (lt, arith)) is

-- more is known: by the notes, and by the lane's jobs the same
pub done_more : {T : Type 0} (For : ℕ → T → Type 0) (serves : Type 0) (a : Terms T) (K K' : T → Type 0) (may_read : ℕ → Type 0) (place : ℕ) (notes notes' : List (NoteOf T))
    (es : EventsOf T) (e : JobEnd T) → ((f : T) → K f → K' f) → ((f : T) → K' f → K f) → Remember notes notes'
    → JobDone For serves a K may_read place notes es e → JobDone For serves a K' may_read place notes' es e
done_more {T} For serves a K K' may_read place notes notes' es e there back remember d = record {
  right_reader = d.right_reader;
  right_keeper = d.right_keeper;
  away = d.away;
  replayed = replayed_same serves a K K' es e there back d.replayed;
  carried = d.carried;
  won = won_more (reader_of es) d.won;
  looks = λ c f seen. let l = d.looks c f seen in (l.0, remember.knows c f l.1);
  readings = d.readings;
}
  where
    won_more : (r : Reader T) → IfWon r (λ f. For place f × (known_at notes place ≡ Some f)) → IfWon r (λ f. For place f × (known_at notes' place ≡ Some f))
    won_more (reader.Found f b true) h = (h.0, remember.knows place f h.1)
    won_more (reader.Found f b false) h = tt
    won_more (reader.Holding f b) h = tt
    won_more (reader.Unknown b) h = tt
    won_more (reader.Bad number at b) h = tt
    won_more reader.Failed h = tt
    won_more reader.Asking h = tt
    won_more reader.Short h = tt
    won_more reader.Fresh h = tt
    won_more reader.Reading h = tt
    won_more reader.Unjudged h = tt
    won_more reader.Wrong h = tt

knew_same : {T : Type 0} (events events' : ℕ → EventsOf T) (j : ℕ) → ((l : ℕ) → l < j → events' l ≡ events l) → (f : T) → KnewBy events j f → KnewBy events' j f
knew_same {T} events events' j same f (l, lt, x) = (l, lt, subst (λ (es : EventsOf T). HasEnd (reader_of es) (end.Found f) ⊎ ((c : ℕ) × Looked c f es.keeper)) (sym (same l lt)) x)

module _ {T : Type 0} (For : ℕ → T → Type 0) (serves : ℕ → Type 0) (terms : ℕ → Terms T) (may_read : ℕ → Type 0) (n : ℕ) (notes : List (NoteOf T)) (r : ReportOf T)
    (lane : LaneSoFar For serves terms may_read n notes r) where
  -- a reader that found something has that end
  own_end : (l : ℕ) (f : T) → l < n → HasEnd (reader_of (events_at r l)) (end.Found f) → end_at r l ≡ end.Found f
  own_end l f lt is = elim (lane.each l lt) [
    | inl d ↦ elim d.1.replayed [
      | inl s ↦ found_end (terms l) (KnewBy (events_at r) l) (reader_of (events_at r l)) (keeper_of (terms l) (events_at r l)) (end_at r l) f is s.1
      | inr s ↦ passed_end (terms l) (KnewBy (events_at r) l) (reader_of (events_at r l)) (keeper_of (terms l) (events_at r l)) (end_at r l) f is s.1
    ]
    | inr late ↦ absurd (subst (λ (es : EventsOf T). HasEnd (reader_of es) (end.Found f)) late.4 is)
  ]

  -- what the lane knows by its jobs so far
  pub knew_known : n ≤ r.jobs → (f : T) → KnewBy (events_at r) n f → KnownIn r f
  knew_known few f (l, lt, inl own) = inl (l, omega (lt, lane.ends, arith), sym (get_or_default r.ends l (end.Found f) end.NotServed (omega (lt, lane.ends, arith))) ∙ own_end l f lt own)
    where
      get_or_default : (xs : List (JobEnd T)) (i : ℕ) (d d' : JobEnd T) → i < length xs → get_or xs i d' ≡ get_or xs i d
      get_or_default [] i d d' h = absurd (omega (h, arith))
      get_or_default (x ∷ xs) zero d d' h = refl
      get_or_default (x ∷ xs) (suc i) d d' h = get_or_default xs i d d' (omega (h, arith))
  knew_known few f (l, lt, inr (c, seen)) = inr (events_at r l, (l, omega (lt, few, lane.events, arith), same r.events l (omega (lt, few, lane.events, arith))), (c, look_stands c f (events_at r l).keeper seen))
    where
      same : (xs : List (EventsOf T)) (i : ℕ) → i < length xs → get_or xs i (get_or xs i no_events) ≡ get_or xs i no_events
      same [] i h = absurd (omega (h, arith))
      same (x ∷ xs) zero h = refl
      same (x ∷ xs) (suc i) h = same xs i (omega (h, arith))

  late_end : (l : ℕ) (f : T) → CameLate r l → Carries (end_at r l) f → ⊥
  late_end l f late carries = none (end_at r late.0) late.2 (subst (λ (e : JobEnd T). Carries e f) late.3 carries)
    where
      none : (e : JobEnd T) → IsLast e → Carries e f → ⊥
      none (end.Stopped t) last c = c
      none end.Memory last c = c
      none (end.Found g) last c = last
      none end.Unknown last c = last
      none end.NotServed last c = last
      none (end.Bad number at) last c = last
      none end.ReadFailed last c = last
      none end.StartFailed last c = last
      none end.HoldFailed last c = last
      none (end.Skipped g) last c = last
      none (end.CalledOff g) last c = last

  found_read : (l : ℕ) (f : T) → l < n → end_at r l ≡ end.Found f → HasEnd (reader_of (events_at r l)) (end.Found f)
  found_read l f lt is = elim (lane.each l lt) [
    | inl d ↦ elim d.1.replayed [
      | inl s ↦ subst (λ (e : JobEnd T). EndIs (terms l) (KnewBy (events_at r) l) (reader_of (events_at r l)) (keeper_of (terms l) (events_at r l)) e) is s.1
      | inr s ↦ absurd (subst (λ (e : JobEnd T). UnservedEndIs (terms l) (KnewBy (events_at r) l) (reader_of (events_at r l)) (keeper_of (terms l) (events_at r l)) e) is s.1)
    ]
    | inr late ↦ absurd (late_end l f late (subst (λ (e : JobEnd T). Carries e f) (sym is) refl))
  ]

  below_or_not : (k : ℕ) → (k < n) ⊎ (n ≤ k)
  below_or_not k = grind arith

  pub known_knew : (f : T) → KnownIn r f → KnewBy (events_at r) n f
  known_knew f (inl (l, lt, is)) = (l, omega (lt, lane.ends, arith), inl (found_read l f (omega (lt, lane.ends, arith)) (same r.ends l lt ∙ is)))
    where
      same : (xs : List (JobEnd T)) (i : ℕ) → i < length xs → get_or xs i end.NotServed ≡ get_or xs i (end.Found f)
      same [] i h = absurd (omega (h, arith))
      same (x ∷ xs) zero h = refl
      same (x ∷ xs) (suc i) h = same xs i (omega (h, arith))
  known_knew f (inr (es, (k, lt, is), (c, (i, li, at)))) = elim (below_or_not k) [
    | inl less ↦ (k, less, inr (c, subst (λ (x : EventsOf T). Looked c f x.keeper) (sym here) (look_shows c f es.keeper i li at)))
    | inr more ↦ absurd (none (subst (λ (x : EventsOf T). Looked c f x.keeper) (sym here ∙ lane.left k more) (look_shows c f es.keeper i li at)))
  ]
    where
      same : (xs : List (EventsOf T)) (j : ℕ) → j < length xs → get_or xs j no_events ≡ get_or xs j es
      same [] j h = absurd (omega (h, arith))
      same (x ∷ xs) zero h = refl
      same (x ∷ xs) (suc j) h = same xs j (omega (h, arith))

      here : events_at r k ≡ es
      here = same r.events k lt ∙ is

      none : Looked c f [] → ⊥
      none h = h

  pub known_for : (f : T) → KnewBy (events_at r) n f → (k : ℕ) × For k f
  known_for f (l, lt, inl own) = elim (lane.each l lt) [
    | inl d ↦ d.1.carried f (subst (λ (e : JobEnd T). Carries e f) (sym (own_end l f lt own)) refl)
    | inr late ↦ absurd (subst (λ (es : EventsOf T). HasEnd (reader_of es) (end.Found f)) late.4 own)
  ]
  known_for f (l, lt, inr (c, seen)) = elim (lane.each l lt) [
    | inl d ↦ (c, (d.1.looks c f seen).0)
    | inr late ↦ absurd (subst (λ (es : EventsOf T). Looked c f es.keeper) late.4 seen)
  ]

  -- where the last end doesn't end the lane's work, none does
  pub none_last : ((l : ℕ) → l + 1 ≡ n → IsLast (end_at r l) → ⊥) → (l : ℕ) → l < n → IsLast (end_at r l) → ⊥
  none_last here l lt last = elim (at_end l lt) [
    | inl same ↦ here l same last
    | inr less ↦ let k = n - 1 in let kn : k < n = omega (lt, arith) in elim (lane.each k kn) [
      | inl d ↦ d.0 l (omega (less, arith)) last
      | inr late ↦ here k (omega (lt, arith)) (subst (λ (e : JobEnd T). IsLast e) (sym late.3) late.2)
    ]
  ]
    where
      at_end : (k : ℕ) → k < n → (k + 1 ≡ n) ⊎ (k < n - 1)
      at_end k kn = grind (arith, kn)

  -- one more job is done
  pub one_done : (notes' : List (NoteOf T)) (es : EventsOf T) (e : JobEnd T) → Remember notes notes' → n < r.jobs → ((l : ℕ) → l < n → IsLast (end_at r l) → ⊥)
      → JobDone For (serves n) (terms n) (KnewBy (events_at r) n) may_read n notes' es e
      → LaneSoFar For serves terms may_read (n + 1) notes' (record r { events = set r.events n es; ends = r.ends ++ e ∷ [] })
  one_done notes' es e remember few none done = record {
    ends = omega (length-append r.ends (e ∷ []), lane.ends, arith);
    events = length-set r.events n es ∙ lane.events;
    left = λ j more. let ne : j ≢ n = omega (more, arith) in other j ne ∙ lane.left j (omega (more, arith));
    each = λ j lt. elim (split j lt) [
      | inl less ↦ before j less (lane.each j less)
      | inr same ↦ inl (
        λ l lj last. none l (omega (lj, same, arith)) (subst (λ (x : JobEnd T). IsLast x) (ended l (omega (lj, same, arith))) last),
        subst (λ (k : ℕ). JobDone For (serves k) (terms k) (KnewBy (events_at now) k) may_read k notes' (events_at now k) (end_at now k)) (sym same) here,
      )
    ];
  }
    where
      now : ReportOf T
      now = record r { events = set r.events n es; ends = r.ends ++ e ∷ [] }

      other : (j : ℕ) → j ≢ n → events_at now j ≡ events_at r j
      other j ne = get_or-set_other r.events n j es no_events ne

      ended : (l : ℕ) → l < n → end_at now l ≡ end_at r l
      ended l lt = get_or_append_left r.ends (e ∷ []) end.NotServed l (omega (lt, lane.ends, arith))

      same_before : (j : ℕ) → j ≤ n → (l : ℕ) → l < j → events_at now l ≡ events_at r l
      same_before j le l lt = let ne : l ≢ n = omega (le, lt, arith) in other l ne

      split : (j : ℕ) → j < n + 1 → (j < n) ⊎ (j ≡ n)
      split j lt = grind (arith, lt)

      new_events : events_at now n ≡ es
      new_events = get_or-set_same r.events n es no_events (omega (few, lane.events, arith))

      new_end : end_at now n ≡ e
      new_end = subst (λ (k : ℕ). get_or (r.ends ++ e ∷ []) k end.NotServed ≡ e) (omega (lane.ends, arith)) (get_or-append-add r.ends (e ∷ []) 0 end.NotServed)

      here : JobDone For (serves n) (terms n) (KnewBy (events_at now) n) may_read n notes' (events_at now n) (end_at now n)
      here = subst (λ (x : EventsOf T). JobDone For (serves n) (terms n) (KnewBy (events_at now) n) may_read n notes' x (end_at now n)) (sym new_events)
          (subst (λ (x : JobEnd T). JobDone For (serves n) (terms n) (KnewBy (events_at now) n) may_read n notes' es x) (sym new_end)
          (done_more For (serves n) (terms n) (KnewBy (events_at r) n) (KnewBy (events_at now) n) may_read n notes' notes' es e
          (knew_same (events_at r) (events_at now) n (same_before n (omega arith)))
          (knew_same (events_at now) (events_at r) n (λ l lt. sym (same_before n (omega arith) l lt)))
          (record { cells = refl; knows = λ place f h. h }) done))

      before : (j : ℕ) → j < n
          → (((l : ℕ) → l < j → IsLast (end_at r l) → ⊥) × JobDone For (serves j) (terms j) (KnewBy (events_at r) j) may_read j notes (events_at r j) (end_at r j)) ⊎ CameLate r j
          → (((l : ℕ) → l < j → IsLast (end_at now l) → ⊥) × JobDone For (serves j) (terms j) (KnewBy (events_at now) j) may_read j notes' (events_at now j) (end_at now j)) ⊎ CameLate now j
      before j lt (inl (first, d)) = inl (
        λ l lj last. first l lj (subst (λ (x : JobEnd T). IsLast x) (ended l (omega (lj, lt, arith))) last),
        let ne : j ≢ n = omega (lt, arith) in
            subst (λ (x : EventsOf T). JobDone For (serves j) (terms j) (KnewBy (events_at now) j) may_read j notes' x (end_at now j)) (sym (other j ne))
            (subst (λ (x : JobEnd T). JobDone For (serves j) (terms j) (KnewBy (events_at now) j) may_read j notes' (events_at r j) x) (sym (ended j lt))
            (done_more For (serves j) (terms j) (KnewBy (events_at r) j) (KnewBy (events_at now) j) may_read j notes notes' (events_at r j) (end_at r j)
            (knew_same (events_at r) (events_at now) j (same_before j (omega (lt, arith))))
            (knew_same (events_at now) (events_at r) j (λ l lj. sym (same_before j (omega (lt, arith)) l lj)))
            remember d)),
      )
      before j lt (inr (l, lj, last, same, without)) =
          let ne : j ≢ n = omega (lt, arith) in
          let ln : l < n = omega (lj, lt, arith) in
          inr (l, lj, subst (λ (x : JobEnd T). IsLast x) (sym (ended l ln)) last, ended j lt ∙ (same ∙ sym (ended l ln)), other j ne ∙ without)

  -- one more job comes after one that ended the lane's work
  pub one_late : (l : ℕ) (e : JobEnd T) → l < n → IsLast (end_at r l) → e ≡ end_at r l
      → LaneSoFar For serves terms may_read (n + 1) notes (record r { ends = r.ends ++ e ∷ [] })
  one_late l e ln last is = record {
    ends = omega (length-append r.ends (e ∷ []), lane.ends, arith);
    events = lane.events;
    left = λ j more. lane.left j (omega (more, arith));
    each = λ j lt. elim (split j lt) [
      | inl less ↦ before j less (lane.each j less)
      | inr same ↦ inr (
        l,
        omega (ln, same, arith),
        subst (λ (x : JobEnd T). IsLast x) (sym (ended l ln)) last,
        subst (λ (k : ℕ). end_at now k ≡ end_at now l) (sym same) (new_end ∙ (is ∙ sym (ended l ln))),
        lane.left j (omega (same, arith)),
      )
    ];
  }
    where
      now : ReportOf T
      now = record r { ends = r.ends ++ e ∷ [] }

      ended : (l : ℕ) → l < n → end_at now l ≡ end_at r l
      ended l lt = get_or_append_left r.ends (e ∷ []) end.NotServed l (omega (lt, lane.ends, arith))

      split : (j : ℕ) → j < n + 1 → (j < n) ⊎ (j ≡ n)
      split j lt = grind (arith, lt)

      new_end : end_at now n ≡ e
      new_end = subst (λ (k : ℕ). get_or (r.ends ++ e ∷ []) k end.NotServed ≡ e) (omega (lane.ends, arith)) (get_or-append-add r.ends (e ∷ []) 0 end.NotServed)

      before : (j : ℕ) → j < n
          → (((l : ℕ) → l < j → IsLast (end_at r l) → ⊥) × JobDone For (serves j) (terms j) (KnewBy (events_at r) j) may_read j notes (events_at r j) (end_at r j)) ⊎ CameLate r j
          → (((l : ℕ) → l < j → IsLast (end_at now l) → ⊥) × JobDone For (serves j) (terms j) (KnewBy (events_at now) j) may_read j notes (events_at now j) (end_at now j)) ⊎ CameLate now j
      before j lt (inl (first, d)) = inl (
        λ l lj last. first l lj (subst (λ (x : JobEnd T). IsLast x) (ended l (omega (lj, lt, arith))) last),
        subst (λ (x : JobEnd T). JobDone For (serves j) (terms j) (KnewBy (events_at now) j) may_read j notes (events_at now j) x) (sym (ended j lt)) d,
      )
      before j lt (inr (k, kj, last, same, without)) =
          let kn : k < n = omega (kj, lt, arith) in
          inr (k, kj, subst (λ (x : JobEnd T). IsLast x) (sym (ended k kn)) last, ended j lt ∙ (same ∙ sym (ended k kn)), without)
