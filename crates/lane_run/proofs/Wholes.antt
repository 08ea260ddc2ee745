-- A lane at its start and at its end.
use Rattle.std.proofs.Common.{◌≡◌, ◌⊎◌, inl, inr, ℕ, zero, suc, ◌<◌, ◌≤◌, List, [], ◌∷◌, length, get_or, replicate, Some, true, refl, sym, ap, subst, ◌∙◌, arith}
use Rattle.std.specs.Prelude.{slice_get}
use Rattle.std.proofs.lemmas.Option.{slice_get-get_or}
use Rattle.race_cells.specs.Notes.{NoteOf, known_at}
use Rattle.race_core.specs.Carrying.{Carries, Looked}
use Rattle.race_core.specs.Consistent.{Replays, Tells, end_at, events_at}
use Rattle.race_core.specs.Ends.{IsLast}
use Rattle.race_core.specs.Parts.{RightKeeper, RightReader, Terms, keeper_of, place_of, reader_of}
use Rattle.race_core.specs.Report.{EventsOf, ReportOf, no_events}
use Rattle.race_core.specs.declared.end.JobEnd.{JobEnd}
use Rattle.race_core.specs.declared.end.JobEnd.TheVariants as end
use Rattle.race_core.specs.declared.event.LaneEvent.TheVariants as event
use Rattle.race_core.specs.declared.part.By.{By}
use Rattle.race_core.specs.declared.part.Place.TheVariants.{Away}
use Rattle.race_core.specs.declared.part.Reader.{Reader}
use Rattle.race_core.specs.declared.part.Reader.TheVariants as reader
use Rattle.lane_run.specs.Reading.{IfWon}
use Rattle.lane_run.specs.Done.{JobDone, LaneSoFar}

none_at : {T : Type 0} (n j : ℕ) → get_or (replicate n (no_events {T = T})) j no_events ≡ no_events
none_at zero j = refl
none_at (suc n) zero = refl
none_at (suc n) (suc j) = none_at n j

none_length : (T : Type 0) (n : ℕ) → length (replicate n (no_events {T = T})) ≡ n
none_length T zero = refl
none_length T (suc n) = ap suc (none_length T n)

-- a lane that has done nothing
pub lane_fresh : {T : Type 0} (For : ℕ → T → Type 0) (serves : ℕ → Type 0) (terms : ℕ → Terms T) (may_read : ℕ → Type 0) (notes : List (NoteOf T)) (r : ReportOf T)
    → r.ends ≡ [] → r.events ≡ replicate r.jobs no_events → LaneSoFar For serves terms may_read 0 notes r
lane_fresh {T} For serves terms may_read notes r ends events = record {
  ends = ap (λ (l : List (JobEnd T)). length l) ends;
  events = ap (λ (l : List (EventsOf T)). length l) events ∙ none_length T r.jobs;
  left = λ j more. ap (λ (l : List (EventsOf T)). get_or l j no_events) events ∙ none_at r.jobs j;
  each = λ j lt. absurd (omega (lt, arith));
}

-- memory ran out before anything was asked
pub want_done : {T : Type 0} (For : ℕ → T → Type 0) (serves : Type 0) (a : Terms T) (known : T → Type 0) (may_read : ℕ → Type 0) (place : ℕ) (notes : List (NoteOf T))
    → serves ⊎ (serves → ⊥)
    → JobDone For serves a known may_read place notes (record { reader = []; keeper = event.KeeperMemory ∷ [] }) end.Memory
want_done For serves a known may_read place notes decided = record {
  right_reader = tt;
  right_keeper = tt;
  away = refl;
  replayed = elim decided [ inl served ↦ inl (served, (inr (inr (tt, λ x. x)), inl refl)) | inr passed ↦ inr (passed, (inr (inr (tt, λ x. x)), inl refl)) ];
  carried = λ f is. absurd is;
  won = tt;
  looks = λ c f seen. absurd seen;
  readings = λ r seen. elim seen [ inl x ↦ absurd x | inr x ↦ absurd x ];
}

module _ {T : Type 0} (For : ℕ → T → Type 0) (serves : ℕ → Type 0) (terms : ℕ → Terms T) (may_read : ℕ → Type 0) (n : ℕ) (notes : List (NoteOf T)) (r : ReportOf T)
    (lane : LaneSoFar For serves terms may_read n notes r) where
  -- the next job has no events yet
  pub next_fresh : n < r.jobs → slice_get r.events n ≡ Some no_events
  next_fresh lt = slice_get-get_or r.events n no_events (omega (lt, lane.events, arith)) ∙ ap Some (lane.left n (omega arith))

  -- all is done
  pub lane_replays : r.jobs ≡ n → Replays serves terms n r
  lane_replays all = record {
    ends = lane.ends;
    events = lane.events ∙ all;
    right_reader = λ j lt. elim (lane.each j lt) [ inl d ↦ d.1.right_reader | inr late ↦ subst (λ (es : EventsOf T). RightReader (reader_of es)) (sym late.4) tt ];
    right_keeper = λ j lt. elim (lane.each j lt) [ inl d ↦ d.1.right_keeper | inr late ↦ subst (λ (es : EventsOf T). RightKeeper (keeper_of (terms j) es)) (sym late.4) tt ];
    place = λ j lt. elim (lane.each j lt) [ inl d ↦ d.1.away | inr late ↦ subst (λ (es : EventsOf T). place_of es ≡ Away) (sym late.4) refl ];
    each = λ j lt. elim (lane.each j lt) [ inl d ↦ inl (d.0, d.1.replayed) | inr late ↦ inr late ];
  }

  split : (j : ℕ) → (j < n) ⊎ (n ≤ j)
  split j = grind arith

  fresh_won : (c : ℕ) (f : T) (b : By) → events_at r c ≡ no_events → reader_of (events_at r c) ≡ reader.Found f b true → ⊥
  fresh_won c f b none is = no (sym (ap (λ (es : EventsOf T). reader_of es) none) ∙ is)
    where
      no : ◌≡◌ {A = Reader T} reader.Fresh (reader.Found f b true) → ⊥
      no h = absurd cc

  -- what it tells of a cell is a finding for that job, and known to the notes
  pub lane_tells : (c : ℕ) (f : T) → Tells r c f → For c f × (known_at notes c ≡ Some f)
  lane_tells c f (inl (b, is)) = elim (split c) [
    | inl lt ↦ elim (lane.each c lt) [
      | inl d ↦ subst (λ (x : Reader T). IfWon x (λ f. For c f × (known_at notes c ≡ Some f))) is d.1.won
      | inr late ↦ absurd (fresh_won c f b late.4 is)
    ]
    | inr le ↦ absurd (fresh_won c f b (lane.left c le) is)
  ]
  lane_tells c f (inr (j, seen)) = elim (split j) [
    | inl lt ↦ elim (lane.each j lt) [
      | inl d ↦ d.1.looks c f seen
      | inr late ↦ absurd (subst (λ (es : EventsOf T). Looked c f es.keeper) late.4 seen)
    ]
    | inr le ↦ absurd (subst (λ (es : EventsOf T). Looked c f es.keeper) (lane.left j le) seen)
  ]

  none_carried : (e : JobEnd T) (f : T) → IsLast e → Carries e f → ⊥
  none_carried (end.Stopped t) f last c = c
  none_carried end.Memory f last c = c
  none_carried (end.Found g) f last c = last
  none_carried end.Unknown f last c = last
  none_carried end.NotServed f last c = last
  none_carried (end.Bad number at) f last c = last
  none_carried end.ReadFailed f last c = last
  none_carried end.StartFailed f last c = last
  none_carried end.HoldFailed f last c = last
  none_carried (end.Skipped g) f last c = last
  none_carried (end.CalledOff g) f last c = last

  -- each finding carried is one for a job
  pub lane_carried : (j : ℕ) (f : T) → j < n → Carries (end_at r j) f → (k : ℕ) × For k f
  lane_carried j f lt is = elim (lane.each j lt) [
    | inl d ↦ d.1.carried f is
    | inr late ↦ absurd (none_carried (end_at r late.0) f late.2 (subst (λ (e : JobEnd T). Carries e f) late.3 is))
  ]
