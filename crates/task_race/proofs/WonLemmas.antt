-- A lane that won a job's cell has a finding for the job.
use Rattle.std.proofs.Common.{◌≡◌, ℕ, ◌<◌, ◌≤◌, ◌⊎◌, inl, inr, Bool, true, List, [], ◌∷◌, length, refl, sym, subst, ◌∙◌, arith}
use Rattle.std.specs.Prelude.{Some, Contains}
use Rattle.std.proofs.lemmas.List.{get_or_default}
use Rattle.race_cells.specs.Notes.{NoteOf, known_at}
use Rattle.race_core.specs.Carrying.{KnewBy}
use Rattle.race_core.specs.Collect.{HasFinding, HasWon}
use Rattle.race_core.specs.Consistent.{Replayed, end_at, events_at}
use Rattle.race_core.specs.Ends.{EndIs, Leaves, UnservedEndIs}
use Rattle.race_core.specs.Parts.{RightReader, Terms, after_settle, keeper_of, reader_after, reader_from, reader_of}
use Rattle.race_core.specs.Report.{EventsOf, ReportOf, no_events}
use Rattle.race_core.specs.declared.end.JobEnd.{JobEnd}
use Rattle.race_core.specs.declared.end.JobEnd.TheVariants as end
use Rattle.race_core.specs.declared.event.LaneEvent.{LaneEvent}
use Rattle.race_core.specs.declared.event.LaneEvent.TheVariants as event
use Rattle.race_core.specs.declared.part.By.{By}
use Rattle.race_core.specs.declared.part.Keeper.{Keeper}
use Rattle.race_core.specs.declared.part.Reader.{Reader}
use Rattle.race_core.specs.declared.part.Reader.TheVariants as reader
use Rattle.sby_terms.specs.declared.names.JobName.{JobName}
use Rattle.lane_run.specs.Reading.{IfWon}
use Rattle.lane_run.specs.Done.{JobDone, LaneSoFar}
use Rattle.task_race.proofs.PlaceLemmas.{first_or_later}

-- an event after a part that is Wrong, or has settled, is Wrong
wrong_after : {T : Type 0} (e : LaneEvent T) → reader_after e reader.Wrong ≡ reader.Wrong
wrong_after (event.Read n p) = refl
wrong_after e = refl

found_after : {T : Type 0} (f : T) (b : By) (won : Bool) (e : LaneEvent T) → reader_after e (reader.Found f b won) ≡ reader.Wrong
found_after f b won (event.Read n p) = refl
found_after f b won e = refl

wrong_stays : {T : Type 0} (es : List (LaneEvent T)) → RightReader (reader_from reader.Wrong es) → ⊥
wrong_stays [] right = right
wrong_stays {T} (e ∷ es) right = wrong_stays es (subst (λ (r : Reader T). RightReader (reader_from r es)) (wrong_after e) right)

-- the reader that settles last has won
settled_last : {T : Type 0} (f : T) (b : By) (es : List (LaneEvent T)) → RightReader (reader_from (reader.Found f b true) es) → reader_from (reader.Found f b true) es ≡ reader.Found f b true
settled_last f b [] right = refl
settled_last {T} f b (e ∷ es) right = absurd (wrong_stays es (subst (λ (r : Reader T). RightReader (reader_from r es)) (found_after f b true e) right))

by_settle : {T : Type 0} (r : Reader T) (es : List (LaneEvent T)) → RightReader (reader_from (after_settle true r) es)
    → (f : T) × (b : By) × (reader_from (after_settle true r) es ≡ reader.Found f b true)
by_settle (reader.Holding f b) es right = (f, b, settled_last f b es right)
by_settle reader.Fresh es right = absurd (wrong_stays es right)
by_settle reader.Reading es right = absurd (wrong_stays es right)
by_settle reader.Asking es right = absurd (wrong_stays es right)
by_settle reader.Unjudged es right = absurd (wrong_stays es right)
by_settle (reader.Found f b won) es right = absurd (wrong_stays es right)
by_settle (reader.Unknown b) es right = absurd (wrong_stays es right)
by_settle (reader.Bad number at b) es right = absurd (wrong_stays es right)
by_settle reader.Failed es right = absurd (wrong_stays es right)
by_settle reader.Short es right = absurd (wrong_stays es right)
by_settle reader.Wrong es right = absurd (wrong_stays es right)

-- a reader whose list has a settle that won, and in which every event may come, has won
pub has_settled : {T : Type 0} (r : Reader T) (es : List (LaneEvent T)) → RightReader (reader_from r es) → Contains es (event.Settle true)
    → (f : T) × (b : By) × (reader_from r es ≡ reader.Found f b true)
has_settled r [] right among = absurd (omega (among.1, arith))
has_settled {T} r (e ∷ es) right among = elim (first_or_later e (event.Settle true) es among) [
  | inl here ↦ subst (λ (x : LaneEvent T). (f : T) × (b : By) × (reader_from (reader_after x r) es ≡ reader.Found f b true)) (sym here)
      (by_settle r es (subst (λ (x : LaneEvent T). RightReader (reader_from (reader_after x r) es)) here right))
  | inr later ↦ has_settled (reader_after e r) es right later
]

-- a reader that has settled leaves its end to nobody
leaves_none : {T : Type 0} (f : T) (b : By) (won : Bool) (k : Keeper T) → Leaves (reader.Found f b won) k → ⊥
leaves_none f b won k (inl h) = h
leaves_none f b won k (inr (inl h)) = h.0
leaves_none f b won k (inr (inr h)) = h.0

found_end : {T : Type 0} (a : Terms T) (known : T → Type 0) (f : T) (b : By) (won : Bool) (k : Keeper T) (e : JobEnd T) → EndIs a known (reader.Found f b won) k e → e ≡ end.Found f
found_end a known f b won k (end.Found g) is = is
found_end a known f b won k end.Unknown is = is.0
found_end a known f b won k (end.Bad number at) is = is.0
found_end a known f b won k end.ReadFailed is = is
found_end a known f b won k (end.Stopped t) is = absurd (leaves_none f b won k is.0)
found_end a known f b won k (end.CalledOff g) is = absurd (leaves_none f b won k is.0)
found_end a known f b won k (end.Skipped g) is = absurd is.0
found_end a known f b won k end.HoldFailed is = absurd (leaves_none f b won k is.0)
found_end a known f b won k end.StartFailed is = absurd is.0
found_end a known f b won k end.Memory is = absurd (leaves_none f b won k is.0)
found_end a known f b won k end.NotServed is = absurd is

unserved_found : {T : Type 0} (a : Terms T) (known : T → Type 0) (f : T) (b : By) (won : Bool) (k : Keeper T) (e : JobEnd T) → UnservedEndIs a known (reader.Found f b won) k e → e ≡ end.Found f
unserved_found a known f b won k end.NotServed is = absurd is.0
unserved_found a known f b won k (end.Skipped g) is = absurd is.0
unserved_found a known f b won k end.Memory is = absurd (leaves_none f b won k is.0)
unserved_found a known f b won k (end.Found g) is = absurd is
unserved_found a known f b won k end.Unknown is = absurd is
unserved_found a known f b won k (end.Bad number at) is = absurd is
unserved_found a known f b won k end.ReadFailed is = absurd is
unserved_found a known f b won k end.StartFailed is = absurd is
unserved_found a known f b won k end.HoldFailed is = absurd is
unserved_found a known f b won k (end.CalledOff g) is = absurd is
unserved_found a known f b won k (end.Stopped t) is = absurd is

-- so the job ends with what it found
replayed_found : {T : Type 0} (serves : Type 0) (a : Terms T) (known : T → Type 0) (es : EventsOf T) (e : JobEnd T) (f : T) (b : By) (won : Bool) → reader_of es ≡ reader.Found f b won
    → Replayed serves a known es e → e ≡ end.Found f
replayed_found {T} serves a known es e f b won is (inl h) = found_end a known f b won (keeper_of a es) e (subst (λ (r : Reader T). EndIs a known r (keeper_of a es) e) is h.1)
replayed_found {T} serves a known es e f b won is (inr h) = unserved_found a known f b won (keeper_of a es) e (subst (λ (r : Reader T). UnservedEndIs a known r (keeper_of a es) e) is h.1)

no_win : {T : Type 0} (r : ReportOf T) (place : ℕ) → events_at r place ≡ no_events → HasWon r place → ⊥
no_win {T} r place none won =
    let here : Contains (no_events {T = T}).reader (event.Settle true) = subst (λ (es : EventsOf T). Contains es.reader (event.Settle true)) none won in
    omega (here.1, arith)

split : (place n : ℕ) → (place < n) ⊎ (n ≤ place)
split place n = grind arith

module _ {T : Type 0} (job : T → JobName) (name : ℕ → JobName) (For : ℕ → T → Type 0) (of_job : (k : ℕ) (f : T) → For k f → job f ≡ name k)
    (serves : ℕ → Type 0) (terms : ℕ → Terms T) (may_read : ℕ → Type 0) (n : ℕ) (notes : List (NoteOf T)) (r : ReportOf T)
    (lane : LaneSoFar For serves terms may_read n notes r) where
  -- the finding that a job which was done ends with
  done_finds : (place : ℕ) (known : T → Type 0) → place < n → JobDone For (serves place) (terms place) known may_read place notes (events_at r place) (end_at r place) → HasWon r place
      → HasFinding job (name place) r
  done_finds place known lt done won =
      let settled = has_settled reader.Fresh (events_at r place).reader done.right_reader won in
      let f = settled.0 in
      let found : end_at r place ≡ end.Found f = replayed_found (serves place) (terms place) known (events_at r place) (end_at r place) f settled.1 true settled.2 done.replayed in
      let own = subst (λ (x : Reader T). IfWon x (λ f. For place f × (known_at notes place ≡ Some f))) settled.2 done.won in
      let within : place < length r.ends = omega (lt, lane.ends, arith) in
      (f, (end.Found f, (place, within, get_or_default r.ends place (end.Found f) end.NotServed within ∙ found), refl), of_job place f own.0)

  pub winner_finds : (place : ℕ) → HasWon r place → HasFinding job (name place) r
  winner_finds place won = elim (split place n) [
    | inl lt ↦ elim (lane.each place lt) [
      | inl d ↦ done_finds place (KnewBy (events_at r) place) lt d.1 won
      | inr late ↦ absurd (no_win r place late.4 won)
    ]
    | inr le ↦ absurd (no_win r place (lane.left place le) won)
  ]
