-- What the lanes of a race leave.
use Rattle.std.proofs.Common.{◌≡◌, inl, inr, ℕ, zero, suc, ◌<◌, All, List, [], ◌∷◌, length, map, Some, refl, ap, subst, ◌∙◌, arith}
use Rattle.std.specs.Prelude.{slice_get, slice_index_or}
use Rattle.race_cells.specs.Notes.{NoteOf}
use Rattle.race_core.specs.Carrying.{KnewBy}
use Rattle.race_core.specs.Consistent.{end_at, events_at}
use Rattle.race_core.specs.Parts.{Terms}
use Rattle.race_core.specs.Report.{ReportOf}
use Rattle.lane_run.specs.Keeping.{Remember}
use Rattle.lane_run.specs.Done.{LaneSoFar}
use Rattle.lane_run.specs.Raced.{HasDone, LanesDone}
use Rattle.lane_run.proofs.Lanes.{done_more}

-- notes that know more know what the lane's events say
lane_more : {T : Type 0} (For : ℕ → T → Type 0) (serves : ℕ → Type 0) (terms : ℕ → Terms T) (may_read : ℕ → Type 0) (n : ℕ) (notes notes' : List (NoteOf T)) (r : ReportOf T)
    → Remember notes notes' → LaneSoFar For serves terms may_read n notes r → LaneSoFar For serves terms may_read n notes' r
lane_more For serves terms may_read n notes notes' r remember lane = record {
  ends = lane.ends;
  events = lane.events;
  left = lane.left;
  each = λ j lt. elim (lane.each j lt) [
    | inl d ↦ inl (d.0, done_more For (serves j) (terms j) (KnewBy (events_at r) j) (KnewBy (events_at r) j) may_read j notes notes' (events_at r j) (end_at r j) (λ f h. h) (λ f h. h) remember d.1)
    | inr late ↦ inr late
  ];
}

-- what stands at a place of what is made of a list's elements
pub picked : {X Y : Type 0} (f : X → Y) (xs : List X) (i : ℕ) (y : Y) → slice_get (map f xs) i ≡ Some y → (x : X) × (i < length xs) × ((d : X) → slice_index_or xs i d ≡ x) × (f x ≡ y)
picked f [] i y h = absurd cc
picked {X} {Y} f (x ∷ xs) zero y h = (x, omega arith, (λ d. refl), cc)
picked f (x ∷ xs) (suc i) y h = let p = picked f xs i y h in (p.0, omega (p.1, arith), p.2, p.3)

module _ {X T : Type 0} (report : X → ReportOf T) (notes_of : X → List (NoteOf T)) (For : ℕ → T → Type 0) (serves : ℕ → ℕ → Type 0) (terms : ℕ → Terms T) (may_read : ℕ → Type 0)
    (cells : List ℕ) (notes : List (NoteOf T)) (lanes : List X) (done : All (λ x. HasDone For serves terms may_read cells (report x) (notes_of x)) lanes)
    (places : (i : ℕ) (d : X) → i < length lanes → (report (slice_index_or lanes i d)).lane ≡ i) (remember : All (λ x. Remember (notes_of x) notes) lanes) where
  pub lanes_gathered : LanesDone For serves terms may_read (length cells) notes (map report lanes)
  lanes_gathered = record {
    places = λ i r at. (place_at i r at, jobs_at i r at);
    each = λ i r at. each_at i r at;
  }
    where
      place_of : (i : ℕ) (x : X) → i < length lanes → slice_index_or lanes i x ≡ x → (report x).lane ≡ i
      place_of i x lt is = subst (λ (y : X). (report y).lane ≡ i) is (places i x lt)

      place_at : (i : ℕ) (r : ReportOf T) → slice_get (map report lanes) i ≡ Some r → r.lane ≡ i
      place_at i r at = let p = picked report lanes i r at in subst (λ (q : ReportOf T). q.lane ≡ i) p.3 (place_of i p.0 p.1 (p.2 p.0))

      done_at : (i : ℕ) (x : X) → i < length lanes → slice_index_or lanes i x ≡ x → HasDone For serves terms may_read cells (report x) (notes_of x)
      done_at i x lt is = subst (λ (y : X). HasDone For serves terms may_read cells (report y) (notes_of y)) is (done i x lt)

      jobs_at : (i : ℕ) (r : ReportOf T) → slice_get (map report lanes) i ≡ Some r → r.jobs ≡ length cells
      jobs_at i r at = let p = picked report lanes i r at in subst (λ (q : ReportOf T). q.jobs ≡ length cells) p.3 (done_at i p.0 p.1 (p.2 p.0)).1

      each_of : (i : ℕ) (x : X) → i < length lanes → slice_index_or lanes i x ≡ x → LaneSoFar For (serves i) terms may_read (length cells) notes (report x)
      each_of i x lt is =
          lane_more For (serves i) terms may_read (length cells) (notes_of x) notes (report x) (subst (λ (y : X). Remember (notes_of y) notes) is (remember i x lt))
          (subst (λ (l : ℕ). LaneSoFar For (serves l) terms may_read (length cells) (notes_of x) (report x)) (place_of i x lt is) (done_at i x lt is).0)

      each_at : (i : ℕ) (r : ReportOf T) → slice_get (map report lanes) i ≡ Some r → LaneSoFar For (serves i) terms may_read (length cells) notes r
      each_at i r at = let p = picked report lanes i r at in
          subst (λ (q : ReportOf T). LaneSoFar For (serves i) terms may_read (length cells) notes q) p.3 (each_of i p.0 p.1 (p.2 p.0))

-- what holds of the lanes at each place, before and after, holds of what they leave there
pub related : {X B R : Type 0} (bay : X → B) (report : X → R) (Rel : B → B → R → Type 0) (was now : List X) (i : ℕ) (b d : B) (q : R)
    → slice_get (map bay was) i ≡ Some b → slice_get (map bay now) i ≡ Some d → slice_get (map report now) i ≡ Some q
    → ((x : X) → i < length was → Rel (bay (slice_index_or was i x)) (bay (slice_index_or now i x)) (report (slice_index_or now i x))) → Rel b d q
related {X} {B} {R} bay report Rel was now i b d q before after told h =
    let x = picked bay was i b before in
    let y = picked bay now i d after in
    let z = picked report now i q told in
    subst (λ (k : B). Rel k d q) (ap bay (x.2 x.0) ∙ x.3)
    (subst (λ (k : B). Rel (bay (slice_index_or was i x.0)) k q) (ap bay (y.2 x.0) ∙ y.3)
    (subst (λ (r : R). Rel (bay (slice_index_or was i x.0)) (bay (slice_index_or now i x.0)) r) (ap report (z.2 x.0) ∙ z.3) (h x.0 x.1)))
