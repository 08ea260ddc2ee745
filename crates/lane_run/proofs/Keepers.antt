-- What a keeper does.
use Rattle.std.proofs.Common.{◌≡◌, ◌⊎◌, inl, inr, ℕ, zero, suc, ◌+◌, ◌<◌, ◌≤◌, List, [], ◌∷◌, length, map, Option, Some, None, IfSome, refl, sym, ap, subst, ◌∙◌, arith}
use Rattle.std.proofs.lemmas.List.{length-map}
use Rattle.race_cells.specs.Notes.{NoteOf, AreNotesOf, Agrees, Learns, known_at, learned}
use Rattle.race_core.specs.Carrying.{Looked}
use Rattle.race_core.specs.declared.event.LaneEvent.{LaneEvent}
use Rattle.race_core.specs.declared.event.LaneEvent.TheVariants as event
use Rattle.lane_run.specs.Keeping.{Adds, HasReading, IsPlain, IsReading, Keeps, Remember}

learned_cells : {T : Type 0} (place : ℕ) (value : T) (notes : List (NoteOf T)) → map (λ n. n.cell) (learned place value notes) ≡ map (λ n. n.cell) notes
learned_cells place value [] = refl
learned_cells zero value (n ∷ ns) = refl
learned_cells (suc place) value (n ∷ ns) = ap (λ l. n.cell ∷ l) (learned_cells place value ns)

learned_known : {T : Type 0} (place other : ℕ) (value f : T) (notes : List (NoteOf T)) → Agrees (known_at notes place) value
    → known_at notes other ≡ Some f → known_at (learned place value notes) other ≡ Some f
learned_known place other value f [] agrees is = is
learned_known {T} zero zero value f (n ∷ ns) agrees is = ap Some (sym (subst (λ (o : Option T). IfSome o (λ k. k ≡ value)) is agrees))
learned_known zero (suc other) value f (n ∷ ns) agrees is = is
learned_known (suc place) zero value f (n ∷ ns) agrees is = is
learned_known (suc place) (suc other) value f (n ∷ ns) agrees is = learned_known place other value f ns agrees is

-- notes that learn a value forget nothing
pub learns_remember : {T : Type 0} (place : ℕ) (value : T) (before now : List (NoteOf T)) → Learns place value before now → Remember before now
learns_remember {T} place value before now (is, agrees) = subst (λ (l : List (NoteOf T)). Remember before l) (sym is) (record {
  cells = learned_cells place value before;
  knows = λ other f known. learned_known place other value f before agrees known;
})

learned_at : {T : Type 0} (place : ℕ) (value : T) (notes : List (NoteOf T)) → place < length notes → known_at (learned place value notes) place ≡ Some value
learned_at zero value [] h = absurd (omega (h, arith))
learned_at (suc place) value [] h = absurd (omega (h, arith))
learned_at zero value (n ∷ ns) h = refl
learned_at (suc place) value (n ∷ ns) h = learned_at place value ns (omega (h, arith))

notes_length : {T : Type 0} (names : List ℕ) (notes : List (NoteOf T)) → AreNotesOf names notes → length notes ≡ length names
notes_length {T} names notes h = sym (length-map notes (λ (n : NoteOf T). n.cell)) ∙ ap (λ (l : List ℕ). length l) h

-- and know it
pub learns_known : {T : Type 0} (names : List ℕ) (place : ℕ) (value : T) (before now : List (NoteOf T)) → AreNotesOf names before → place < length names
    → Learns place value before now → known_at now place ≡ Some value
learns_known {T} names place value before now of h (is, agrees) =
    subst (λ (l : List (NoteOf T)). known_at l place ≡ Some value) (sym is) (learned_at place value before (omega (notes_length names before of, h, arith)))

-- nothing done
keeps_same : {T : Type 0} (of_cell : ℕ → T → Type 0) (may_read : ℕ → Type 0) (notes : List (NoteOf T)) (events : List (LaneEvent T)) → Keeps of_cell may_read notes notes events events
keeps_same of_cell may_read notes events = record { remember = record { cells = refl; knows = λ place f known. known }; looks = λ place f h. inl h; readings = λ r h. inl h; starts = λ h. h }

-- one thing after the other
pub keeps_then : {T : Type 0} (of_cell : ℕ → T → Type 0) (may_read : ℕ → Type 0) (n₁ n₂ n₃ : List (NoteOf T)) (e₁ e₂ e₃ : List (LaneEvent T))
    → Keeps of_cell may_read n₁ n₂ e₁ e₂ → Keeps of_cell may_read n₂ n₃ e₂ e₃ → Keeps of_cell may_read n₁ n₃ e₁ e₃
keeps_then {T} of_cell may_read n₁ n₂ n₃ e₁ e₂ e₃ h k = record {
  remember = record { cells = k.remember.cells ∙ h.remember.cells; knows = λ place f known. k.remember.knows place f (h.remember.knows place f known) };
  looks = λ place f seen. looks place f (k.looks place f seen);
  readings = λ r seen. readings r (k.readings r seen);
  starts = λ has. k.starts (h.starts has);
}
  where
    look : (place : ℕ) (f : T) → Looked place f e₁ ⊎ (of_cell place f × (known_at n₂ place ≡ Some f)) → Looked place f e₁ ⊎ (of_cell place f × (known_at n₃ place ≡ Some f))
    look place f (inl seen) = inl seen
    look place f (inr new) = inr (new.0, k.remember.knows place f new.1)

    looks : (place : ℕ) (f : T) → Looked place f e₂ ⊎ (of_cell place f × (known_at n₃ place ≡ Some f)) → Looked place f e₁ ⊎ (of_cell place f × (known_at n₃ place ≡ Some f))
    looks place f (inl seen) = look place f (h.looks place f seen)
    looks place f (inr new) = inr new

    readings : (r : ℕ) → HasReading r e₂ ⊎ may_read r → HasReading r e₁ ⊎ may_read r
    readings r (inl seen) = h.readings r seen
    readings r (inr may) = inr may

-- the notes alone learned something
pub keeps_remember : {T : Type 0} (of_cell : ℕ → T → Type 0) (may_read : ℕ → Type 0) (before now : List (NoteOf T)) (events : List (LaneEvent T)) → Remember before now
    → Keeps of_cell may_read before now events events
keeps_remember of_cell may_read before now events remember = record { remember = remember; looks = λ place f h. inl h; readings = λ r h. inl h; starts = λ h. h }

-- an entry that shows what the notes know, and whose reading the clock may give
keeps_adds : {T : Type 0} (of_cell : ℕ → T → Type 0) (may_read : ℕ → Type 0) (notes : List (NoteOf T)) (entry : LaneEvent T) (events events' : List (LaneEvent T))
    → Adds entry events events'
    → ((place : ℕ) (f : T) → Looked place f (entry ∷ []) → of_cell place f × (known_at notes place ≡ Some f))
    → ((r : ℕ) → IsReading r entry → may_read r)
    → Keeps of_cell may_read notes notes events events'
keeps_adds {T} of_cell may_read notes entry events events' adds shown may = record {
  remember = record { cells = refl; knows = λ place f known. known };
  looks = λ place f seen. look place f (adds.looks place f seen);
  readings = λ r seen. reading r (adds.readings r seen);
  starts = λ has. adds.starts (inl has);
}
  where
    look : (place : ℕ) (f : T) → Looked place f events ⊎ Looked place f (entry ∷ []) → Looked place f events ⊎ (of_cell place f × (known_at notes place ≡ Some f))
    look place f (inl seen) = inl seen
    look place f (inr new) = inr (shown place f new)

    reading : (r : ℕ) → HasReading r events ⊎ IsReading r entry → HasReading r events ⊎ may_read r
    reading r (inl seen) = inl seen
    reading r (inr new) = inr (may r new)

none_some : {T : Type 0} (f : T) (o : Option T) → o ≡ Some f → IfSome o (λ _. ⊥) → ⊥
none_some {T} f o is none = subst (λ (o : Option T). IfSome o (λ _. ⊥)) is none

plain_look : {T : Type 0} (e : LaneEvent T) (place : ℕ) (f : T) → IsPlain e → Looked place f (e ∷ []) → ⊥
plain_look (event.Read n p) place f h seen = seen
plain_look (event.File n p) place f h seen = seen
plain_look (event.Settle w) place f h seen = seen
plain_look event.ReaderMemory place f h seen = seen
plain_look (event.Turns n) place f h seen = seen
plain_look (event.Poll p) place f h seen = seen
plain_look event.Kill place f h seen = seen
plain_look event.KeeperMemory place f h seen = seen
plain_look event.Took place f h seen = seen
plain_look event.Start place f h seen = seen
plain_look event.Finish place f h seen = seen
plain_look event.Gave place f h seen = seen
plain_look (event.Clock t) place f h seen = seen
plain_look (event.Look c None) place f h (inl seen) = none_some f None seen.1 tt
plain_look (event.Look c None) place f h (inr seen) = seen
plain_look (event.Look c (Some g)) place f h seen = h

plain_reading : {T : Type 0} (e : LaneEvent T) (r : ℕ) → IsPlain e → IsReading r e → ⊥
plain_reading (event.Read n p) r h seen = seen
plain_reading (event.File n p) r h seen = seen
plain_reading (event.Settle w) r h seen = seen
plain_reading event.ReaderMemory r h seen = seen
plain_reading (event.Turns n) r h seen = seen
plain_reading (event.Poll p) r h seen = seen
plain_reading event.Kill r h seen = seen
plain_reading event.KeeperMemory r h seen = seen
plain_reading event.Took r h seen = seen
plain_reading event.Start r h seen = seen
plain_reading event.Finish r h seen = seen
plain_reading event.Gave r h seen = seen
plain_reading (event.Clock t) r h seen = h
plain_reading (event.Look c s) r h seen = seen

-- an entry that shows no finding and has no reading
pub keeps_plain : {T : Type 0} (of_cell : ℕ → T → Type 0) (may_read : ℕ → Type 0) (notes : List (NoteOf T)) (entry : LaneEvent T) (events events' : List (LaneEvent T))
    → IsPlain entry → Adds entry events events' → Keeps of_cell may_read notes notes events events'
keeps_plain of_cell may_read notes entry events events' plain adds =
    keeps_adds of_cell may_read notes entry events events' adds (λ place f seen. absurd (plain_look entry place f plain seen)) (λ r seen. absurd (plain_reading entry r plain seen))

-- a reading that the clock gave
pub keeps_reading : {T : Type 0} (of_cell : ℕ → T → Type 0) (may_read : ℕ → Type 0) (notes : List (NoteOf T)) (r : ℕ) (events events' : List (LaneEvent T))
    → may_read r → Adds (event.Clock r) events events' → Keeps of_cell may_read notes notes events events'
keeps_reading of_cell may_read notes r events events' may adds =
    keeps_adds of_cell may_read notes (event.Clock r) events events' adds (λ place f seen. absurd seen) (λ t is. subst may_read is may)

abbrev held : {T : Type 0} → T → Option T → T
held value None = value
held value (Some f) = f

-- a look that showed what the notes know
pub keeps_look : {T : Type 0} (of_cell : ℕ → T → Type 0) (may_read : ℕ → Type 0) (notes : List (NoteOf T)) (place : ℕ) (value : T) (events events' : List (LaneEvent T))
    → of_cell place value → known_at notes place ≡ Some value → Adds (event.Look place (Some value)) events events' → Keeps of_cell may_read notes notes events events'
keeps_look {T} of_cell may_read notes place value events events' of known adds =
    keeps_adds of_cell may_read notes (event.Look place (Some value)) events events' adds shown (λ r seen. absurd seen)
  where
    same : (f : T) → Some value ≡ Some f → value ≡ f
    same f is = ap (λ (o : Option T). held value o) is

    shown : (other : ℕ) (f : T) → Looked other f (event.Look place (Some value) ∷ []) → of_cell other f × (known_at notes other ≡ Some f)
    shown other f (inl seen) = subst (λ o. of_cell o f × (known_at notes o ≡ Some f)) seen.0 (subst (λ g. of_cell place g × (known_at notes place ≡ Some g)) (same f seen.1) (of, known))
    shown other f (inr seen) = absurd seen

-- where a keeper stands between two turns
pub record AtTurn (keeps notes turns place : Type 0) (reserved room : ℕ) (hold : Type 0) : Type 0 where
  pub so_far : keeps
  pub of : notes
  pub part : turns
  pub same_place : place
  pub some : reserved + 2 ≤ room
  pub held : hold
