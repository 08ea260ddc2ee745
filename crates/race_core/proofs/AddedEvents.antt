-- Adding an event to a list whose last entry is known.
use Rattle.std.proofs.Common.{◌≡◌, List, [], ◌∷◌, ◌++◌, refl, ap}
use Rattle.race_core.specs.Sharing.{entries, shared, with_event}
use Rattle.race_core.specs.declared.event.LaneEvent.{LaneEvent}

-- the event goes to the last entry, and leaves those before it
pub with_event_last : {T : Type 0} (front : List (LaneEvent T)) (last event : LaneEvent T) → with_event event (front ++ last ∷ []) ≡ front ++ entries last event (shared last event)
with_event_last [] last event = refl
with_event_last (e ∷ []) last event = refl
with_event_last (e ∷ d ∷ front) last event = ap (λ rest. e ∷ rest) (with_event_last (d ∷ front) last event)
