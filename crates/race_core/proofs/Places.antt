-- The states of a place after its events.
use Rattle.std.proofs.Common.{◌≡◌, List, [], ◌∷◌, ◌++◌, refl, sym, ap, ◌∙◌}
use Rattle.race_core.specs.Parts.{place_after, place_from}
use Rattle.race_core.specs.declared.event.LaneEvent.{LaneEvent}
use Rattle.race_core.specs.declared.event.LaneEvent.TheVariants as event
use Rattle.race_core.specs.declared.part.Place.{Place}
use Rattle.race_core.specs.declared.part.Place.TheVariants as place

wrong_stays : {T : Type 0} (e : LaneEvent T) → place_after e place.Wrong ≡ place.Wrong
wrong_stays (event.Read n p) = refl
wrong_stays (event.File n p) = refl
wrong_stays (event.Settle won) = refl
wrong_stays event.ReaderMemory = refl
wrong_stays (event.Turns n) = refl
wrong_stays (event.Poll p) = refl
wrong_stays (event.Clock t) = refl
wrong_stays (event.Look c known) = refl
wrong_stays event.Kill = refl
wrong_stays event.KeeperMemory = refl
wrong_stays event.Took = refl
wrong_stays event.Start = refl
wrong_stays event.Finish = refl
wrong_stays event.Gave = refl

stays_wrong : {T : Type 0} (es : List (LaneEvent T)) → place_from place.Wrong es ≡ place.Away → ⊥
stays_wrong [] h = absurd cc
stays_wrong (e ∷ es) h = stays_wrong es (ap (λ p. place_from p es) (sym (wrong_stays e)) ∙ h)

from_append : {T : Type 0} (p : Place) (es fs : List (LaneEvent T)) → place_from p (es ++ fs) ≡ place_from (place_from p es) fs
from_append p [] fs = refl
from_append p (e ∷ es) fs = from_append (place_after e p) es fs

-- a start from any other place is wrong
started : {T : Type 0} (p : Place) (fs : List (LaneEvent T)) → place_from (place_after {T = T} event.Start p) fs ≡ place.Away → (p ≡ place.Held) × (place_from place.Used fs ≡ place.Away)
started place.Held fs h = (refl, h)
started place.Away fs h = absurd (stays_wrong fs h)
started place.Used fs h = absurd (stays_wrong fs h)
started place.Back fs h = absurd (stays_wrong fs h)
started place.Wrong fs h = absurd (stays_wrong fs h)

pub start_held : {T : Type 0} (es fs : List (LaneEvent T)) → place_from place.Away (es ++ event.Start ∷ fs) ≡ place.Away → place_from place.Away es ≡ place.Held
start_held es fs h = (started (place_from place.Away es) fs (sym (from_append place.Away es (event.Start ∷ fs)) ∙ h)).0

pub start_back : {T : Type 0} (es fs : List (LaneEvent T)) → place_from place.Away (es ++ event.Start ∷ fs) ≡ place.Away → place_from place.Used fs ≡ place.Away
start_back es fs h = (started (place_from place.Away es) fs (sym (from_append place.Away es (event.Start ∷ fs)) ∙ h)).1
