-- One entry of a list, or two.
use Rattle.std.specs.Prelude.{List, [], ◌∷◌}
use Rattle.race_core.specs.declared.event.LaneEvent.{LaneEvent}
use Rattle.race_core.specs.declared.event_list.Entries.{Entries}
use Rattle.race_core.specs.declared.event_list.Entries.TheVariants.{One, Two}

abbrev pub listed : {T : Type 0} → Entries T → List (LaneEvent T)
listed (One e) = e ∷ []
listed (Two e f) = e ∷ f ∷ []
