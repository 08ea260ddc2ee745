-- What a keeper's list says of the place of its lane's berth.
use Rattle.std.specs.Prelude.{Bool, true, false, Option, None, Some}
use Rattle.jobs_pool.specs.Places.{PoolOf}
use Rattle.race_core.specs.Parts.{place_after}
use Rattle.race_core.specs.declared.event.LaneEvent.{LaneEvent}
use Rattle.race_core.specs.declared.part.Place.{Place}
use Rattle.race_core.specs.declared.part.Place.TheVariants as place

-- what a lane that holds a place, or doesn't, has of its allowance
abbrev pub place_held : Bool → Place
place_held true = place.Held
place_held false = place.Away

-- what the list of a lane without a child says of the place of its berth
abbrev pub place_at : Option PoolOf → Bool → Place
place_at None holds = place.Away
place_at (Some pool) holds = place_held holds

-- what the list of a lane with a child says of it
abbrev pub place_used : Option PoolOf → Place
place_used None = place.Away
place_used (Some pool) = place.Used

-- what it says after an entry that is made under an allowance alone
abbrev pub placed_after : {T : Type 0} → Option PoolOf → LaneEvent T → Place → Place
placed_after None e p = p
placed_after (Some pool) e p = place_after e p
