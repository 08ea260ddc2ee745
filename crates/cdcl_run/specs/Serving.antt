-- What is done with connections.
use Rattle.std.specs.Prelude.{◌≡◌, ◌≢◌, ◌⊎◌, ℕ, ◌<◌, false, List, [], ◌∷◌, ◌++◌, length, All, Contains, Option, IfSome, option_map}
use Rattle.sby_edge.specs.Cause.{Rose, counted}
use Rattle.net_link.specs.Doors.{Comes, Returned, now_at}
use Rattle.net_link.specs.Frame.{Pieces, Unframed}
use Rattle.net_serve.specs.Serving.{IsServed, fault_line}
use Rattle.net_serve.specs.declared.serving.Served.{Served}
use Rattle.net_serve.specs.declared.serving.Served.TheVariants.{Answered, BadFrame, Failed, Memory}
use Rattle.cdcl_words.specs.Asking.{AsksToServe}
use Rattle.cdcl_run.specs.Run.{Did, World}
use Rattle.cdcl_run.specs.Stream.{IsStream}

-- What a door shows: where it listens, the requests still to come and what each connection came back with, where they are told, how many
-- came back, and how often a call failed.
pub record DoorOf : Type 0 where
  pub listens_at : Option (Option (List ℕ))
  pub coming : Option (List (List ℕ))
  pub came_back : Option (List Returned)
  pub backs : ℕ
  pub faults : ℕ

-- a door after it was opened at this address
abbrev pub opened : List ℕ → DoorOf → DoorOf
opened address door = record { listens_at = now_at address door.listens_at; coming = door.coming; came_back = door.came_back; backs = door.backs; faults = door.faults }

-- a connection that was served: the bytes that came on it, where they are told, what came of it, and what it came back with
pub record Connection : Type 0 where
  pub request : Option (List ℕ)
  pub served : Served
  pub back : Returned

-- What was written to a connection, by what came of it: the answer of a stream for the file and the budget that its bytes ask for; that of
-- a line which says that they ask for nothing, where they don't. Else a call of it failed, or memory ran out.
abbrev pub StandsAs : Served → Option (List ℕ) → Returned → Type 0
StandsAs Answered request back = IsServed (IsStream false) request back.written
StandsAs BadFrame request back = IfSome request Unframed × IfSome back.written (Pieces fault_line)
StandsAs Failed request back = Rose 0 back.faults
StandsAs Memory request back = Unit {0}

-- a connection came, was served, and came back
pub record Passes (before after : DoorOf) (c : Connection) : Type 0 where
  pub comes : Comes before.coming after.coming c.request
  pub stands : StandsAs c.served c.request c.back
  pub came_back : after.came_back ≡ option_map (λ all. all ++ c.back ∷ []) before.came_back
  pub backs : after.backs ≡ counted before.backs
  pub faults : after.faults ≡ before.faults
  pub listens : after.listens_at ≡ before.listens_at

-- these did, one after the other
abbrev pub Passed : DoorOf → DoorOf → List Connection → Type 0
Passed before after [] = after ≡ before
Passed before after (c ∷ cs) = (middle : DoorOf) × Passes before middle c × Passed middle after cs

-- the exit status after these connections: 32 where memory ran out for one of them, else 0
abbrev pub IsExitOf : List Connection → ℕ → Type 0
IsExitOf cs exit = ((exit ≡ 0) × All (λ c. c.served ≢ Memory) cs) ⊎ ((exit ≡ 32) × ((c : Connection) × Contains cs c × (c.served ≡ Memory)))

-- the door was opened at the address, and then that many connections were served
pub record AreServed (before after : DoorOf) (address : List ℕ) (count exit : ℕ) : Type 0 where
  pub connections : List Connection
  pub passed : Passed (opened address before) after connections
  pub all : length connections ≡ count
  pub exit_is : IsExitOf connections exit

-- a call of the door failed, or memory for it ran out
abbrev pub DoorBreaks : DoorOf → DoorOf → ℕ → Type 0
DoorBreaks before after exit = ((exit ≡ 1) × Rose before.faults after.faults) ⊎ ((exit ≡ 32) × (after.faults ≡ before.faults))

-- After it was opened, and after fewer connections, the door broke, and listens there still. One that had come may not have come back.
pub record IsShut (before after : DoorOf) (address : List ℕ) (count exit : ℕ) : Type 0 where
  pub connections : List Connection
  pub middle : DoorOf
  pub passed : Passed (opened address before) middle connections
  pub fewer : length connections < count
  pub came_back : after.came_back ≡ middle.came_back
  pub backs : after.backs ≡ middle.backs
  pub listens : after.listens_at ≡ middle.listens_at
  pub breaks : DoorBreaks middle after exit

-- the door wasn't opened, and no connection came
pub record IsUnopened (before after : DoorOf) (exit : ℕ) : Type 0 where
  pub listens : after.listens_at ≡ before.listens_at
  pub coming : after.coming ≡ before.coming
  pub came_back : after.came_back ≡ before.came_back
  pub backs : after.backs ≡ before.backs
  pub breaks : DoorBreaks before after exit

-- what is done where that many connections that come to this address are to be served
abbrev pub IsServing : DoorOf → DoorOf → List ℕ → ℕ → ℕ → Type 0
IsServing before after address count exit = AreServed before after address count exit ⊎ IsShut before after address count exit ⊎ IsUnopened before after exit

-- What a call does. Where the words ask to serve connections, that is done, and files and output stay as they were; else the door does, and
-- what is done is what the words ask for of a file.
abbrev pub Ran : World → World → DoorOf → DoorOf → List (List ℕ) → ℕ → Type 0
Ran before after door door_after words exit =
    ((address : List ℕ) × (count : ℕ) × AsksToServe words address count × (after ≡ before) × IsServing door door_after address count exit)
    ⊎ (((address : List ℕ) (count : ℕ) → AsksToServe words address count → ⊥) × (door_after ≡ door) × Did before after words exit)
