-- What the program's exit status says.
use Rattle.std.specs.Prelude.{◌≡◌, ◌⊎◌, ℕ, List, None}
use Rattle.cdcl_run.specs.Run.{World}
use Rattle.cdcl_run.specs.Serving.{DoorOf, Ran}

-- real files and a real output, which tell nothing but their counts of faults
abbrev pub untold : ℕ → ℕ → World
untold file_faults sink_faults = record { told = None; file_faults = file_faults; taken = None; sink_faults = sink_faults }

-- a real door, which tells nothing but how many connections came back and its count of faults
abbrev pub untold_door : ℕ → ℕ → DoorOf
untold_door backs faults = record { listens_at = None; coming = None; came_back = None; backs = backs; faults = faults }

-- this is the exit status of a call for these words, before which no call of the files, the output or the door failed and no connection
-- came back
abbrev pub IsExit : List (List ℕ) → ℕ → Type 0
IsExit words status =
    (file_faults : ℕ) × (sink_faults : ℕ) × (backs : ℕ) × (door_faults : ℕ)
    × Ran (untold 0 0) (untold file_faults sink_faults) (untold_door 0 0) (untold_door backs door_faults) words status

-- the program's: of a call for some words; or memory ran out for those that it was given
abbrev pub IsProgramExit : ℕ → Type 0
IsProgramExit status = ((words : List (List ℕ)) × IsExit words status) ⊎ (status ≡ 32)
