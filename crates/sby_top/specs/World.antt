-- The outside at a moment.
use Rattle.std.specs.Prelude.{◌≡◌, ℕ, List, Option, None, IfSome}
use Rattle.jobs_pool.specs.Places.{PoolOf}
use Rattle.sby_edge.specs.Cause.{Rose}
use Rattle.sby_edge.specs.Files.{Store}
use Rattle.task_race.specs.Bays.{YardAt}

-- What the file store and the sink tell; their counts of faults; the path at which a file call last failed, and how many bytes the sink
-- had taken when a call of it last did, where these are told; and the yard.
pub record World : Type 0 where
  pub told : Option Store
  pub file_faults : ℕ
  pub blamed : Option (List ℕ)
  pub taken : Option (List ℕ)
  pub sink_faults : ℕ
  pub ended : Option ℕ
  pub yard : YardAt

-- what the file store tells, its count of faults, and the path at which a call of it last failed
pub record FilesOf : Type 0 where
  pub told : Option Store
  pub faults : ℕ
  pub blamed : Option (List ℕ)

abbrev pub files_of : World → FilesOf
files_of w = record { told = w.told; faults = w.file_faults; blamed = w.blamed }

-- the outside with these files in place of its own
abbrev pub with_files : World → FilesOf → World
with_files w files = record w { told = files.told; file_faults = files.faults; blamed = files.blamed }

-- and with this yard in place of its own
abbrev pub with_yard : World → YardAt → World
with_yard w yard = record w { yard = yard }

-- The four moments of a task: the files when its preparing began, and when that was over; the outside before its lines, and when they had
-- been printed; and the pool of its children's places, where there is an allowance.
pub record Moments : Type 0 where
  pub got : FilesOf
  pub put : FilesOf
  pub pool : Option PoolOf
  pub before : World
  pub after : World

-- the moments of a task that is prepared, raced and shown in one go, without an allowance
abbrev pub at_once : World → FilesOf → World → Moments
at_once start put finish = record { got = files_of start; put = put; pool = None; before = with_files start put; after = finish }

-- a call of the file store failed at this path, and nothing else changed
pub record IsFailedAt (before now : FilesOf) (path : List ℕ) : Type 0 where
  pub rose : Rose before.faults now.faults
  pub blamed : IfSome now.blamed (λ at. at ≡ path)
  pub same : now.told ≡ before.told

-- the outside, by what the file store, the sink and the yard tell
abbrev pub world_at : Option Store → ℕ → Option (List ℕ) → Option (List ℕ) → ℕ → Option ℕ → YardAt → World
world_at told faults blamed taken sink_faults ended yard =
    record { told = told; file_faults = faults; blamed = blamed; taken = taken; sink_faults = sink_faults; ended = ended; yard = yard }

-- What the lanes of a task, which has this number in its call, know of the yard, before they ran and when their bays had come back; the pool
-- of their places, where there is an allowance; and the reading at which they started, where they have a limit.
pub record RaceOf : Type 0 where
  pub task : ℕ
  pub pool : Option PoolOf
  pub before : YardAt
  pub after : YardAt
  pub start : Option ℕ

abbrev pub race_of : ℕ → Option PoolOf → World → World → Option ℕ → RaceOf
race_of number pool before after start = record { task = number; pool = pool; before = before.yard; after = after.yard; start = start }

-- the yard is as it was: it tells no new start, and no call for a child failed
abbrev pub SameYard : World → World → Type 0
SameYard before after = after.yard ≡ before.yard

-- no file changed, and no call for one failed: neither as the task was prepared, nor as its lines were printed
abbrev pub SameFiles : Moments → Type 0
SameFiles m = (m.put ≡ m.got) × (files_of m.after ≡ files_of m.before)
