-- What a job leaves to its bay and its list, from the look before its start on.
use Rattle.std.specs.Prelude.{◌≡◌, ◌⊎◌, ℕ, ◌+◌, ◌<◌, ◌≤◌, ◌^◌, List, [], ◌∷◌, ◌++◌, length, Option, None, Some, IfSome, IsSome, IsSomeAnd}
use Rattle.jobs_pool.specs.Places.{PoolOf}
use Rattle.sby_edge.specs.Child.{BayOf, StartOf, up_to}
use Rattle.sby_edge.specs.Script.{ScriptOf}
use Rattle.sby_terms.specs.declared.names.JobName.{JobName}
use Rattle.race_core.specs.Parts.{reader_from}
use Rattle.race_core.specs.declared.end.JobEnd.{JobEnd}
use Rattle.race_core.specs.declared.end.JobEnd.TheVariants as end
use Rattle.race_core.specs.declared.event.Judged.{Judged}
use Rattle.race_core.specs.declared.event.LaneEvent.{LaneEvent}
use Rattle.race_core.specs.declared.part.Reader.TheVariants as reader
use Rattle.lane_run.specs.Keeping.{HasChildStart, HasKill}
use Rattle.lane_run.specs.Reading.{Comes, TookProof, bytes_filed, bytes_read, empty_reads}

-- an end of a job whose child ran
abbrev pub HasRun : {T : Type 0} → JobEnd T → Type 0
HasRun (end.Found f) = Unit {0}
HasRun end.Unknown = Unit {0}
HasRun (end.Bad number at) = Unit {0}
HasRun end.ReadFailed = Unit {0}
HasRun end.HoldFailed = Unit {0}
HasRun (end.CalledOff f) = Unit {0}
HasRun (end.Stopped r) = Unit {0}
HasRun end.Memory = Unit {0}
HasRun end.NotServed = ⊥
HasRun end.StartFailed = ⊥
HasRun (end.Skipped f) = ⊥

-- an end of a job whose child wasn't asked to start
abbrev pub NoStart : {T : Type 0} → JobEnd T → Type 0
NoStart end.NotServed = Unit {0}
NoStart (end.Skipped f) = Unit {0}
NoStart end.Memory = Unit {0}
NoStart (end.Found f) = ⊥
NoStart end.Unknown = ⊥
NoStart (end.Bad number at) = ⊥
NoStart end.ReadFailed = ⊥
NoStart end.StartFailed = ⊥
NoStart end.HoldFailed = ⊥
NoStart (end.CalledOff f) = ⊥
NoStart (end.Stopped r) = ⊥

-- an end of a job whose lane waits for a place
abbrev pub EndsWaiting : {T : Type 0} → JobEnd T → Type 0
EndsWaiting (end.CalledOff f) = Unit {0}
EndsWaiting (end.Stopped r) = Unit {0}
EndsWaiting end.NotServed = ⊥
EndsWaiting (end.Skipped f) = ⊥
EndsWaiting end.Memory = ⊥
EndsWaiting (end.Found f) = ⊥
EndsWaiting end.Unknown = ⊥
EndsWaiting (end.Bad number at) = ⊥
EndsWaiting end.ReadFailed = ⊥
EndsWaiting end.StartFailed = ⊥
EndsWaiting end.HoldFailed = ⊥

-- an end of a job whose child wasn't asked to start: the lane waited for a place only where there is an allowance
abbrev pub Unstarted : {T : Type 0} → Option PoolOf → JobEnd T → Type 0
Unstarted pool e = NoStart e ⊎ (IsSome pool × EndsWaiting e)

-- an output and what is left after it: the script's bytes up to its stall, or its gate's other ones
abbrev pub IsFront : ScriptOf → List ℕ → List ℕ → Type 0
IsFront script output rest =
    (output ++ rest ≡ up_to script.stalls script.bytes) ⊎ IsSomeAnd script.gate (λ gate. output ++ rest ≡ up_to script.stalls gate.instead)

-- the same of a job's script, where the bay tells it
abbrev pub IsFrontOf : Option BayOf → JobName → List ℕ → List ℕ → Type 0
IsFrontOf None job output rest = Unit {0}
IsFrontOf (Some bay) job output rest = IsFront (bay.scripts job) output rest

-- A reader took an output, a front of the script's, and perhaps a proof file, as many bytes as its list tells, and its state is what these
-- are judged as. Nothing being left, the output ended; a read gave no byte only then. The output is at most one buffer longer than the longest
-- that decides nothing.
pub record ReadsScript {T : Type 0} (stands ends proves : List ℕ → Judged T → Type 0) (bay : Option BayOf) (job : JobName) (most most_output : ℕ) (events : List (LaneEvent T)) : Type 0 where
  pub output : List ℕ
  pub rest : List ℕ
  pub proof : List ℕ
  pub front : IsFrontOf bay job output rest
  pub read : bytes_read events ≡ length output
  pub filed : bytes_filed events ≡ length proof
  pub is_proof : TookProof bay job most proof (reader_from reader.Fresh events)
  pub comes : Comes stands ends proves (rest ≡ []) output proof (reader_from reader.Fresh events)
  pub closed : 0 < empty_reads events → rest ≡ []
  pub bound : length output ≤ most_output + 2 ^ 16

-- the bay with these starts more
abbrev pub with_starts : List StartOf → BayOf → BayOf
with_starts starts bay = record bay { starts = bay.starts ++ starts }

-- A start of the job with these words and these bytes of the job. If it was finished: this many bytes its pipe gave, and this many it had given
-- when its child was killed.
abbrev pub start_of : JobName → List (List ℕ) → List ℕ → Option ℕ → Option ℕ → StartOf
start_of job words file given killed = record { job = job; words = words; bytes = file; given = given; killed = killed }

-- The child of a pipe that gave this many bytes was killed when it had given them all, its reader being done; or its keeper's list has a kill.
abbrev pub IsKilledFor : {T : Type 0} → ℕ → List (LaneEvent T) → Option ℕ → Type 0
IsKilledFor given kept killed = (killed ≡ Some given) ⊎ HasKill kept

-- under an allowance the keeper's list tells the child's start
abbrev pub TellsStart : {T : Type 0} → Option PoolOf → List (LaneEvent T) → Type 0
TellsStart pool kept = IfSome pool (λ _. HasChildStart kept)

-- The starts of a job, by the pool of its lane's places and the lists of its reader and its keeper: none; or one with these words and this
-- file that failed; or one whose child ran, is told under an allowance, gave as many bytes as the reader's list tells, and was killed by its
-- keeper alone before that.
abbrev pub Starts : {T : Type 0} → Option PoolOf → JobName → List (List ℕ) → List ℕ → Type 0 → (events kept : List (LaneEvent T)) → JobEnd T → List StartOf → Type 0
Starts pool job words file ran events kept e starts =
    (Unstarted pool e × (events ≡ []) × (starts ≡ []))
    ⊎ (((e ≡ end.StartFailed) × (events ≡ []) × (starts ≡ start_of job words file None None ∷ []))
    ⊎ ((HasRun e × TellsStart pool kept) × ran × ((killed : Option ℕ) × IsKilledFor (bytes_read events) kept killed × (starts ≡ start_of job words file (Some (bytes_read events)) killed ∷ []))))
