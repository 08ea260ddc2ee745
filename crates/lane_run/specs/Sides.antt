-- What the two sides of a child leave: its reader and its keeper.
use Rattle.std.specs.Prelude.{◌≡◌, ◌≢◌, ◌⊎◌, ℕ, ◌+◌, ◌<◌, ◌≤◌, ◌^◌, Bool, true, List, [], ◌∷◌, ◌++◌, length, Option, None, Some, IfSome, option_map}
use Rattle.std.specs.Option.{MatchOption}
use Rattle.sby_edge.specs.Child.{BayOf, PipeOf, finished, pipe_of}
use Rattle.sby_terms.specs.declared.names.JobName.{JobName}
use Rattle.race_core.specs.Ends.{IsKilled}
use Rattle.race_core.specs.declared.part.Keeper.{Keeper}
use Rattle.race_cells.specs.Notes.{NoteOf}
use Rattle.race_core.specs.Parts.{Terms, keeper_from, place_from, reader_from, reader_of}
use Rattle.race_core.specs.declared.event.Judged.{Judged}
use Rattle.race_core.specs.declared.event.Judged.TheVariants as judged
use Rattle.race_core.specs.declared.event.LaneEvent.{LaneEvent}
use Rattle.race_core.specs.declared.part.Keeper.TheVariants as keeper
use Rattle.race_core.specs.declared.part.Place.TheVariants.{Away}
use Rattle.race_core.specs.declared.part.Reader.{Reader}
use Rattle.race_core.specs.declared.part.Reader.TheVariants as reader
use Rattle.race_core.specs.declared.part.Reason.{Reason}
use Rattle.race_core.specs.declared.part.Reason.TheVariants as reason
use Rattle.lane_run.specs.Judging.{Says, Within}
use Rattle.lane_run.specs.Keeping.{EndsChild, HasKill, Keeps, TakesTurns}
use Rattle.lane_run.specs.Reading.{Comes, HasRead, NoneLeft, Proves, ReadSoFar, Settles, Took, TookProof, bytes_filed, bytes_read, empty_reads}

-- A reader's work on a fresh pipe with a fresh list. Its part is that of its list, and what its output is judged as; it asks for the proof
-- file only where the judge waits for it; that a read failed only where the pipe counted a fault.
pub record ReadOut {T : Type 0} (stands ends proves proves' : List ℕ → Judged T → Type 0) (awaits : Type 0) (most faults room : ℕ)
    (pipe pipe' : Option PipeOf) (output : List ℕ) (events : List (LaneEvent T)) (part : Reader T) : Type 0 where
  pub is : part ≡ reader_of (record { reader = events; keeper = [] })
  pub has_read : HasRead part
  pub left : (part ≡ reader.Short) ⊎ (1 ≤ room)
  pub asks : part ≡ reader.Asking → awaits
  pub same : Within proves' proves
  pub bound : length output ≤ most + 2 ^ 16
  pub so_far : ReadSoFar pipe pipe' output events
  pub failed : part ≡ reader.Failed → 0 < faults
  pub comes : Comes stands ends proves (NoneLeft pipe') output [] part

-- A keeper's work. Its list says that it takes its turns, or that it killed the child, and why; for a failed poll only where the hold
-- counted a fault. Its lane's place stays.
pub record KeptOut {T : Type 0} (a : Terms T) (of_cell : ℕ → T → Type 0) (may_read : ℕ → Type 0) (notes notes' : List (NoteOf T))
    (events events' : List (LaneEvent T)) (faults : ℕ) (why : Option (Reason T)) (is_failed : Bool) : Type 0 where
  pub part : MatchOption why (TakesTurns (keeper_from a keeper.Fresh events')) (λ reason. keeper_from a keeper.Fresh events' ≡ keeper.Killed reason)
  pub place : place_from Away events' ≡ place_from Away events
  pub keeps : Keeps of_cell may_read notes notes' events events'
  pub fault : IfSome why (λ r. EndsChild r × (r ≡ reason.Fault → 0 < faults))
  pub failed : is_failed ≡ true → 0 < faults

-- the keeper's part, by why it killed the child, if it did
abbrev pub kept_by : {T : Type 0} → Option (Reason T) → Keeper T
kept_by (Some why) = keeper.Killed why
kept_by None = keeper.Turning

-- A reader that has read asks for the proof file, where its output left the end to that and its keeper didn't kill the child.
abbrev pub Asks : {T : Type 0} → (List ℕ → Judged T → Type 0) → Option BayOf → JobName → ℕ → Option (Reason T) → Reader T → Reader T → ℕ → Type 0
Asks proves bay job most why part now filed = (proof : List ℕ) × (filed ≡ length proof)
    × (((now ≡ part) × (proof ≡ []) × (part ≡ reader.Asking → IsKilled (kept_by why)))
    ⊎ ((part ≡ reader.Asking) × Proves proves proof now × TookProof bay job most proof now))

-- Then it settles what it holds.
abbrev pub Finishes : {T : Type 0} → (List ℕ → Judged T → Type 0) → Option BayOf → JobName → ℕ → Option (Reason T) → Reader T → Reader T → ℕ → Type 0
Finishes {T} proves bay job most why part now filed = (between : Reader T) × Asks proves bay job most why part between filed × Settles between now

-- the bay after one more start
abbrev pub with_start : JobName → List (List ℕ) → List ℕ → BayOf → BayOf
with_start job words bytes bay = record bay { starts = bay.starts ++ record { job = job; words = words; bytes = bytes; given = None; killed = None } ∷ [] }

-- the pipe of the next start
abbrev pub next_pipe : JobName → BayOf → PipeOf
next_pipe job bay = pipe_of (bay.scripts job) (length bay.starts)

-- a child was killed when its pipe had given all that it gave, where the pipe tells
abbrev pub KilledLast : Option PipeOf → Option ℕ → Type 0
KilledLast None killed = Unit {0}
KilledLast (Some pipe) killed = killed ≡ Some pipe.given

-- so is one that its keeper didn't kill
abbrev pub KilledBy : {T : Type 0} → Option (Reason T) → Option PipeOf → Option ℕ → Type 0
KilledBy (Some why) pipe killed = Unit {0}
KilledBy None pipe killed = KilledLast pipe killed

-- A child whose pipe was this ran and is finished: its reader took an output of the pipe, and perhaps a proof file, as many bytes as its
-- list tells; its part is what these are judged as. The output is at most one buffer longer than the longest that decides nothing. The child was
-- killed when its pipe had given all that it gave, or its keeper's list has a kill.
abbrev pub RanFrom : {T : Type 0} → (stands ends proves : List ℕ → Judged T → Type 0) → JobName → ℕ → ℕ → Option BayOf → Option BayOf → Option PipeOf → List (LaneEvent T) → List (LaneEvent T) → Type 0
RanFrom stands ends proves job most most_output bay bay' pipe events kept =
    (now : Option PipeOf) × (output : List ℕ) × (proof : List ℕ) × (killed : Option ℕ)
    × (bay' ≡ option_map (finished now killed) bay)
    × (KilledLast now killed ⊎ HasKill kept)
    × Took pipe now output
    × (bytes_read events ≡ length output) × (bytes_filed events ≡ length proof)
    × TookProof bay' job most proof (reader_from reader.Fresh events)
    × Comes stands ends proves (NoneLeft now) output proof (reader_from reader.Fresh events)
    × (0 < empty_reads events → NoneLeft now)
    × (length output ≤ most_output + 2 ^ 16)

-- A judging of a proof file went on: it says what the whole file, which begins with what was taken before, is judged as; or it was asked to stop,
-- and what was taken and what is left are the same file.
abbrev pub JudgedOn : {T : Type 0} → (proves proves' : List ℕ → Judged T → Type 0) → Type 0 → (whole whole' : List ℕ) → Option (Judged T) → Type 0
JudgedOn proves proves' proving whole whole' said =
    MatchOption said (proving × (whole' ≡ whole) × Within proves' proves) (λ p. (p ≢ judged.More) × Says proves whole p)

-- A proof file was judged, and as many bytes are entered; or its keeper ended that first, or memory ran out, and none are.
abbrev pub JudgedFile : {T : Type 0} → (List ℕ → Judged T → Type 0) → List ℕ → ℕ → ℕ → Reader T → Option (Reason T) → Type 0
JudgedFile proves proof filed filed' part why =
    (Proves proves proof part × (filed' ≡ filed + length proof))
    ⊎ (((part ≡ reader.Asking) × IsKilled (kept_by why)) ⊎ (part ≡ reader.Short)) × (filed' ≡ filed)
