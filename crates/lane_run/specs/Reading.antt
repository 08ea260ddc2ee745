-- What a job's reader takes of its child's pipe, and its state after that.
use Rattle.std.specs.Prelude.{◌≡◌, ◌≢◌, ◌⊎◌, ℕ, zero, suc, ◌+◌, ◌<◌, List, [], ◌∷◌, ◌++◌, length, take, Bool, true, false, Option, None, Some, IsSomeAnd}
use Rattle.sby_edge.specs.declared.outside.Got.{Got}
use Rattle.sby_edge.specs.declared.outside.Got.TheVariants.{All, Long}
use Rattle.sby_edge.specs.Child.{BayOf, PipeOf}
use Rattle.sby_terms.specs.declared.names.JobName.{JobName}
use Rattle.race_core.specs.Parts.{judged as judged_as}
use Rattle.race_core.specs.declared.event.Judged.{Judged}
use Rattle.race_core.specs.declared.event.Judged.TheVariants as judged
use Rattle.race_core.specs.declared.event.LaneEvent.{LaneEvent}
use Rattle.race_core.specs.declared.event.LaneEvent.TheVariants as event
use Rattle.race_core.specs.Ends.{IsKilled}
use Rattle.race_core.specs.declared.end.JobEnd.{JobEnd}
use Rattle.race_core.specs.declared.end.JobEnd.TheVariants as end
use Rattle.race_core.specs.declared.part.Keeper.{Keeper}
use Rattle.race_core.specs.declared.part.By.{By}
use Rattle.race_core.specs.declared.part.By.TheVariants as by
use Rattle.race_core.specs.declared.part.Reader.{Reader}
use Rattle.race_core.specs.declared.part.Reader.TheVariants as reader

-- how many bytes an event's read took
abbrev pub read_by : {T : Type 0} → LaneEvent T → ℕ
read_by (event.Read n p) = n
read_by (event.File n p) = 0
read_by (event.Settle won) = 0
read_by event.ReaderMemory = 0
read_by (event.Turns n) = 0
read_by (event.Poll p) = 0
read_by (event.Clock r) = 0
read_by (event.Look c known) = 0
read_by event.Kill = 0
read_by event.KeeperMemory = 0
read_by event.Took = 0
read_by event.Start = 0
read_by event.Finish = 0
read_by event.Gave = 0

-- how many bytes the reads of a list took
abbrev pub bytes_read : {T : Type 0} → List (LaneEvent T) → ℕ
bytes_read [] = 0
bytes_read (e ∷ es) = read_by e + bytes_read es

-- 1 where a read that didn't fail gave no byte, else 0
abbrev pub no_byte : ℕ → ℕ
no_byte zero = 1
no_byte (suc n) = 0

abbrev pub empty_read : {T : Type 0} → ℕ → Judged T → ℕ
empty_read n judged.More = no_byte n
empty_read n (judged.Found f) = no_byte n
empty_read n judged.Unknown = no_byte n
empty_read n (judged.Bad number at) = no_byte n
empty_read n judged.Unjudged = no_byte n
empty_read n judged.Failed = 0

-- how many reads of an event gave no byte
abbrev pub empty_by : {T : Type 0} → LaneEvent T → ℕ
empty_by (event.Read n p) = empty_read n p
empty_by (event.File n p) = 0
empty_by (event.Settle won) = 0
empty_by event.ReaderMemory = 0
empty_by (event.Turns n) = 0
empty_by (event.Poll p) = 0
empty_by (event.Clock r) = 0
empty_by (event.Look c known) = 0
empty_by event.Kill = 0
empty_by event.KeeperMemory = 0
empty_by event.Took = 0
empty_by event.Start = 0
empty_by event.Finish = 0
empty_by event.Gave = 0

-- how many reads of a list gave no byte
abbrev pub empty_reads : {T : Type 0} → List (LaneEvent T) → ℕ
empty_reads [] = 0
empty_reads (e ∷ es) = empty_by e + empty_reads es

-- how many bytes of the proof file an event took
abbrev pub filed_by : {T : Type 0} → LaneEvent T → ℕ
filed_by (event.Read n p) = 0
filed_by (event.File n p) = n
filed_by (event.Settle won) = 0
filed_by event.ReaderMemory = 0
filed_by (event.Turns n) = 0
filed_by (event.Poll p) = 0
filed_by (event.Clock r) = 0
filed_by (event.Look c known) = 0
filed_by event.Kill = 0
filed_by event.KeeperMemory = 0
filed_by event.Took = 0
filed_by event.Start = 0
filed_by event.Finish = 0
filed_by event.Gave = 0

-- how many bytes of the proof file a list took
abbrev pub bytes_filed : {T : Type 0} → List (LaneEvent T) → ℕ
bytes_filed [] = 0
bytes_filed (e ∷ es) = filed_by e + bytes_filed es

-- the bytes taken of a pipe that tells: none and no read yet; or a front of its bytes, or of the gate's other ones
abbrev pub TookSome : PipeOf → PipeOf → List ℕ → Type 0
TookSome before now taken =
    ((now ≡ before) × (taken ≡ []))
    ⊎ ((now.place ≡ before.place) × (now.given ≡ before.given + length taken) × (now.instead ≡ None)
    × ((taken ++ now.bytes ≡ before.bytes) ⊎ IsSomeAnd before.instead (λ other. taken ++ now.bytes ≡ other)))

-- the bytes taken of a pipe
abbrev pub Took : Option PipeOf → Option PipeOf → List ℕ → Type 0
Took None now taken = now ≡ None
Took (Some before) None taken = ⊥
Took (Some before) (Some now) taken = TookSome before now taken

-- no byte is left, where that is told
abbrev pub NoneLeft : Option PipeOf → Type 0
NoneLeft None = Unit {0}
NoneLeft (Some pipe) = pipe.bytes ≡ []

-- What an output, with the proof file after it where that was asked, is judged as: by its bytes so far; by its close, at its end alone;
-- or by the proof file, where its end leaves it to that.
abbrev pub ComesBy : {T : Type 0} → (stands ends proves : List ℕ → Judged T → Type 0) → Type 0 → List ℕ → List ℕ → By → Judged T → Type 0
ComesBy stands ends proves ended output proof by.Bytes p = stands output p
ComesBy stands ends proves ended output proof by.Close p = ended × ends output p
ComesBy stands ends proves ended output proof by.File p = ended × ends output judged.More × proves proof p

-- A reader's state is what its output is judged as. That it has read on, that a read failed, or that memory ran out, says nothing
-- of the output.
abbrev pub Comes : {T : Type 0} → (stands ends proves : List ℕ → Judged T → Type 0) → Type 0 → List ℕ → List ℕ → Reader T → Type 0
Comes stands ends proves ended output proof (reader.Holding f b) = ComesBy stands ends proves ended output proof b (judged.Found f)
Comes stands ends proves ended output proof (reader.Found f b won) = ComesBy stands ends proves ended output proof b (judged.Found f)
Comes stands ends proves ended output proof (reader.Unknown b) = ComesBy stands ends proves ended output proof b judged.Unknown
Comes stands ends proves ended output proof (reader.Bad number at b) = ComesBy stands ends proves ended output proof b (judged.Bad number at)
Comes stands ends proves ended output proof reader.Asking = ended × ends output judged.More
Comes stands ends proves ended output proof reader.Fresh = Unit {0}
Comes stands ends proves ended output proof reader.Reading = Unit {0}
Comes stands ends proves ended output proof reader.Unjudged = Unit {0}
Comes stands ends proves ended output proof reader.Failed = Unit {0}
Comes stands ends proves ended output proof reader.Short = Unit {0}
Comes stands ends proves ended output proof reader.Wrong = ⊥

-- the reader reads on
abbrev pub ReadsOn : {T : Type 0} → Reader T → Type 0
ReadsOn reader.Fresh = Unit {0}
ReadsOn reader.Reading = Unit {0}
ReadsOn reader.Asking = ⊥
ReadsOn reader.Unjudged = ⊥
ReadsOn (reader.Holding f b) = ⊥
ReadsOn (reader.Found f b won) = ⊥
ReadsOn (reader.Unknown b) = ⊥
ReadsOn (reader.Bad number at b) = ⊥
ReadsOn reader.Failed = ⊥
ReadsOn reader.Short = ⊥
ReadsOn reader.Wrong = ⊥

-- The reader of the output has ended: it holds a finding, has another end of its own, or leaves it to the proof file. No proof file was
-- judged yet.
abbrev pub HasRead : {T : Type 0} → Reader T → Type 0
HasRead (reader.Holding f b) = b ≢ by.File
HasRead (reader.Unknown b) = b ≢ by.File
HasRead (reader.Bad number at b) = b ≢ by.File
HasRead reader.Asking = Unit {0}
HasRead reader.Failed = Unit {0}
HasRead reader.Short = Unit {0}
HasRead reader.Fresh = ⊥
HasRead reader.Reading = ⊥
HasRead reader.Unjudged = ⊥
HasRead (reader.Found f b won) = ⊥
HasRead reader.Wrong = ⊥

-- what a read of this many bytes, judged so, is entered as: so, or as out of memory
abbrev pub EnteredAs : {T : Type 0} → By → Judged T → Reader T → Type 0
EnteredAs b p part = (part ≡ judged_as b p) ⊎ (part ≡ reader.Short)

-- A moment of a reader's work since its pipe and its list were fresh: what it took of the pipe is the judge's output, as many bytes
-- as its list tells. A read gave no byte only where none is left.
pub record ReadSoFar {T : Type 0} (pipe pipe' : Option PipeOf) (output : List ℕ) (events : List (LaneEvent T)) : Type 0 where
  pub took : Took pipe pipe' output
  pub counted : bytes_read events ≡ length output
  pub unfiled : bytes_filed events ≡ 0
  pub closed : 0 < empty_reads events → NoneLeft pipe'

-- the state that a proof file gives
abbrev pub Proves : {T : Type 0} → (List ℕ → Judged T → Type 0) → List ℕ → Reader T → Type 0
Proves proves proof (reader.Holding f b) = (b ≡ by.File) × proves proof (judged.Found f)
Proves proves proof (reader.Unknown b) = (b ≡ by.File) × proves proof judged.Unknown
Proves proves proof (reader.Bad number at b) = (b ≡ by.File) × proves proof (judged.Bad number at)
Proves proves proof reader.Failed = Unit {0}
Proves proves proof reader.Short = Unit {0}
Proves proves proof (reader.Found f b won) = ⊥
Proves proves proof reader.Fresh = ⊥
Proves proves proof reader.Reading = ⊥
Proves proves proof reader.Asking = ⊥
Proves proves proof reader.Unjudged = ⊥
Proves proves proof reader.Wrong = ⊥

-- a reader settled what it held, or dropped it because memory ran out
abbrev pub Settles : {T : Type 0} → Reader T → Reader T → Type 0
Settles (reader.Holding f b) part = (part ≡ reader.Found f b true) ⊎ ((part ≡ reader.Found f b false) ⊎ (part ≡ reader.Short))
Settles (reader.Found f b won) part = part ≡ reader.Found f b won
Settles (reader.Unknown b) part = part ≡ reader.Unknown b
Settles (reader.Bad number at b) part = part ≡ reader.Bad number at b
Settles reader.Fresh part = part ≡ reader.Fresh
Settles reader.Reading part = part ≡ reader.Reading
Settles reader.Asking part = part ≡ reader.Asking
Settles reader.Unjudged part = part ≡ reader.Unjudged
Settles reader.Failed part = part ≡ reader.Failed
Settles reader.Short part = part ≡ reader.Short
Settles reader.Wrong part = part ≡ reader.Wrong

-- the reader is over: it has an end of its own, wanted memory, or left it to a proof file that isn't asked for after a kill
abbrev pub IsOver : {T : Type 0} → Reader T → Keeper T → Type 0
IsOver (reader.Found f b won) k = Unit {0}
IsOver (reader.Unknown b) k = Unit {0}
IsOver (reader.Bad number at b) k = Unit {0}
IsOver reader.Failed k = Unit {0}
IsOver reader.Short k = Unit {0}
IsOver reader.Asking k = IsKilled k
IsOver (reader.Holding f b) k = ⊥
IsOver reader.Fresh k = ⊥
IsOver reader.Reading k = ⊥
IsOver reader.Unjudged k = ⊥
IsOver reader.Wrong k = ⊥

-- the reader's own end that is no finding
abbrev pub IsReaders : {T : Type 0} → Reader T → JobEnd T → Type 0
IsReaders (reader.Unknown b) e = e ≡ end.Unknown
IsReaders (reader.Bad number at b) e = e ≡ end.Bad number at
IsReaders reader.Failed e = e ≡ end.ReadFailed
IsReaders (reader.Found f b won) e = ⊥
IsReaders (reader.Holding f b) e = ⊥
IsReaders reader.Asking e = ⊥
IsReaders reader.Short e = ⊥
IsReaders reader.Fresh e = ⊥
IsReaders reader.Reading e = ⊥
IsReaders reader.Unjudged e = ⊥
IsReaders reader.Wrong e = ⊥

-- the reader has a finding, leaves the end to the keeper, or isn't over
abbrev pub LeavesEnd : {T : Type 0} → Bool → Reader T → Type 0
LeavesEnd killed (reader.Unknown b) = (killed ≡ true) × (b ≡ by.Close)
LeavesEnd killed (reader.Bad number at b) = (killed ≡ true) × (b ≡ by.Close) × (number ≡ 48)
LeavesEnd killed reader.Failed = ⊥
LeavesEnd killed (reader.Found f b won) = Unit {0}
LeavesEnd killed (reader.Holding f b) = Unit {0}
LeavesEnd killed reader.Asking = Unit {0}
LeavesEnd killed reader.Short = Unit {0}
LeavesEnd killed reader.Fresh = Unit {0}
LeavesEnd killed reader.Reading = Unit {0}
LeavesEnd killed reader.Unjudged = Unit {0}
LeavesEnd killed reader.Wrong = Unit {0}

-- the reader has a finding
abbrev pub IsFound : {T : Type 0} → Reader T → Type 0
IsFound (reader.Found f b won) = Unit {0}
IsFound (reader.Unknown b) = ⊥
IsFound (reader.Bad number at b) = ⊥
IsFound reader.Failed = ⊥
IsFound (reader.Holding f b) = ⊥
IsFound reader.Asking = ⊥
IsFound reader.Short = ⊥
IsFound reader.Fresh = ⊥
IsFound reader.Reading = ⊥
IsFound reader.Unjudged = ⊥
IsFound reader.Wrong = ⊥

-- a proof file that was got, of the job's script where that is told: all of it, or its first `most + 1` bytes where it is longer
abbrev pub IsProof : Option BayOf → JobName → ℕ → List ℕ → Type 0
IsProof None job most proof = Unit {0}
IsProof (Some bay) job most proof = proof ≡ take (most + 1) (bay.scripts job).proof

-- the reader's state isn't by the proof file
abbrev pub NotByFile : {T : Type 0} → Reader T → Type 0
NotByFile (reader.Holding f b) = b ≢ by.File
NotByFile (reader.Found f b won) = b ≢ by.File
NotByFile (reader.Unknown b) = b ≢ by.File
NotByFile (reader.Bad number at b) = b ≢ by.File
NotByFile reader.Failed = Unit {0}
NotByFile reader.Short = Unit {0}
NotByFile reader.Asking = Unit {0}
NotByFile reader.Fresh = Unit {0}
NotByFile reader.Reading = Unit {0}
NotByFile reader.Unjudged = Unit {0}
NotByFile reader.Wrong = Unit {0}

-- the bytes that a reader took of a proof file: those that were got of it; or none, where its state isn't by the file
abbrev pub TookProof : {T : Type 0} → Option BayOf → JobName → ℕ → List ℕ → Reader T → Type 0
TookProof bay job most proof part = IsProof bay job most proof ⊎ ((proof ≡ []) × NotByFile part)

-- the reader holds a finding that isn't settled
abbrev pub IsHolding : {T : Type 0} → Reader T → Type 0
IsHolding (reader.Holding f b) = Unit {0}
IsHolding (reader.Found f b won) = ⊥
IsHolding (reader.Unknown b) = ⊥
IsHolding (reader.Bad number at b) = ⊥
IsHolding reader.Failed = ⊥
IsHolding reader.Asking = ⊥
IsHolding reader.Short = ⊥
IsHolding reader.Fresh = ⊥
IsHolding reader.Reading = ⊥
IsHolding reader.Unjudged = ⊥
IsHolding reader.Wrong = ⊥

-- where the reader won the cell, this holds of its finding
abbrev pub IfWon : {T : Type 0} → Reader T → (T → Type 0) → Type 0
IfWon (reader.Found f b true) P = P f
IfWon (reader.Found f b false) P = Unit {0}
IfWon (reader.Holding f b) P = Unit {0}
IfWon (reader.Unknown b) P = Unit {0}
IfWon (reader.Bad number at b) P = Unit {0}
IfWon reader.Failed P = Unit {0}
IfWon reader.Asking P = Unit {0}
IfWon reader.Short P = Unit {0}
IfWon reader.Fresh P = Unit {0}
IfWon reader.Reading P = Unit {0}
IfWon reader.Unjudged P = Unit {0}
IfWon reader.Wrong P = Unit {0}

-- what a proof file, judged so, is entered as: so, or as out of memory
abbrev pub FiledAs : {T : Type 0} → Judged T → Reader T → Type 0
FiledAs p part = ((p ≢ judged.Unjudged) × (part ≡ judged_as by.File p)) ⊎ (part ≡ reader.Short)

-- the bytes that were got of a file
abbrev pub got_bytes : Got → List ℕ
got_bytes (All bytes) = bytes.items
got_bytes (Long bytes) = bytes.items
