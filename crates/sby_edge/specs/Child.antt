-- What the parts of a child tell.
use Rattle.std.specs.Prelude.{◌≡◌, ℕ, zero, suc, ◌+◌, List, [], ◌∷◌, ◌++◌, length, take, drop, Option, None, Some, option_map, Result, Ok, Err, IfSome, IsSome, IsSomeAnd, ◌⊎◌}
use Rattle.sby_edge.specs.Cause.{CountsOf}
use Rattle.sby_edge.specs.declared.outside.Fail.{Fail}
use Rattle.sby_edge.specs.declared.outside.Fail.TheVariants.{Failed as FailFailed, Memory as FailMemory}
use Rattle.sby_edge.specs.declared.script.Exit.{Exit}
use Rattle.sby_edge.specs.Script.{ScriptOf}
use Rattle.sby_edge.specs.Files.{GotOf}
use Rattle.sby_edge.specs.declared.outside.Got.{Got}
use Rattle.sby_terms.specs.declared.names.JobName.{JobName}

-- a yard tells the script of each task, lane and job
abbrev pub YardOf : Type 0
YardOf = ℕ → ℕ → JobName → ScriptOf

-- A start that was asked for, with the job's bytes that it was given. From its finish on: how many bytes its pipe gave; and, if its child
-- was killed, how many it had given then.
pub record StartOf : Type 0 where
  pub job : JobName
  pub words : List (List ℕ)
  pub bytes : List ℕ
  pub given : Option ℕ
  pub killed : Option ℕ

-- a bay tells its task and its lane, the lane's scripts and its starts, the first one first
pub record BayOf : Type 0 where
  pub task : ℕ
  pub lane : ℕ
  pub scripts : JobName → ScriptOf
  pub starts : List StartOf

-- a bay of a task's lane before its first start, where the yard tells its scripts
abbrev pub new_bay : Option YardOf → ℕ → ℕ → Option BayOf
new_bay told task lane = option_map (λ scripts. record { task = task; lane = lane; scripts = scripts task lane; starts = [] }) told

-- what a bay that came back has left: its task and its lane, its starts, and its counts of failed calls
pub record LaneOf : Type 0 where
  pub task : ℕ
  pub lane : ℕ
  pub starts : List StartOf
  pub counts : CountsOf

-- what a bay leaves, where it tells
abbrev pub left_by : Option BayOf → CountsOf → List LaneOf
left_by None counts = []
left_by (Some bay) counts = record { task = bay.task; lane = bay.lane; starts = bay.starts; counts = counts } ∷ []

-- what a yard tells of the bays that came back, when these lanes more did: they stand after the earlier ones; or, since memory ran
-- out for them, it tells no more
abbrev pub IsLogged : List LaneOf → Option (List LaneOf) → Option (List LaneOf) → Type 0
IsLogged lanes before now = (now ≡ option_map (λ earlier. earlier ++ lanes) before) ⊎ (now ≡ None)

-- a pipe tells the place of its start among those of its bay, how many bytes it gave, and the bytes left up to its script's
-- stall; these are `bytes`, or, while the gate isn't decided, it may be `instead`
pub record PipeOf : Type 0 where
  pub place : ℕ
  pub given : ℕ
  pub bytes : List ℕ
  pub instead : Option (List ℕ)

-- the bytes up to the stall, where there is one
abbrev pub up_to : Option ℕ → List ℕ → List ℕ
up_to None bytes = bytes
up_to (Some stall) bytes = take stall bytes

-- the pipe of a start at this place, before its first read
abbrev pub pipe_of : ScriptOf → ℕ → PipeOf
pipe_of script place = record {
  place = place;
  given = 0;
  bytes = up_to script.stalls script.bytes;
  instead = option_map (λ gate. up_to script.stalls gate.instead) script.gate;
}

-- a read gave this piece from the front of these bytes; nothing only where nothing was left
pub record Gives (bytes piece : List ℕ) (before now : PipeOf) : Type 0 where
  pub piece_is : piece ≡ take (length piece) bytes
  pub ends : piece ≡ [] → bytes ≡ []
  pub left : now ≡ record { place = before.place; given = before.given + length piece; bytes = drop (length piece) bytes; instead = None }

-- a read of a pipe that tells
abbrev pub GivesSome : PipeOf → List ℕ → PipeOf → Type 0
GivesSome before piece now = Gives before.bytes piece before now ⊎ IsSomeAnd before.instead (λ bytes. Gives bytes piece before now)

-- what a read tells; `buffer` is the buffer after it
abbrev pub Reads : {E : Type 0} → Option PipeOf → Option PipeOf → List ℕ → Result ℕ E → Type 0
Reads before now buffer (Err _) = now ≡ before
Reads None now buffer (Ok count) = now ≡ None
Reads (Some before) None buffer (Ok count) = ⊥
Reads (Some before) (Some now) buffer (Ok count) = GivesSome before (take count buffer) now

-- the bay after a start was asked for; out of memory leaves it
abbrev pub started : {T : Type 0} → Result T Fail → JobName → List (List ℕ) → List ℕ → BayOf → BayOf
started (Ok _) job words bytes bay = record bay { starts = bay.starts ++ record { job = job; words = words; bytes = bytes; given = None; killed = None } ∷ [] }
started (Err FailFailed) job words bytes bay = record bay { starts = bay.starts ++ record { job = job; words = words; bytes = bytes; given = None; killed = None } ∷ [] }
started (Err FailMemory) job words bytes bay = bay

-- a start whose pipe gave this many bytes, and whose child was killed when it had given this many, if it was
abbrev pub gave : ℕ → Option ℕ → StartOf → StartOf
gave given killed start = record start { given = Some given; killed = killed }

-- the starts, with that of the one at this place
abbrev pub with_given : ℕ → ℕ → Option ℕ → List StartOf → List StartOf
with_given place given killed [] = []
with_given zero given killed (start ∷ starts) = gave given killed start ∷ starts
with_given (suc place) given killed (start ∷ starts) = start ∷ with_given place given killed starts

-- what is got of the proof file of a job's child, where the bay tells
abbrev pub ProofFrom : Option BayOf → JobName → ℕ → Got → Type 0
ProofFrom None job most got = Unit {0}
ProofFrom (Some bay) job most got = GotOf (bay.scripts job).proof most got

-- the bay after the child of this pipe is finished, which was killed when its pipe had given this many bytes, if it was
abbrev pub finished : Option PipeOf → Option ℕ → BayOf → BayOf
finished None killed bay = bay
finished (Some pipe) killed bay = record bay { starts = with_given pipe.place pipe.given killed bay.starts }

-- a kill by the hold alone: the child was killed when its pipe had given some number of bytes; a first kill stands
abbrev pub Kills : Option ℕ → Option ℕ → Type 0
Kills None now = IsSome now
Kills (Some given) now = now ≡ Some given

-- a child is killed whose pipe is read no more: it has given all that it gives
abbrev pub KillsAt : Option PipeOf → Option ℕ → Option ℕ → Type 0
KillsAt None before now = Kills before now
KillsAt (Some pipe) None now = now ≡ Some pipe.given
KillsAt (Some pipe) (Some given) now = now ≡ Some given

-- the exit that is known after a call that gave this one, or none; a child has one exit
abbrev pub Learns : Option Exit → Option Exit → Option Exit → Type 0
Learns before now None = now ≡ before
Learns before now (Some exit) = (now ≡ Some exit) × IfSome before (λ known. known ≡ exit)
