-- What a call of the program does.
use Rattle.std.specs.Prelude.{◌≡◌, ◌⊎◌, ℕ, ◌+◌, List, ◌≤◌, [], ◌∷◌, ◌++◌, All, drop, length, map, bit_or, string_bytes, IsSomeAnd, Option, Some, None, Ok}
use Rattle.std.specs.List.{concat}
use Rattle.sby_edge.specs.Cause.{Rose}
use Rattle.sby_edge.specs.Sink.{AreAll}
use Rattle.judge.specs.Finding.{FindingOf}
use Rattle.race_core.specs.Report.{ReportOf}
use Rattle.sby_file.specs.Config.{ConfigOf}
use Rattle.sby_file.specs.Sby.{SbyText}
use Rattle.sby_terms.specs.Code.{code_of}
use Rattle.sby_terms.specs.Span.{whole}
use Rattle.sby_terms.specs.declared.names.Mode.TheVariants.{Bmc}
use Rattle.sby_terms.specs.declared.names.Status.{Status}
use Rattle.sby_terms.specs.declared.names.Status.TheVariants.{Memory}
use Rattle.sby_lines.specs.Lines.{HasLines, IsStatus}
use Rattle.sby_lines.specs.Telling.{GrownByFirst, GrownBySome, grown}
use Rattle.sby_lines.specs.Texts.{usage_line}
use Rattle.sby_lines.specs.Told.{CameTo, Request}
use Rattle.sby_lines.specs.declared.early.Early.{Early}
use Rattle.sby_words.specs.Requests.{AskGen, AskJudge, AskNames, AskTasks, Request as Asked}
use Rattle.sby_words.specs.Words.{IsAsked}
use Rattle.sby_top.specs.Causes.{IsOutcome}
use Rattle.sby_top.specs.Headline.{Exit, Code, Cut, IsPrinted, TaskRan}
use Rattle.sby_top.specs.Asked.{HasTurns}
use Rattle.sby_top.specs.Turns.{IsTextGot, Turn, Refused, Run}
use Rattle.sby_top.specs.Task.{TaskOf}
use Rattle.sby_top.specs.World.{FilesOf, Moments, SameFiles, SameYard, World, files_of, race_of, with_files, with_yard}
use Rattle.task_race.specs.Bays.{NoneStarted}
use Rattle.sby_top.specs.declared.outcome.Done.{Done}
use Rattle.sby_top.specs.declared.outcome.TaskEnd.{TaskEnd}

-- what is printed of a refused task: its name, and nothing is expected, whatever its file says
abbrev pub refused_request : List ℕ → Request
refused_request name = record { name = name; mode = Bmc; span = whole 1; expect = []; limit = None }

-- the status of a fault: MEMORY where memory ran out, else ERROR
abbrev pub IsRefusedStatus : List ℕ → Early → Status → Type 0
IsRefusedStatus name early status = (c : CameTo) × IsStatus (refused_request name) (Some early) c status

-- Only a fault was told: the status is ERROR with number 16, whatever the task's file expects, or MEMORY with 32 where memory ran out; no
-- file changed.
pub record WasRefused (m : Moments) (name : List ℕ) (early : Early) (end : TaskEnd) (exit : Exit) : Type 0 where
  pub name_is : string_bytes end.name ≡ name
  pub early_is : end.early ≡ Some early
  pub reports : end.reports.items ≡ []
  pub unput : end.unput.items ≡ []
  pub text : end.text ≡ []
  pub start : end.start ≡ None
  pub status : IsRefusedStatus name early end.status ⊎ (end.status ≡ Memory)
  pub code : (rc : ℕ) → exit ≡ Code rc → rc ≡ code_of end.status
  pub printed : IsPrinted name m.before.taken m.after.taken m.before.sink_faults m.after.sink_faults m.after.ended
      (HasLines (refused_request name) [] (Some early) [] None []) [] (IsRefusedStatus name early end.status) end.status exit
  pub files : SameFiles m
  pub yard : SameYard m.before m.after
  pub later : m.before.sink_faults ≤ m.after.sink_faults

-- a turn, which has this number in its call, ran at these moments
abbrev pub TurnRan : (ℕ → Type 0) → ℕ → Moments → Turn → TaskEnd → Exit → Type 0
TurnRan may_read number m (Refused name early) end exit = WasRefused m name early end exit
TurnRan may_read number m (Run task) end exit = TaskRan may_read number m task end exit

-- What the turns did, numbered from this one on, each at its moments; the exit status of each is or-ed to those before it. A failed call of
-- the sink ends the run; where memory runs out even for an end, the list of ends stops short. In which order the moments
-- follow is said by `Follows`.
abbrev pub TurnsRan : (ℕ → Type 0) → ℕ → ℕ → List Turn → List Moments → List TaskEnd → Exit → Type 0
TurnsRan may_read number so_far [] [] [] exit = exit ≡ Code so_far
TurnsRan may_read number so_far (turn ∷ turns) [] [] exit = exit ≡ Code (bit_or so_far 32)
TurnsRan may_read number so_far (turn ∷ turns) (m ∷ ms) (end ∷ ends) exit =
    (TurnRan may_read number m turn end Cut × (ms ≡ []) × (ends ≡ []) × (exit ≡ Cut))
    ⊎ ((rc : ℕ) × TurnRan may_read number m turn end (Code rc) × TurnsRan may_read (number + 1) (bit_or so_far rc) turns ms ends exit)
TurnsRan may_read number so_far [] (m ∷ ms) ends exit = ⊥
TurnsRan may_read number so_far [] [] (end ∷ ends) exit = ⊥
TurnsRan may_read number so_far (turn ∷ turns) (m ∷ ms) [] exit = ⊥
TurnsRan may_read number so_far (turn ∷ turns) [] (end ∷ ends) exit = ⊥

-- a task's moments begin at this one, with nothing between its preparing and its race, and its children need no places
abbrev pub BeginsAt : World → Moments → Type 0
BeginsAt start m = (m.got ≡ files_of start) × (m.pool ≡ None) × (m.before ≡ with_files start m.put)

-- the order of moments: each task is prepared, raced and shown before the next one
abbrev pub OneByOne : World → List Moments → World → Type 0
OneByOne start [] finish = finish ≡ start
OneByOne start (m ∷ ms) finish = BeginsAt start m × OneByOne m.after ms finish

-- A turn was prepared, and its lanes raced, but it isn't told, since a call of the sink had failed: nothing of it is printed, and no trace file
-- is put; the bays of its lanes came back.
pub record IsUntold (may_read : ℕ → Type 0) (number : ℕ) (m : Moments) (task : TaskOf) : Type 0 where
  pub start : Option ℕ
  pub early : Option Early
  pub text : List ℕ
  pub reports : List (ReportOf FindingOf)
  pub outcome : IsOutcome may_read task m (race_of number m.pool m.before m.after start) early text reports [] (Unit {0})
  pub silent : m.after ≡ with_yard m.before m.after.yard

abbrev pub TurnUntold : (ℕ → Type 0) → ℕ → Moments → Turn → Type 0
TurnUntold may_read number m (Refused name early) = (m.put ≡ m.got) × (m.after ≡ m.before)
TurnUntold may_read number m (Run task) = IsUntold may_read number m task

-- the first of these turns, numbered from this one on, aren't told
abbrev pub AreUntold : (ℕ → Type 0) → ℕ → List Turn → List Moments → Type 0
AreUntold may_read number turns [] = Unit {0}
AreUntold may_read number (turn ∷ turns) (m ∷ ms) = TurnUntold may_read number m turn × AreUntold may_read (number + 1) turns ms
AreUntold may_read number [] (m ∷ ms) = ⊥

-- the tasks are prepared one after the other, from these files to those
abbrev pub ArePrepared : FilesOf → List Moments → FilesOf → Type 0
ArePrepared files [] last = last ≡ files
ArePrepared files (m ∷ ms) last = (m.got ≡ files) × ArePrepared m.put ms last

-- their lines are printed one task after the other, and the bays of their lanes come back
abbrev pub AreShown : World → List Moments → World → Type 0
AreShown start [] finish = finish ≡ start
AreShown start (m ∷ ms) finish = (m.before ≡ start) × AreShown m.after ms finish

-- one pool of this many places serves the children of all tasks
abbrev pub ShareOne : ℕ → List Moments → Type 0
ShareOne most [] = Unit {0}
ShareOne most (m ∷ ms) = IsSomeAnd m.pool (λ pool. (pool.most ≡ most) × All (λ n. n.pool ≡ Some pool) ms)

-- The order of moments under an allowance of this many children: first all tasks are prepared, for which nothing is started; then they are
-- raced at the same time; then one after the other is shown.
pub record Together (most : ℕ) (start : World) (ms : List Moments) (finish : World) : Type 0 where
  pub pool : ShareOne most ms
  pub ready : World
  pub prepared : ArePrepared (files_of start) ms (files_of ready)
  pub spared : NoneStarted start.yard ready.yard
  pub silent : ready ≡ with_yard (with_files start (files_of ready)) ready.yard
  pub shown : AreShown ready ms finish

-- The order of moments, where the words ask for an allowance, and where they don't. Under one the turns after a failed call of the sink may
-- have been prepared and raced before it.
abbrev pub Follows : Option ℕ → (ℕ → Type 0) → List Turn → List Moments → World → World → Exit → Type 0
Follows None may_read turns ms start finish exit = OneByOne start ms finish
Follows (Some most) may_read turns ms start finish exit =
    (untold : List Moments) × ((untold ≡ []) ⊎ (exit ≡ Cut)) × AreUntold may_read (length ms) (drop (length ms) turns) untold × Together most start (ms ++ untold) finish

-- the allowance that is asked for: at most this many children at a time, over all tasks of a file
abbrev pub allowance_of : Asked → Option ℕ
allowance_of (AskTasks t) = t.jobs
allowance_of (AskJudge j) = None
allowance_of (AskGen g) = None
allowance_of (AskNames file) = None

-- the turns ran, under this allowance, or one after the other
abbrev pub RanUnder : Option ℕ → (ℕ → Type 0) → World → List Turn → List TaskEnd → World → Exit → Type 0
RanUnder jobs may_read before turns ends after exit = (ms : List Moments) × TurnsRan may_read 0 0 turns ms ends exit × Follows jobs may_read turns ms before after exit

-- the turns ran, numbered from this one on, one after the other
abbrev pub Ran : (ℕ → Type 0) → ℕ → ℕ → World → List Turn → List TaskEnd → World → Exit → Type 0
Ran may_read number so_far before turns ends after exit = (ms : List Moments) × TurnsRan may_read number so_far turns ms ends exit × OneByOne before ms after

-- the exit status: exactly 16 where a failed call of the sink cut the run short
abbrev pub rc_of_exit : Exit → ℕ
rc_of_exit (Code rc) = rc
rc_of_exit Cut = 16

-- refused words give the usage line alone
pub record UsageAlone (before after : World) (done : Done) : Type 0 where
  pub rc : done.rc ≡ 16
  pub ends : done.ends.items ≡ []
  pub files : files_of after ≡ files_of before
  pub yard : SameYard before after
  pub sink : before.sink_faults ≤ after.sink_faults
  pub line : ((after.sink_faults ≡ before.sink_faults) × (after.taken ≡ grown before.taken usage_line))
      ⊎ (Rose before.sink_faults after.sink_faults × AreAll after.ended after.taken × GrownBySome before.taken after.taken usage_line)

-- These lines alone were printed, whole, with exit status 0; or by a failed call of the sink only a part of them, with 16; or, where memory
-- ran out for one, those before it, with 32.
pub record LinesAlone (before after : World) (lines : List (List ℕ)) (done : Done) : Type 0 where
  pub ends : done.ends.items ≡ []
  pub files : files_of after ≡ files_of before
  pub yard : SameYard before after
  pub sink : before.sink_faults ≤ after.sink_faults
  pub line : ((done.rc ≡ 0) × (after.sink_faults ≡ before.sink_faults) × (after.taken ≡ grown before.taken (concat lines)))
      ⊎ ((done.rc ≡ 16) × Rose before.sink_faults after.sink_faults × AreAll after.ended after.taken × GrownBySome before.taken after.taken (concat lines))
      ⊎ ((done.rc ≡ 32) × (after.sink_faults ≡ before.sink_faults) × GrownByFirst before.taken after.taken lines)

-- the names of a file's tasks, one a line
abbrev pub name_lines : List (List ℕ) → List (List ℕ)
name_lines names = map (λ name. name ++ 10 ∷ []) names

-- the sink and the yard are as they were
abbrev pub SameSink : World → World → Type 0
SameSink before now = now ≡ with_files before (files_of now)

-- the turns that words give ran
pub record TurnsDone (may_read : ℕ → Type 0) (before after : World) (done : Done) (asked : Asked) : Type 0 where
  pub middle : World
  pub turns : List Turn
  pub exit : Exit
  pub same_sink : SameSink before middle
  pub has_turns : HasTurns (files_of before) (files_of middle) asked turns
  pub ran : RanUnder (allowance_of asked) may_read middle turns done.ends.items after exit
  pub rc : done.rc ≡ rc_of_exit exit

-- The names of the tasks of the file that was got were printed; or the fault of a file that can't be got, or isn't a task file, is told.
abbrev pub NamesTold : (ℕ → Type 0) → World → World → List ℕ → Done → Type 0
NamesTold may_read before after file done =
    ((text : List ℕ) × (c : ConfigOf) × IsTextGot (files_of before) (files_of before) file (Ok text) × SbyText text c × LinesAlone before after (name_lines c.tasks) done)
    ⊎ TurnsDone may_read before after done (AskNames file)

-- what words ask was done: the usage line where they are refused; the names of a file's tasks; else the turns that they give
abbrev pub IsDoneAs : (ℕ → Type 0) → World → World → Done → Option Asked → Type 0
IsDoneAs may_read before after done None = UsageAlone before after done
IsDoneAs may_read before after done (Some (AskNames file)) = NamesTold may_read before after file done
IsDoneAs may_read before after done (Some (AskJudge j)) = TurnsDone may_read before after done (AskJudge j)
IsDoneAs may_read before after done (Some (AskTasks t)) = TurnsDone may_read before after done (AskTasks t)
IsDoneAs may_read before after done (Some (AskGen g)) = TurnsDone may_read before after done (AskGen g)

-- memory ran out for the words, and nothing was done
pub record IsNothing (before after : World) (done : Done) : Type 0 where
  pub rc : done.rc ≡ 32
  pub ends : done.ends.items ≡ []
  pub same : after ≡ before

-- what a call did, under a clock that may give these readings: what its words ask for; or nothing, since memory ran out
abbrev pub Did : (ℕ → Type 0) → World → World → List (List ℕ) → Done → Type 0
Did may_read before after words done = ((asked : Option Asked) × IsAsked words asked × IsDoneAs may_read before after done asked) ⊎ IsNothing before after done
