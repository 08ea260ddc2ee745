-- What a call promises whoever reads its output, claim by claim.
use Rattle.std.specs.Prelude.{◌≡◌, ◌≢◌, ◌⊎◌, ℕ, List, Some, slice_get}
use Rattle.design_core.specs.Shape.{DesignOf}
use Rattle.design_meaning.specs.Claims.{NeverBreak, NoBreak}
use Rattle.sby_terms.specs.declared.names.Mode.{Mode}
use Rattle.sby_terms.specs.declared.names.Mode.TheVariants.{Bmc, Cover, Prove, ProveInv}
use Rattle.sby_terms.specs.declared.names.Status.{Status}
use Rattle.sby_terms.specs.declared.names.Status.TheVariants.{Fail, Memory, Pass}
use Rattle.sby_top.specs.Claims.{AllExpected, AreExpected, AreShownReaches, HasTold, IsDesignOf, IsEvent, IsNamedUnreached, IsShownBreak, IsTaskOf, TurnHasRun}
use Rattle.sby_words.specs.Requests.{Request as Asked}
use Rattle.sby_words.specs.Words.{IsAsked}
use Rattle.sby_top.specs.Run.{TurnsDone}
use Rattle.sby_top.specs.Task.{TaskOf}
use Rattle.sby_top.specs.Turns.{Turn}
use Rattle.sby_top.specs.World.{Moments, World}
use Rattle.sby_top.specs.declared.outcome.Done.{Done}
use Rattle.sby_top.specs.declared.outcome.TaskEnd.{TaskEnd}

-- a claim holds of each task that the words ask and that was run, by its moments and its end
abbrev pub OfTasks : (ℕ → Type 0) → World → World → List (List ℕ) → Done → (Moments → TaskOf → TaskEnd → Type 0) → Type 0
OfTasks may_read before after words done claim = (m : Moments) (task : TaskOf) (end : TaskEnd) → IsTaskOf may_read before after words done m task end → claim m task end

-- PASS of bmc: the text reads a flat design of which no run of more cycles than are skipped breaks an assertion within the depth.
abbrev pub PassOfBmc : Moments → TaskOf → TaskEnd → Type 0
PassOfBmc m task end = end.status ≡ Pass → task.request.mode ≡ Bmc → (d : DesignOf) × IsDesignOf m task end d × NoBreak d task.request.span.skip task.request.span.depth

-- prove, by induction or by an invariant
abbrev pub IsProve : Mode → Type 0
IsProve mode = (mode ≡ Prove) ⊎ (mode ≡ ProveInv)

-- PASS of prove: the text reads a flat design of which no run breaks an assertion, whatever its length.
abbrev pub PassOfProve : Moments → TaskOf → TaskEnd → Type 0
PassOfProve m task end = end.status ≡ Pass → IsProve task.request.mode → (d : DesignOf) × IsDesignOf m task end d × NeverBreak d

-- PASS of cover: for each cover statement a run that reaches it was printed, or a part of the lines where a call of the sink failed.
abbrev pub PassOfCover : Moments → TaskOf → TaskEnd → Type 0
PassOfCover m task end = end.status ≡ Pass → task.request.mode ≡ Cover → AreShownReaches m task end

-- FAIL of bmc: a run was printed, or a part of the lines where a call of the sink failed: all of its cycles are assumed, and its last
-- breaks the assertion that is named.
abbrev pub FailOfBmc : Moments → TaskOf → TaskEnd → Type 0
FailOfBmc m task end = end.status ≡ Fail → task.request.mode ≡ Bmc → IsShownBreak m task end

-- FAIL of prove: as of bmc.
abbrev pub FailOfProve : Moments → TaskOf → TaskEnd → Type 0
FailOfProve m task end = end.status ≡ Fail → IsProve task.request.mode → IsShownBreak m task end

-- FAIL of cover: a statement was named that no run of at most the depth's cycles reaches.
abbrev pub FailOfCover : Moments → TaskOf → TaskEnd → Type 0
FailOfCover m task end = end.status ≡ Fail → task.request.mode ≡ Cover → IsNamedUnreached m task end

-- The last line says the status: of a task, where the sink tells what it took, no call of it failed, and memory did not run out.
abbrev pub LastLine : Moments → TaskOf → TaskEnd → Type 0
LastLine m task end = (status : Status) (rc : ℕ) → end.status ≢ Memory → HasTold m task.request.name status rc → end.status ≡ status

-- Each other status names its event: UNKNOWN, TIMEOUT and ERROR, by the ends of the jobs or the fault before the lanes.
abbrev pub NamesItsEvent : (ℕ → Type 0) → World → World → List (List ℕ) → Done → Type 0
NamesItsEvent may_read before after words done =
    (m : Moments) (task : TaskOf) (end : TaskEnd) → (is : IsTaskOf may_read before after words done m task end) → IsEvent may_read is.place m task end end.status

-- Each end is that of the turn at its place: of a task that the words ask, or of a fault that is told.
abbrev pub EachEndHasTurn : (ℕ → Type 0) → World → World → List (List ℕ) → Done → Type 0
EachEndHasTurn may_read before after words done =
    (place : ℕ) (end : TaskEnd) → slice_get done.ends.items place ≡ Some end → (m : Moments) × (turn : Turn) × (had : TurnHasRun may_read before after words done m turn end) × (had.place ≡ place)

-- Exit status 0: all that the words ask ended as expected. The turns are those that ran, however the call is looked at.
abbrev pub ZeroIsExpected : (ℕ → Type 0) → World → World → List (List ℕ) → Done → Type 0
ZeroIsExpected may_read before after words done =
    done.rc ≡ 0 → AllExpected before words done
    × ((asked : Asked) → IsAsked words (Some asked) → (turned : TurnsDone may_read before after done asked) → AreExpected turned.turns done.ends.items)

-- What a call for these words promises, from one moment to another. That valid certificates give their verdict is said by the laws of
-- `laws.rt`.
pub record Promises (may_read : ℕ → Type 0) (before after : World) (words : List (List ℕ)) (done : Done) : Type 0 where
  pub every_end : EachEndHasTurn may_read before after words done
  pub pass_of_bmc : OfTasks may_read before after words done PassOfBmc
  pub pass_of_prove : OfTasks may_read before after words done PassOfProve
  pub pass_of_cover : OfTasks may_read before after words done PassOfCover
  pub fail_of_bmc : OfTasks may_read before after words done FailOfBmc
  pub fail_of_prove : OfTasks may_read before after words done FailOfProve
  pub fail_of_cover : OfTasks may_read before after words done FailOfCover
  pub other : NamesItsEvent may_read before after words done
  pub printed : OfTasks may_read before after words done LastLine
  pub exit_status : ZeroIsExpected may_read before after words done
