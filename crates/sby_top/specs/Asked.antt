-- The turns that words ask.
use Rattle.std.specs.Prelude.{◌≡◌, ◌⊎◌, ℕ, List, [], ◌∷◌, Some, None, Result, Ok, Err}
use Rattle.sby_file.specs.Faults.{faults_of, first}
use Rattle.sby_file.specs.declared.fault.SbyFault.{SbyFault}
use Rattle.sby_lines.specs.declared.early.Early.{Early}
use Rattle.sby_lines.specs.declared.early.Early.TheVariants.{Sby, Memory}
use Rattle.sby_words.specs.Folders.{IsStem, task_folder}
use Rattle.sby_words.specs.Requests.{AskGen, AskJudge, AskNames, AskTasks, Request as Asked}
use Rattle.sby_top.specs.Generated.{AreGenTurns}
use Rattle.sby_top.specs.Turns.{AreFileTurns, IsTextGot, Refused, Run, Turn, judge_task}
use Rattle.sby_top.specs.World.{FilesOf}

-- The fault that `--dumptasks` tells of a file, by the moment at which it is told: it couldn't be got; it was, and its text's first fault
-- is this one; or memory ran out for reading it.
abbrev pub IsNamesFault : FilesOf → FilesOf → List ℕ → Early → Type 0
IsNamesFault before now file early =
    IsTextGot before now file (Err early)
    ⊎ ((text : List ℕ) × (fault : SbyFault) × IsTextGot before now file (Ok text) × (first (faults_of text) ≡ Some fault) × (early ≡ Sby fault))
    ⊎ ((now ≡ before) × (early ≡ Memory))

-- The turns that words ask, by the moment at which the first of them begins: `--judge` has one task; a task file is got first; that of
-- `--gen N` is the generated one; `--dumptasks` has a turn for the fault of a file alone, which is told under the stem.
abbrev pub HasTurns : FilesOf → FilesOf → Asked → List Turn → Type 0
HasTurns before now (AskJudge j) turns = (now ≡ before) × (turns ≡ Run (judge_task j) ∷ [])
HasTurns before now (AskTasks t) turns =
    (got : Result (List ℕ) Early) × IsTextGot before now t.file got × ((stem : List ℕ) × IsStem t.file stem × AreFileTurns stem t.directory t.names got turns)
HasTurns before now (AskGen g) turns = (now ≡ before) × AreGenTurns g turns
HasTurns before now (AskNames file) turns =
    (early : Early) × IsNamesFault before now file early × ((stem : List ℕ) × IsStem file stem × (turns ≡ Refused (task_folder stem None []) early ∷ []))
