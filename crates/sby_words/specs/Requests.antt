-- What the words can ask, form by form.
use Rattle.std.specs.Prelude.{ℕ, List, Option}
use Rattle.sby_terms.specs.declared.names.Mode.{Mode}

-- `--judge DESIGN MODE DEPTH [STREAM ..]`: the work folder's text, the design's path, the mode, the depth, and the paths of the stored streams
pub record JudgeRequest : Type 0 where
  pub folder : List ℕ
  pub design : List ℕ
  pub mode : Mode
  pub depth : ℕ
  pub streams : List (List ℕ)

-- `FILE.sby [TASK ..]`: DIR where it is given, how many children may run at a time where it is given, the task file's path, and the names of the tasks
pub record TaskRequest : Type 0 where
  pub directory : Option (List ℕ)
  pub jobs : Option ℕ
  pub file : List ℕ
  pub names : List (List ℕ)

-- `--gen N`: DIR where it is given, and N
pub record GenRequest : Type 0 where
  pub directory : Option (List ℕ)
  pub size : ℕ

-- what words ask; `--dumptasks FILE.sby` asks by the file's path alone
pub data Request : Type 0 where
  AskJudge : JudgeRequest → Request
  AskTasks : TaskRequest → Request
  AskNames : List ℕ → Request
  AskGen : GenRequest → Request
