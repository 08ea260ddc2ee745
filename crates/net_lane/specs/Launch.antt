-- What starts on an engine elsewhere tell.
use Rattle.std.specs.Prelude.{ℕ, List, [], Option, None, option_map}
use Rattle.sby_edge.specs.Child.{BayOf, StartOf}
use Rattle.sby_edge.specs.Script.{ScriptOf}
use Rattle.sby_edge.specs.declared.script.Exit.TheVariants.{Code}
use Rattle.net_link.specs.Frame.{Sizing, payload}

-- the script of a job whose connection gives these bytes: those of the answer's pieces
abbrev pub script_of : List ℕ → ScriptOf
script_of bytes = record { bytes = payload (Sizing []) bytes; stalls = None; gate = None; exit = Code 0; faults = []; cut = None; proof = [] }

-- what a bay of such starts tells, where the dial tells what its connections give
abbrev pub bay_of : Option (List ℕ) → ℕ → ℕ → List StartOf → Option BayOf
bay_of told task lane starts = option_map (λ bytes. record { task = task; lane = lane; scripts = λ _. script_of bytes; starts = starts }) told

-- a bay of such starts: what the dial's connections give, where it tells; its task and its lane; its starts, the first one first; and its
-- counts of failed calls, and the dial's
pub record NetLaunchOf : Type 0 where
  pub gives : Option (List ℕ)
  pub task : ℕ
  pub lane : ℕ
  pub started : List StartOf
  pub starts : ℕ
  pub reads : ℕ
  pub holds : ℕ
  pub dial_faults : ℕ

-- what it tells
abbrev pub told_by : NetLaunchOf → Option BayOf
told_by bay = bay_of bay.gives bay.task bay.lane bay.started
