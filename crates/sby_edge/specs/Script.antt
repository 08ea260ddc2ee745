-- What a child is going to do, where a yard tells it.
use Rattle.std.specs.Prelude.{ℕ, List, Option}
use Rattle.sby_edge.specs.declared.script.Exit.{Exit}
use Rattle.sby_edge.specs.declared.script.CallFault.{CallFault}

-- a second child, that of `lane` of `task` (the own one where there is none) for the same job: `instead` is the stream where both
-- aren't live at one moment within `turns` turns
pub record GateOf : Type 0 where
  pub task : Option ℕ
  pub lane : ℕ
  pub turns : ℕ
  pub instead : List ℕ

-- the bytes that a child writes; after how many it stalls, if it does; its gate, its exit, and its calls that fail; the byte at
-- which a read that begins before it ends, if there is one; and the proof file that it leaves
pub record ScriptOf : Type 0 where
  pub bytes : List ℕ
  pub stalls : Option ℕ
  pub gate : Option GateOf
  pub exit : Exit
  pub faults : List CallFault
  pub cut : Option ℕ
  pub proof : List ℕ
