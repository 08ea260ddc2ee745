use Rattle.std.proofs.Common.{◌≡◌, map, take}
use Rattle.std.specs.Prelude.{Contains, string_bytes}
use Rattle.sby_top.proofs.turns.is_task.Given as goal

abbrev pub invariant-loop-task : goal.invariant-loop-task
invariant-loop-task l = record {
  none : Contains (map string_bytes (take l.task-index l.task-items)) l.name → ⊥;
  items : map string_bytes l.task-items ≡ l.config.tasks;
}
