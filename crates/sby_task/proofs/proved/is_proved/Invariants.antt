use Rattle.std.proofs.Common.{◌≡◌, drop}
use Rattle.sby_task.specs.Proved.{is_proved}
use Rattle.sby_task.proofs.proved.is_proved.Given as goal

abbrev pub invariant-loop-row : goal.invariant-loop-row
invariant-loop-row l = is_proved (drop l.row-index l.rows) ≡ is_proved l.rows
