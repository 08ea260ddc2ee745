use Rattle.std.proofs.Common.{◌≡◌, ◌++◌}
use Rattle.design_reader.specs.Runs.{free_digits}
use Rattle.design_reader.proofs.parameter_digits.push_free.Given as goal

abbrev pub invariant-loop-place : goal.invariant-loop-place
invariant-loop-place l = l.row.items ≡ l.fn.row.items ++ free_digits l.first l.place
