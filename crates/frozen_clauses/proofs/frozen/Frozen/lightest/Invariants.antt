use Rattle.std.proofs.Common.{◌<◌, length}
use Rattle.frozen_clauses.proofs.frozen.Frozen.lightest.Given as goal

abbrev pub invariant-loop-place : goal.invariant-loop-place
invariant-loop-place l = l.lightest < length l.clause
