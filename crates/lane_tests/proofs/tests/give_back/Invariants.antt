use Rattle.std.proofs.Common.{length}
use Rattle.lane_tests.proofs.tests.give_back.Given as goal

abbrev pub decreases-loop-bay : goal.decreases-loop-bay
decreases-loop-bay g l = length l.bays.items
