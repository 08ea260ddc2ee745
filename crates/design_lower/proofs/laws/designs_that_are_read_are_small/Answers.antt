use Rattle.std.proofs.Common.{arith}
use Rattle.design_reader.proofs.Room.{reading_kept}
use Rattle.design_lower.proofs.CellCount.{few_cells}
use Rattle.design_lower.proofs.laws.designs_that_are_read_are_small.Goals as goal

pub returns-clause-bits : goal.returns-clause-bits
returns-clause-bits c = λ text d r. (reading_kept r.tokens _ _ r.whole).bits

pub returns-clause-cells : goal.returns-clause-cells
returns-clause-cells c = λ text d r. omega (arith, few_cells text d r, r.limit)
