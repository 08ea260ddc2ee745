use Rattle.std.proofs.Common.{refl}
use Rattle.sby_lines.proofs.counts.counts_of.Goals as goal

pub returns-clause-counts : goal.returns-clause-counts
returns-clause-counts c = rw (c.register_bits.ensures, c.statements.ensures, c.statements-2.ensures, c.statements-3.ensures, c.cells-cells.ensures.cells) refl
