use Rattle.btor_emit.proofs.Aliasing.{AreAliasedTo}
use Rattle.btor_emit.proofs.table.alias.Given as goal

abbrev pub invariant-loop-bit : goal.invariant-loop-bit
invariant-loop-bit l = AreAliasedTo l.fn.table l.table l.places l.others l.bit
