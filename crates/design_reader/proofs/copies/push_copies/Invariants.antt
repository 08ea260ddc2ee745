use Rattle.std.proofs.Common.{◌≡◌, ◌++◌, replicate}
use Rattle.design_reader.proofs.copies.push_copies.Given as goal

abbrev pub invariant-loop : goal.invariant-loop
invariant-loop g l = l.items.items ≡ l.fn.items.items ++ replicate l.counter l.item
