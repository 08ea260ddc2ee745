use Rattle.std.proofs.Common.{◌≡◌, map}
use Rattle.std.specs.List.{range_with_len}
use Rattle.sby_terms.specs.declared.names.JobName.TheVariants.{Base, Cover}
use Rattle.judge.proofs.encoding.names_of.Given as goal

abbrev pub invariant-loop-i : goal.invariant-loop-i
invariant-loop-i l = l.names.items ≡ map Base (range_with_len 0 l.i)

abbrev pub invariant-loop-k : goal.invariant-loop-k
invariant-loop-k l = l.names.items ≡ map Cover (range_with_len 0 l.k)
