use Rattle.std.proofs.Common.{◌≡◌, take}
use Rattle.hint_chain.specs.Kept.{kept}
use Rattle.hint_chain.proofs.ids.kept.Given as goal

abbrev pub invariant-loop-k : goal.invariant-loop-k
invariant-loop-k l = record { so_far : l.kept.items ≡ kept l.ids 0 (take l.k l.core.slots) }
