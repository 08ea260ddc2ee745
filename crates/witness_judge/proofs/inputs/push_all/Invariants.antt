use Rattle.std.proofs.Common.{◌≡◌, ◌++◌, false, map, take}
use Rattle.std.specs.Prelude.{slice_index_or}
use Rattle.witness_judge.proofs.inputs.push_all.Given as goal

abbrev pub invariant-loop-place : goal.invariant-loop-place
invariant-loop-place l = l.bits.items ≡ l.fn.bits.items ++ map (λ p. slice_index_or l.values p false) (take l.place-index l.all)
