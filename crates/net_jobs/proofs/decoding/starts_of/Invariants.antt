use Rattle.std.proofs.Common.{◌≡◌, map, take}
use Rattle.std.specs.Prelude.{slice_index_or, false}
use Rattle.bit_net.specs.declared.node.State.{State}
use Rattle.net_jobs.specs.Jobs.{start_bits}
use Rattle.net_jobs.proofs.decoding.starts_of.Given as goal

abbrev pub invariant-loop-place : goal.invariant-loop-place
invariant-loop-place l = l.starts.items ≡ start_bits (map (λ (s : State). s.start) (take l.place l.states)) 0 (λ k. slice_index_or l.bits k false)
