use Rattle.std.proofs.Common.{◌≡◌, map, take}
use Rattle.frame_net.proofs.net.states_of.Given as goal

abbrev pub invariant-loop-place : goal.invariant-loop-place
invariant-loop-place l = record {
  starts : map (λ s. s.start) l.states.items ≡ take l.place l.starts;
  next : map (λ s. s.next) l.states.items ≡ take l.place l.next;
}
