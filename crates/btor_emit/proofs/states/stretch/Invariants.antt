use Rattle.std.proofs.Common.{◌≡◌, ◌-◌, ◌<◌, ◌≤◌, ℕ}
use Rattle.btor_emit.specs.States.{is_known}
use Rattle.btor_emit.proofs.states.stretch.Given as goal

abbrev pub invariant-loop-next : goal.invariant-loop-next
invariant-loop-next l = record {
  some : l.first < l.next;
  most : l.next ≤ l.end;
  alike : (k : ℕ) → l.first ≤ k → k < l.next → is_known l.starts k ≡ is_known l.starts l.first;
}

abbrev pub decreases-loop-next : goal.decreases-loop-next
decreases-loop-next l = l.end - l.next
