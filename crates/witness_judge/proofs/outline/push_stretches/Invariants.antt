use Rattle.std.proofs.Common.{◌-◌, ◌≤◌, ◌⊎◌}
use Rattle.btor_emit.specs.States.{IsEdge, IsTurn}
use Rattle.witness_judge.specs.Outlining.{AreStretchesTo}
use Rattle.witness_judge.proofs.outline.push_stretches.Given as goal

abbrev pub invariant-loop-next : goal.invariant-loop-next
invariant-loop-next l = record {
  low : l.first ≤ l.next;
  high : l.next ≤ l.end;
  begin : IsEdge l.model l.next ⊎ IsTurn l.model l.next;
  made : AreStretchesTo l.model l.made.items l.next;
}

abbrev pub decreases-loop-next : goal.decreases-loop-next
decreases-loop-next l = l.end - l.next
