use Rattle.std.proofs.Common.{◌≡◌}
use Rattle.btor_emit.proofs.Edging.{edge_at}
use Rattle.witness_judge.specs.Outlining.{AreStretchesTo}
use Rattle.witness_judge.proofs.outline.stretches.Given as goal

abbrev pub invariant-loop-register : goal.invariant-loop-register
invariant-loop-register l = record {
  first : l.first ≡ edge_at l.model l.register;
  made : AreStretchesTo l.model l.made.items l.first;
}
