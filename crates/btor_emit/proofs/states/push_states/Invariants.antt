use Rattle.std.proofs.Common.{◌≡◌}
use Rattle.btor_emit.specs.Emitting.{AreStates}
use Rattle.btor_emit.proofs.Edging.{edge_at}
use Rattle.btor_emit.proofs.states.push_states.Given as goal

abbrev pub invariant-loop-register : goal.invariant-loop-register
invariant-loop-register l = record {
  first : l.first ≡ edge_at l.model l.register;
  states : AreStates l.model l.draft l.table l.made.items l.first;
}
