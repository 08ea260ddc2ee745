use Rattle.std.proofs.Common.{◌≡◌}
use Rattle.word_model.specs.Nodes.{AreNodes}
use Rattle.word_model.proofs.nodes.push_nodes.Given as goal

abbrev pub invariant-loop-place : goal.invariant-loop-place
invariant-loop-place l = record {
  made : AreNodes l.fn.flat l.order l.place l.draft.nodes;
  rest : l.draft ≡ record l.fn.draft { nodes = l.draft.nodes };
}
