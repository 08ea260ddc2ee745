use Rattle.std.proofs.Common.{◌≡◌, take}
use Rattle.gate_graph.specs.Kept.{clauses_from}
use Rattle.net_unroll.proofs.encoding.Encoded.formula.Given as goal

abbrev pub invariant-loop-entry : goal.invariant-loop-entry
invariant-loop-entry l = record {
  vars : l.formula.vars ≡ l.self.vars;
  clauses : l.formula.clauses ≡ clauses_from (take l.entry-index l.self.gates);
}
