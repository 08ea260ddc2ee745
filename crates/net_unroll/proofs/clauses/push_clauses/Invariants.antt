use Rattle.std.proofs.Common.{◌≡◌, ◌++◌, take}
use Rattle.gate_graph.specs.Folding.{clauses_of}
use Rattle.net_unroll.proofs.clauses.push_clauses.Given as goal

abbrev pub invariant-loop-place : goal.invariant-loop-place
invariant-loop-place l = record {
  vars : l.formula.vars ≡ l.initial.formula.vars;
  clauses : l.formula.clauses ≡ l.initial.formula.clauses ++ take l.place (clauses_of l.lit l.gate);
}
