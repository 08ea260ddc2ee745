use Rattle.std.proofs.Common.{◌≡◌, ◌+◌, take, true}
use Rattle.cnf_form.specs.Cnf.{LitWithin}
use Rattle.gate_graph.specs.Kept.{lit_of}
use Rattle.net_pair.specs.Laying.{with_gates}
use Rattle.net_pair.specs.Pairing.{all_of, chain}
use Rattle.net_pair.proofs.cycles.push_all.Given as goal

abbrev pub invariant-loop-lit : goal.invariant-loop-lit
invariant-loop-lit l = record {
  circuit : l.circuit ≡ with_gates l.initial.circuit (chain (l.initial.circuit.formula.vars + 1) (lit_of 1 true) (take l.lit-index l.lits));
  all : l.all ≡ all_of (l.initial.circuit.formula.vars + 1) (lit_of 1 true) (take l.lit-index l.lits);
  within : LitWithin l.circuit.formula.vars l.all;
}
