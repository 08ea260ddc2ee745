use Rattle.std.proofs.Common.{◌≡◌, All, length}
use Rattle.cnf_form.specs.Cnf.{LitWithin}
use Rattle.gate_tests.proofs.tests.closing.inputs.Given as goal

abbrev pub invariant-loop : goal.invariant-loop
invariant-loop l = All (LitWithin l.gates.formula.vars) l.word.items × (length l.word.items ≡ l.counter)
