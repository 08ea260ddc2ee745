use Rattle.std.proofs.Common.{◌≡◌, ◌++◌, drop}
use Rattle.std.specs.Prelude.{string_bytes}
use Rattle.cnf_form.specs.Dimacs.{clause_text}
use Rattle.cnf_form.proofs.dimacs.push_clause.Given as goal

abbrev pub invariant-loop-l : goal.invariant-loop-l
invariant-loop-l l = string_bytes l.text ++ clause_text (drop l.l-index l.clause) ≡ string_bytes l.fn.text ++ clause_text l.clause
