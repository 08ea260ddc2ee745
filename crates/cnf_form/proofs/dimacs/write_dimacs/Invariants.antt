use Rattle.std.proofs.Common.{◌≡◌, ◌++◌, drop}
use Rattle.std.specs.Prelude.{string_bytes}
use Rattle.cnf_form.specs.Dimacs.{body_text, dimacs_text}
use Rattle.cnf_form.proofs.dimacs.write_dimacs.Given as goal

abbrev pub invariant-loop-place : goal.invariant-loop-place
invariant-loop-place l = string_bytes l.text ++ body_text (drop l.place l.clauses) ≡ dimacs_text l.formula
