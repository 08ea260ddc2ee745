use Rattle.std.proofs.Common.{◌≡◌, ◌-◌, eqb, length, drop}
use Rattle.cnf_form.specs.Cnf.{Assignment, Satisfies, LitWithin, lit_in}
use Rattle.sby_bits.specs.Rows.{num}
use Rattle.gate_rows.specs.Literals.{row_of}
use Rattle.gate_words.specs.Division.{IsZeros}
use Rattle.gate_words.proofs.division.zeros_above.Given as goal

abbrev pub invariant-loop-step : goal.invariant-loop-step
invariant-loop-step l = record {
  zeros : IsZeros l.fn.gates l.gates l.b l.step l.zeros.items;
  within : LitWithin l.gates.formula.vars l.last;
  means : (x : Assignment) → Satisfies x l.gates.formula.clauses → lit_in x l.last ≡ eqb (num (drop (length l.b - l.step) (row_of x l.b))) 0;
}
