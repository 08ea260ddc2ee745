use Rattle.std.proofs.Common.{◌^◌}
use Rattle.std.specs.Prelude.{pos}
use Rattle.std.specs.Int.{int_div_euclid}
use Rattle.cnf_form.specs.Cnf.{lit_in}
use Rattle.sby_bits.specs.Words.{filled_number}
use Rattle.sby_bits.proofs.Numbers.{bit_of}
use Rattle.gate_rows.specs.Literals.{row_of}
use Rattle.gate_rows.specs.Sums.{IsBuilt}
use Rattle.gate_rows.proofs.places.moved_down.Given as goal

abbrev pub invariant-loop-place : goal.invariant-loop-place
invariant-loop-place l = IsBuilt l.gates l.gates (λ x j. bit_of (int_div_euclid (filled_number (row_of x l.a) (lit_in x l.fill)) (pos (2 ^ l.from))) j) l.place l.word.items
