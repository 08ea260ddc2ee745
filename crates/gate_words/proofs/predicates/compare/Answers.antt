use Rattle.std.proofs.Common.{length}
use Rattle.std.specs.Prelude.{max}
use Rattle.sby_bits.specs.Rows.{value}
use Rattle.cell_table.specs.Cells.{is_compared}
use Rattle.gate_rows.specs.Literals.{row_of}
use Rattle.gate_words.proofs.Folding.{flag_means}
use Rattle.gate_words.proofs.predicates.compare.Goals as goal

pub returns-clause-row : goal.returns-clause-row
returns-clause-row c = flag_means c.wide_compared.new.gates c.args.y (λ x. is_compared c.args.kind (max (length c.args.a.now) (length c.args.b.now)) (value c.args.signed (row_of x c.args.a.now)) (value c.args.signed (row_of x c.args.b.now))) c.in_ok-flag.flag c.in_ok-flag_word.field-0.items c.in_ok-flag.ensures.bit c.in_ok-flag_word.ensures
