use Rattle.cell_table.specs.Cells.{is_reduced}
use Rattle.gate_rows.specs.Literals.{row_of}
use Rattle.gate_words.proofs.Folding.{flag_means}
use Rattle.gate_words.proofs.predicates.reduce.Goals as goal

pub returns-clause-row : goal.returns-clause-row
returns-clause-row c = flag_means c.reduced.new.gates c.args.y (λ x. is_reduced c.args.kind (row_of x c.args.a.now)) c.in_ok-flag.flag c.in_ok-flag_word.field-0.items c.in_ok-flag.ensures.bit c.in_ok-flag_word.ensures
