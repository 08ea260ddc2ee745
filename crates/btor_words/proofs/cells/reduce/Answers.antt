use Rattle.std.proofs.Common.{arith}
use Rattle.cell_table.specs.Cells.{bit_row, is_reduced}
use Rattle.btor_words.proofs.Emitting.{last}
use Rattle.btor_words.proofs.CellRows.{bit_whole}
use Rattle.btor_words.proofs.cells.reduce.Goals as goal

pub returns-clause-row : goal.returns-clause-row
returns-clause-row c =
    last 6 (λ vs. bit_row c.args.width (is_reduced c.args.kind (vs c.args.a.nid))) c.requires.a.btor c.in_ok-bit.ensures.row.adds c.in_ok-word.ensures.row (omega arith)
    (λ vs h p. bit_whole c.args.width (is_reduced c.args.kind (vs c.args.a.nid)) (vs c.in_ok-bit.bit.nid) p)
