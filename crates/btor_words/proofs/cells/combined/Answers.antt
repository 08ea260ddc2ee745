use Rattle.std.proofs.Common.{◌∙◌, arith}
use Rattle.sby_bits.specs.Rows.{value}
use Rattle.std.specs.Prelude.{false}
use Rattle.cell_table.specs.Cells.{binary_fn}
use Rattle.btor_words.proofs.Emitting.{last, sized, word_long}
use Rattle.btor_words.proofs.CellRows.{combined_row}
use Rattle.btor_words.proofs.cells.combined.Goals as goal

pub join-requires-clause-fits : goal.join-requires-clause-fits
join-requires-clause-fits c = rw c.requires.widths (c.operator_of-operator.ensures.fits c.args.left.width)

pub returns-clause-row : goal.returns-clause-row
returns-clause-row c =
    let w = c.args.left.width in
    last 4 (λ vs. binary_fn c.args.kind w (value false (vs c.args.left.nid)) (value false (vs c.args.right.nid))) c.requires.left.btor c.in_ok-both.ensures.row.adds (sized c.in_ok-word.ensures.row c.in_ok-both.ensures.row.size) (omega arith)
    (λ vs h p. combined_row c.args.kind c.operator_of-operator.result.0 c.operator_of-operator.result.1 w (vs c.args.left.nid) (vs c.args.right.nid) (vs c.in_ok-both.both.nid) c.operator_of-operator.ensures (word_long vs c.requires.left h) (word_long vs c.requires.right h ∙ c.requires.widths) p)
