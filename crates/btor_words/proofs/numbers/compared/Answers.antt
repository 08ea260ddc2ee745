use Rattle.std.proofs.Common.{◌∙◌, [], ◌∷◌, arith}
use Rattle.sby_bits.specs.Rows.{value}
use Rattle.cell_table.specs.Cells.{is_compared}
use Rattle.btor_words.proofs.Emitting.{renamed, word_long}
use Rattle.btor_words.proofs.CellRows.{compared_plain, compared_turned}
use Rattle.btor_words.proofs.numbers.compared.Goals as goal

pub join-requires-clause-fits : goal.join-requires-clause-fits
join-requires-clause-fits c = rw c.requires.widths (c.comparison_of-operator.ensures.fits c.args.left.width)

pub join-requires-2-clause-fits : goal.join-requires-2-clause-fits
join-requires-2-clause-fits c = rw c.requires.widths (c.comparison_of-operator.ensures.fits c.args.left.width)

pub returns-then-turned-clause-row : goal.returns-then-turned-clause-row
returns-then-turned-clause-row c =
    let w = c.args.left.width in
    renamed 2 (λ vs. is_compared c.args.kind w (value c.args.signed (vs c.args.left.nid)) (value c.args.signed (vs c.args.right.nid)) ∷ []) c.requires.left.btor c.in_ok-bit.ensures.row (omega arith)
    (λ vs h. compared_turned c.args.kind c.comparison_of-operator.result.0 c.comparison_of-operator.result.1 c.args.signed w (vs c.args.left.nid) (vs c.args.right.nid) c.comparison_of-operator.ensures c.if-turned.true (word_long vs c.requires.left h) (word_long vs c.requires.right h ∙ c.requires.widths))

pub returns-clause-row : goal.returns-clause-row
returns-clause-row c =
    let w = c.args.left.width in
    renamed 2 (λ vs. is_compared c.args.kind w (value c.args.signed (vs c.args.left.nid)) (value c.args.signed (vs c.args.right.nid)) ∷ []) c.requires.left.btor c.in_ok-bit-2.ensures.row (omega arith)
    (λ vs h. compared_plain c.args.kind c.comparison_of-operator.result.0 c.comparison_of-operator.result.1 c.args.signed w (vs c.args.left.nid) (vs c.args.right.nid) c.comparison_of-operator.ensures c.if-turned.false (word_long vs c.requires.left h) (word_long vs c.requires.right h ∙ c.requires.widths))
