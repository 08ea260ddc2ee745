use Rattle.std.proofs.Common.{arith, [], ◌∷◌}
use Rattle.cell_table.specs.Cells.{is_reduced}
use Rattle.btor_words.proofs.Emitting.{last, sized}
use Rattle.btor_words.proofs.CellRows.{reduced_row}
use Rattle.btor_words.proofs.cells.reduced.Goals as goal

pub apply-requires-clause-fits : goal.apply-requires-clause-fits
apply-requires-clause-fits c = c.reduction_of-operator.ensures.fits c.args.a.width

pub returns-clause-row : goal.returns-clause-row
returns-clause-row c =
    last 4 (λ vs. is_reduced c.args.kind (vs c.args.a.nid) ∷ []) c.requires.a.btor c.in_ok-bit.ensures.row.adds (sized c.in_ok-word.ensures.row c.in_ok-bit.ensures.row.size) (omega arith)
    (λ vs h p. reduced_row c.args.kind c.reduction_of-operator.result.0 c.reduction_of-operator.result.1 (vs c.args.a.nid) (vs c.in_ok-bit.bit.nid) c.reduction_of-operator.ensures p)
