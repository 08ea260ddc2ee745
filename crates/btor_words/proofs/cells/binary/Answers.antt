use Rattle.std.proofs.Common.{◌∙◌, sym, arith}
use Rattle.sby_bits.specs.Rows.{value}
use Rattle.cell_table.specs.Cells.{binary_fn}
use Rattle.btor_words.proofs.Emitting.{both, last, sized, still}
use Rattle.btor_words.proofs.CellRows.{binary_whole}
use Rattle.btor_words.proofs.cells.binary.Goals as goal

pub resize-requires-2-clause-a : goal.resize-requires-2-clause-a
resize-requires-2-clause-a c = still c.in_ok-left.ensures.row.adds c.requires.b

pub combined-requires-clause-left : goal.combined-requires-clause-left
combined-requires-clause-left c = still c.in_ok-right.ensures.row.adds c.in_ok-left.ensures.row.word

pub combined-requires-clause-widths : goal.combined-requires-clause-widths
combined-requires-clause-widths c = c.in_ok-right.ensures.row.size ∙ sym c.in_ok-left.ensures.row.size

pub returns-clause-row : goal.returns-clause-row
returns-clause-row c =
    let w = c.args.width in
    last 8 (λ vs. binary_fn c.args.kind w (value c.args.signed (vs c.args.a.nid)) (value c.args.signed (vs c.args.b.nid))) c.requires.a.btor (both c.in_ok-left.ensures.row.adds c.in_ok-right.ensures.row.adds) (sized c.in_ok-word.ensures.row c.in_ok-left.ensures.row.size) (omega arith)
    (λ vs h p. binary_whole c.args.kind c.in_ok-left.left.width w (vs c.args.a.nid) (vs c.args.b.nid) (vs c.in_ok-left.left.nid) (vs c.in_ok-right.right.nid) c.args.signed c.in_ok-left.ensures.row.size p.0 p.1)
