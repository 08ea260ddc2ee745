use Rattle.std.proofs.Common.{arith}
use Rattle.cell_table.specs.Cells.{bit_row, is_logic}
use Rattle.btor_words.proofs.Emitting.{both, last, still}
use Rattle.btor_words.proofs.CellRows.{logic_row}
use Rattle.btor_words.proofs.cells.logic.Goals as goal

pub apply-requires-2-clause-a : goal.apply-requires-2-clause-a
apply-requires-2-clause-a c = still c.in_ok-left.ensures.row.adds c.requires.b

pub join-requires-clause-a : goal.join-requires-clause-a
join-requires-clause-a c = still c.in_ok-right.ensures.row.adds c.in_ok-left.ensures.row.word

pub join-requires-clause-fits : goal.join-requires-clause-fits
join-requires-clause-fits c = rw (c.in_ok-left.ensures.row.size, c.in_ok-right.ensures.row.size) c.logic_of.ensures.fits

pub returns-clause-row : goal.returns-clause-row
returns-clause-row c =
    last 8 (λ vs. bit_row c.args.width (is_logic c.args.kind (vs c.args.a.nid) (vs c.args.b.nid))) c.requires.a.btor (both (both c.in_ok-left.ensures.row.adds c.in_ok-right.ensures.row.adds) c.in_ok-bit.ensures.row.adds) c.in_ok-word.ensures.row (omega arith)
    (λ vs h p. logic_row c.args.kind c.logic_of.result c.args.width (vs c.args.a.nid) (vs c.args.b.nid) (vs c.in_ok-left.left.nid) (vs c.in_ok-right.right.nid) (vs c.in_ok-bit.bit.nid) c.logic_of.ensures p.0.0 p.0.1 p.1)
