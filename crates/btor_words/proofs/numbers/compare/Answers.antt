use Rattle.std.proofs.Common.{◌≤◌, ◌∙◌, max, sym, arith, length}
use Rattle.sby_bits.specs.Rows.{value}
use Rattle.cell_table.specs.Cells.{bit_row, is_compared}
use Rattle.btor_words.proofs.Emitting.{both, last, still, word_long}
use Rattle.btor_words.proofs.CellRows.{compare_whole}
use Rattle.btor_words.proofs.numbers.compare.Goals as goal

pub resize-requires-2-clause-a : goal.resize-requires-2-clause-a
resize-requires-2-clause-a c = still c.in_ok-left.ensures.row.adds c.requires.b

pub compared-requires-clause-left : goal.compared-requires-clause-left
compared-requires-clause-left c = still c.in_ok-right.ensures.row.adds c.in_ok-left.ensures.row.word

pub compared-requires-clause-widths : goal.compared-requires-clause-widths
compared-requires-clause-widths c = c.in_ok-right.ensures.row.size ∙ sym c.in_ok-left.ensures.row.size

pub returns-clause-row : goal.returns-clause-row
returns-clause-row c =
    let e = c.max-most.ensures in
    last 8 (λ vs. bit_row c.args.width (is_compared c.args.kind (max c.args.a.width c.args.b.width) (value c.args.signed (vs c.args.a.nid)) (value c.args.signed (vs c.args.b.nid)))) c.requires.a.btor
    (both (both c.in_ok-left.ensures.row.adds c.in_ok-right.ensures.row.adds) c.in_ok-bit.ensures.row.adds) c.in_ok-word.ensures.row (omega arith)
    (λ vs h p.
    let la : length (vs c.args.a.nid) ≤ c.max-most.result = (let l = word_long vs c.requires.a h in omega arith) in
    let lb : length (vs c.args.b.nid) ≤ c.max-most.result = (let l = word_long vs c.requires.b h in omega arith) in
    compare_whole c.args.kind c.in_ok-left.left.width c.max-most.result (max c.args.a.width c.args.b.width) c.args.width (vs c.args.a.nid) (vs c.args.b.nid) (vs c.in_ok-left.left.nid) (vs c.in_ok-right.right.nid) (vs c.in_ok-bit.bit.nid) c.args.signed
    c.in_ok-left.ensures.row.size e la lb p.0.0 p.0.1 p.1)
