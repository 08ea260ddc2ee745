use Rattle.std.proofs.Common.{◌≤◌, arith, length}
use Rattle.sby_bits.specs.Rows.{value}
use Rattle.cell_table.specs.Cells.{divide_fn}
use Rattle.btor_words.proofs.Emitting.{both, last, still, word_long}
use Rattle.btor_words.proofs.CellRows.{divide_whole}
use Rattle.btor_words.proofs.numbers.divide.Goals as goal

pub resize-requires-2-clause-a : goal.resize-requires-2-clause-a
resize-requires-2-clause-a c = still c.in_ok-left.ensures.row.adds c.requires.b

pub join-requires-clause-a : goal.join-requires-clause-a
join-requires-clause-a c = still c.in_ok-right.ensures.row.adds c.in_ok-left.ensures.row.word

pub join-requires-clause-fits : goal.join-requires-clause-fits
join-requires-clause-fits c = rw (c.in_ok-left.ensures.row.size, c.in_ok-right.ensures.row.size) (c.division_of.ensures.fits c.max-most.result)

pub returns-clause-row : goal.returns-clause-row
returns-clause-row c =
    let e = c.max-most.ensures in
    let f = c.max-operands.ensures in
    last 8 (λ vs. divide_fn c.args.kind c.args.width (value c.args.signed (vs c.args.a.nid)) (value c.args.signed (vs c.args.b.nid))) c.requires.a.btor
    (both (both c.in_ok-left.ensures.row.adds c.in_ok-right.ensures.row.adds) c.in_ok-whole.ensures.row.adds) c.in_ok-word.ensures.row (omega arith)
    (λ vs h p.
    let la : length (vs c.args.a.nid) ≤ c.max-most.result = (let l = word_long vs c.requires.a h in omega arith) in
    let lb : length (vs c.args.b.nid) ≤ c.max-most.result = (let l = word_long vs c.requires.b h in omega arith) in
    let ly : c.args.width ≤ c.max-most.result = omega arith in
    divide_whole c.args.kind c.division_of.result c.max-most.result c.args.width (vs c.args.a.nid) (vs c.args.b.nid) (vs c.in_ok-left.left.nid) (vs c.in_ok-right.right.nid) (vs c.in_ok-whole.whole.nid) c.args.signed c.division_of.ensures la lb ly p.0.0 p.0.1 p.1)
