use Rattle.std.proofs.Common.{◌≤◌, arith, length}
use Rattle.sby_bits.specs.Rows.{num, value}
use Rattle.cell_table.specs.Cells.{left_shift_fn}
use Rattle.btor_words.proofs.Emitting.{both, last, still, word_long}
use Rattle.btor_words.proofs.CellRows.{up_whole}
use Rattle.btor_words.proofs.shifts.shift_left.Goals as goal

pub resize-requires-3-clause-a : goal.resize-requires-3-clause-a
resize-requires-3-clause-a c = still (both c.in_ok-own.ensures.row.adds c.in_ok-left.ensures.row.adds) c.requires.b

pub join-requires-clause-a : goal.join-requires-clause-a
join-requires-clause-a c = still c.in_ok-right.ensures.row.adds c.in_ok-left.ensures.row.word

pub returns-clause-row : goal.returns-clause-row
returns-clause-row c =
    let e = c.max-most.ensures in
    last 10 (λ vs. left_shift_fn c.args.width (value c.args.signed (vs c.args.a.nid)) (num (vs c.args.b.nid))) c.requires.a.btor
    (both (both (both c.in_ok-own.ensures.row.adds c.in_ok-left.ensures.row.adds) c.in_ok-right.ensures.row.adds) c.in_ok-moved.ensures.row.adds) c.in_ok-word.ensures.row (omega arith)
    (λ vs h p.
    let lb : length (vs c.args.b.nid) ≤ c.max-most.result = (let l = word_long vs c.requires.b h in omega arith) in
    let ly : c.args.width ≤ c.max-most.result = omega arith in
    up_whole c.max-most.result c.args.width (vs c.args.a.nid) (vs c.args.b.nid) (vs c.in_ok-own.own.nid) (vs c.in_ok-left.left.nid) (vs c.in_ok-right.right.nid) (vs c.in_ok-moved.moved.nid) c.args.signed ly lb p.0.0.0 p.0.0.1 p.0.1 p.1)
