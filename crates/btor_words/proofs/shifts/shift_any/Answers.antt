use Rattle.std.proofs.Common.{◌≤◌, max, arith}
use Rattle.sby_bits.specs.Rows.{value}
use Rattle.cell_table.specs.Cells.{any_shift_fn}
use Rattle.btor_words.proofs.Emitting.{both, last, still}
use Rattle.btor_words.proofs.CellRows.{any_whole}
use Rattle.btor_words.proofs.shifts.shift_any.Goals as goal

pub moved-requires-clause-by : goal.moved-requires-clause-by
moved-requires-clause-by c = still (both c.in_ok-own.ensures.row.adds c.in_ok-long.ensures.row.adds) c.requires.b

pub returns-clause-row : goal.returns-clause-row
returns-clause-row c =
    let s = c.max-size.ensures in
    let e = c.max-most.ensures in
    last 20 (λ vs. any_shift_fn c.args.width (max c.args.a.width c.args.width) (value c.args.signed (vs c.args.a.nid)) (value c.args.by_signed (vs c.args.b.nid))) c.requires.a.btor
    (both (both c.in_ok-own.ensures.row.adds c.in_ok-long.ensures.row.adds) c.in_ok-shifted.ensures.row.adds) c.in_ok-word.ensures.row (omega arith)
    (λ vs h p.
    let high : c.max-size.result ≤ c.max-most.result = omega arith in
    let low : c.args.width ≤ c.max-most.result = omega arith in
    any_whole c.in_ok-long.long.width c.max-most.result c.max-size.result (max c.args.a.width c.args.width) c.args.width (vs c.args.a.nid) (vs c.in_ok-own.own.nid) (vs c.in_ok-long.long.nid) (vs c.in_ok-shifted.shifted.nid) c.args.signed (value c.args.by_signed (vs c.args.b.nid))
    c.in_ok-long.ensures.row.size s high low p.0.0 p.0.1 p.1)
