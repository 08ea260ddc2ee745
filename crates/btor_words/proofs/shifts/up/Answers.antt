use Rattle.std.proofs.Common.{◌*◌, ◌^◌, ◌∙◌, ap, arith, length}
use Rattle.std.specs.Prelude.{pos, ◌-ℤ◌}
use Rattle.sby_bits.specs.Rows.{Row, fit, num}
use Rattle.sby_bits.proofs.Numbers.{length-fit}
use Rattle.btor_words.proofs.Emitting.{both, last, still}
use Rattle.btor_words.proofs.CellRows.{up_row}
use Rattle.btor_words.proofs.shifts.up.Goals as goal

pub join-requires-clause-a : goal.join-requires-clause-a
join-requires-clause-a c = still (both c.in_ok-opposite.ensures.row.adds c.in_ok-places.ensures.row.adds) c.requires.word

pub returns-clause-row : goal.returns-clause-row
returns-clause-row c =
    let w = c.args.word.width in
    let v = c.args.by.width in
    last 6 (λ vs. fit w (pos (num (vs c.args.word.nid) * 2 ^ num (fit v (pos 0 -ℤ pos (num (vs c.args.by.nid))))))) c.requires.word.btor (both c.in_ok-opposite.ensures.row.adds c.in_ok-places.ensures.row.adds) c.in_ok-moved.ensures.row (omega arith)
    (λ vs h p. up_row w v (vs c.args.word.nid) (vs c.args.by.nid) (vs c.in_ok-opposite.opposite.nid) (vs c.in_ok-places.places.nid) c.requires.wide p.0 (ap (λ (z : Row). length z) p.0 ∙ length-fit v (pos 0 -ℤ pos (num (vs c.args.by.nid)))) p.1)
