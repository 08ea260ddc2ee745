use Rattle.std.proofs.Common.{arith, length, refl}
use Rattle.std.proofs.lemmas.Option.{slice_get-get_or, slice_get_read}
use Rattle.frame_gates.proofs.Reading.{written_more}
use Rattle.frame_gates.proofs.rows.write_row.Goals as goal

pub loop-k-preserved : goal.loop-k-preserved
loop-k-preserved c =
    let n = c.requires.as_many in
    let h = c.loop-k-test.true in
    written_more c.args.places.now c.args.row.now c.loop-k.k c.args.table.now c.loop-k.table _ c.index-row-k.result c.requires.below c.requires.distinct
    (slice_get-get_or c.args.places.now c.loop-k.k _ h) (slice_get_read c.args.row.now (length c.args.row.now) c.loop-k.k c.index-row-k.result refl (omega arith) c.index-row-k.is) c.loop-k.invariant
