use Rattle.std.proofs.Common.{inl, inr, arith}
use Rattle.design_trace.proofs.Readings.{literal_stops, stop_at}
use Rattle.design_trace.proofs.reading.literal.Goals as goal
use Rattle.design_trace.proofs.reading.literal.Goals.{then-place-bytes-via-then-place-bytes, then-place-bytes-via-else-place-bytes+then-bytes-place}

pub returns-then-place-bytes : goal.returns-then-place-bytes
returns-then-place-bytes c =
    let read = c.loop-byte.invariant in
    stop_at c.at.result c.loop-byte.place _ c.at.ensures
    (literal_stops c.args.bytes.now c.args.text.now c.args.at c.loop-byte.place c.loop-byte.byte-index read.0 c.loop-byte-test.true read.2
    (elim c.then-place-bytes.branch [
      | then-place-bytes-via-then-place-bytes w ↦ inl (omega (arith, w.if-place-bytes.true))
      | then-place-bytes-via-else-place-bytes+then-bytes-place w ↦ inr (omega (arith, read.1, w.if-place-bytes.false), w.if-bytes-place.true)
    ]))
