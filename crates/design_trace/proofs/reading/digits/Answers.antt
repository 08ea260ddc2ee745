use Rattle.std.proofs.Common.{◌≡◌, ◌<◌, ◌∙◌, ℕ, inl, inr, length, sym, subst, true≢false, arith}
use Rattle.std.specs.Prelude.{slice_range}
use Rattle.design_trace.specs.Reading.{IsDigits}
use Rattle.design_trace.proofs.Readings.{digits_more, digits_stop, reads_range, stop_at}
use Rattle.design_trace.proofs.reading.digits.Goals as goal
use Rattle.design_trace.proofs.reading.digits.Goals.{then-place-bytes-via-then-place-bytes, then-place-bytes-via-else-place-bytes+then-not-is_digit}

pub returns-then-place-bytes : goal.returns-then-place-bytes
returns-then-place-bytes c =
    let read = c.loop.invariant in
    stop_at c.at.result c.loop.place _ c.at.ensures
    (digits_stop c.args.bytes.now c.args.at c.loop.place c.loop.counter c.args.width read.0 c.loop-test.true read.1 read.2
    (elim c.then-place-bytes.branch [
      | then-place-bytes-via-then-place-bytes w ↦ inl (omega (arith, w.if-place-bytes.true))
      | then-place-bytes-via-else-place-bytes+then-not-is_digit w ↦
          inr (omega (arith, read.1, w.if-place-bytes.false), λ allowed. true≢false (sym (w.is_digit.ensures.1 allowed) ∙ w.if-not-is_digit.true))
    ]))

pub loop-preserved : goal.loop-preserved
loop-preserved c =
    let read = c.loop.invariant in
    let lt : c.loop.place < length c.args.bytes.now = omega (arith, read.1, c.if-place-bytes.false) in (
      omega (arith, read.0),
      omega (arith, lt),
      digits_more c.args.bytes.now c.args.at c.loop.place c.loop.counter (omega (arith, read.0)) lt read.2 (c.is_digit.ensures.0 c.if-not-is_digit.false),
    )

pub returns : goal.returns
returns c =
    let read = c.loop.invariant in
    let all : c.loop.counter ≡ c.args.width = omega arith in (
      reads_range c.args.bytes.now c.args.at c.loop.place (omega (arith, read.0)) read.1,
      subst (λ (n : ℕ). IsDigits n (slice_range c.args.bytes.now c.args.at c.loop.place)) all read.2,
    )
