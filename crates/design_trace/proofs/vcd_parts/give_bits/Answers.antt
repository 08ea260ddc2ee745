use Rattle.std.proofs.Common.{◌∙◌, ◌+◌, ◌-◌, ◌++◌, ℕ, [], ap, sym, arith, get_or, set, take, drop}
use Rattle.design_trace.specs.Trace.{value_text}
use Rattle.design_trace.proofs.Coming.{bits_more}
use Rattle.design_trace.proofs.vcd_parts.give_bits.Goals as goal

pub loop-place-preserved : goal.loop-place-preserved
loop-place-preserved g c =
    let row = get_or (g.V.Waveform.rows c.args.waveform.now) c.args.cycle [] in
    let place = c.loop-place.place in
    let count = c.args.count in
    let few = c.min-many.ensures in
    bits_more row c.args.low count place (count - 1 - place) c.loop-place.buffer c.bit.result (omega arith) (omega arith) c.requires.bits c.bit.ensures c.loop-place.invariant
    ∙ ap (λ (byte : ℕ). take (place + 1) (set c.loop-place.buffer place byte) ++ value_text (take (count - (place + 1)) (drop c.args.low row))) (sym c.digit.ensures)
