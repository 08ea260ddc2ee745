use Rattle.std.proofs.Common.{◌≡◌, ◌-◌, ◌++◌, take, drop, get_or, []}
use Rattle.design_trace.specs.Trace.{value_text}
use Rattle.design_trace.proofs.vcd_parts.give_bits.Given as goal

abbrev pub invariant-loop-place : goal.invariant-loop-place
invariant-loop-place g l = value_text (take l.count (drop l.low (get_or (g.V.Waveform.rows l.waveform) l.cycle [])))
    ≡ take l.place l.buffer ++ value_text (take (l.count - l.place) (drop l.low (get_or (g.V.Waveform.rows l.waveform) l.cycle [])))
