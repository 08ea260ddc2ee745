use Rattle.std.proofs.Common.{◌/◌, ◌^◌, ◌-◌, length}
use Rattle.gate_words.specs.Words.{IsHalved}
use Rattle.gate_words.proofs.choices.bmux.Given as goal

abbrev pub invariant-loop-step : goal.invariant-loop-step
invariant-loop-step l = IsHalved l.fn.gates l.gates (length l.a / 2 ^ length l.s) l.a l.s (length l.s - l.step) l.word.items
