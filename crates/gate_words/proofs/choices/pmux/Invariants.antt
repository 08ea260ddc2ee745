use Rattle.std.proofs.Common.{◌≡◌, ◌*◌, ◌-◌, length}
use Rattle.gate_words.specs.Words.{IsChosen}
use Rattle.gate_words.proofs.choices.pmux.Given as goal

abbrev pub invariant-loop-step : goal.invariant-loop-step
invariant-loop-step l = record {
  place : l.from ≡ length l.a * (length l.s - l.step);
  chosen : IsChosen l.fn.gates l.gates l.a l.b l.s l.step (length l.s - l.step) l.word.items;
}
