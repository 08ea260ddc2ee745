use Rattle.std.proofs.Common.{◌-◌, length}
use Rattle.gate_words.specs.Division.{IsDivided}
use Rattle.gate_words.proofs.division.all_places.Given as goal

abbrev pub invariant-loop-step : goal.invariant-loop-step
invariant-loop-step l = IsDivided l.fn.gates l.gates l.a l.b l.step (length l.a - l.step) l.bits.items l.rest.items
