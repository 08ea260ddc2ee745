use Rattle.std.proofs.Common.{◌≡◌, ◌≤◌, ◌+◌, length}
use Rattle.std.specs.Prelude.{slice_range}
use Rattle.design_trace.specs.Reading.{IsDigits}
use Rattle.design_trace.proofs.reading.digits.Given as goal

abbrev pub invariant-loop : goal.invariant-loop
invariant-loop l = (l.place ≡ l.at + l.counter) × (l.place ≤ length l.bytes) × IsDigits l.counter (slice_range l.bytes l.at l.place)
