use Rattle.std.proofs.Common.{◌≡◌, ◌≤◌, ◌+◌, ◌++◌, drop, length, take}
use Rattle.design_trace.proofs.reading.literal.Given as goal

abbrev pub invariant-loop-byte : goal.invariant-loop-byte
invariant-loop-byte l = (l.place ≡ l.at + l.byte-index) × (l.place ≤ length l.bytes) × (drop l.at l.bytes ≡ take l.byte-index l.text ++ drop l.place l.bytes)
