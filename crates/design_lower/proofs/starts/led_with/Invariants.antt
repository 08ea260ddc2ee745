use Rattle.design_lower.specs.Progress.{IsLedWith}
use Rattle.design_lower.proofs.starts.led_with.Given as goal

abbrev pub invariant-loop-place : goal.invariant-loop-place
invariant-loop-place l = IsLedWith l.leaders l.root l.place l.marks.items
