use Rattle.std.proofs.Common.{◌≡◌, ◌≤◌, length, take, ◌-◌}
use Rattle.proof_stream.specs.Passing.{Passes, starts_after}
use Rattle.proof_stream.proofs.text.pass.Given as goal

abbrev pub invariant-loop-i : goal.invariant-loop-i
invariant-loop-i l = record {
  within : l.i ≤ length l.bytes;
  passes : Passes l.initial.starts (take l.i l.bytes);
  starts : l.starts ≡ starts_after l.initial.starts (take l.i l.bytes);
}

abbrev pub decreases-loop-i : goal.decreases-loop-i
decreases-loop-i l = length l.bytes - l.i
