use Rattle.std.proofs.Common.{◌-◌, ◌≤◌, length, take}
use Rattle.cdcl_run.specs.Output.{Puts}
use Rattle.cdcl_run.proofs.output.put.Given as goal

abbrev pub invariant-loop-at : goal.invariant-loop-at
invariant-loop-at g l = record {
  within : l.at ≤ length l.text;
  puts : Puts (record { taken = g.S.Sink.taken l.fn.sink; faults = g.S.Sink.faults l.fn.sink; gathered = l.fn.piece })
      (record { taken = g.S.Sink.taken l.sink; faults = g.S.Sink.faults l.sink; gathered = l.piece }) (take l.at l.text);
}

abbrev pub decreases-loop-at : goal.decreases-loop-at
decreases-loop-at g l = length l.text - l.at
