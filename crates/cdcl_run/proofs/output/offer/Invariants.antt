use Rattle.std.proofs.Common.{◌≡◌, ◌-◌, ◌≤◌, length, take}
use Rattle.cdcl_run.specs.Output.{grown}
use Rattle.cdcl_run.proofs.output.offer.Given as goal

abbrev pub invariant-loop-at : goal.invariant-loop-at
invariant-loop-at g l = record {
  within : l.at ≤ length l.text;
  taken : g.S.Sink.taken l.sink ≡ grown (g.S.Sink.taken l.fn.sink) (take l.at l.text);
  still : g.S.Sink.faults l.sink ≡ g.S.Sink.faults l.fn.sink;
}

abbrev pub decreases-loop-at : goal.decreases-loop-at
decreases-loop-at g l = length l.text - l.at
