use Rattle.std.proofs.Common.{take}
use Rattle.cdcl_run.specs.Output.{Puts}
use Rattle.cdcl_run.proofs.HintedClauses.{ids_words}
use Rattle.cdcl_run.proofs.hinted.put_ids.Given as goal

abbrev pub invariant-loop-id : goal.invariant-loop-id
invariant-loop-id g l = Puts (record { taken = g.S.Sink.taken l.fn.sink; faults = g.S.Sink.faults l.fn.sink; gathered = l.fn.piece }) (record { taken = g.S.Sink.taken l.sink; faults = g.S.Sink.faults l.sink; gathered = l.piece })
    (ids_words (take l.id-index l.ids))
