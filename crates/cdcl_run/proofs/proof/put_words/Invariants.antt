use Rattle.std.proofs.Common.{take}
use Rattle.cdcl_run.specs.Output.{Puts}
use Rattle.cdcl_run.specs.Text.{words_text}
use Rattle.cdcl_run.proofs.proof.put_words.Given as goal

abbrev pub invariant-loop-l : goal.invariant-loop-l
invariant-loop-l g l = Puts (record { taken = g.S.Sink.taken l.fn.sink; faults = g.S.Sink.faults l.fn.sink; gathered = l.fn.piece }) (record { taken = g.S.Sink.taken l.sink; faults = g.S.Sink.faults l.sink; gathered = l.piece })
    (words_text (take l.l-index l.clause))
