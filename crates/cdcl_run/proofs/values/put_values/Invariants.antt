use Rattle.cdcl_run.specs.Text.{literals_from}
use Rattle.cdcl_run.proofs.Rows.{RowsPut, values_before}
use Rattle.cdcl_run.proofs.values.put_values.Given as goal

abbrev pub invariant-loop-var : goal.invariant-loop-var
invariant-loop-var g l = RowsPut (record { taken = g.S.Sink.taken l.fn.sink; faults = g.S.Sink.faults l.fn.sink; gathered = l.fn.piece }) (record { taken = g.S.Sink.taken l.sink; faults = g.S.Sink.faults l.sink; gathered = l.piece })
    (literals_from 1 (values_before l.values l.var))
