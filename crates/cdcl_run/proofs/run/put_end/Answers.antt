use Rattle.std.proofs.Common.{◌++◌, refl, sym, subst, inr}
use Rattle.cdcl_run.specs.Searching.{IsEnd, values_to}
use Rattle.cdcl_run.specs.Output.{OutputOf}
use Rattle.cdcl_run.specs.Text.{AreValueLines, literals_from, satisfiable_line, unsatisfiable_line}
use Rattle.cdcl_run.proofs.Putting.{breaks_more, on_err, puts_both, puts_breaks}
use Rattle.cdcl_run.proofs.Rows.{some_lines}
use Rattle.cdcl_run.proofs.run.put_end.Goals as goal

pub returns-in_ok-put_values-in-Sat-clause-end : goal.returns-in_ok-put_values-in-Sat-clause-end
returns-in_ok-put_values-in-Sat-clause-end g c =
    let e = c.in_ok-put_values-in-Sat.ensures.ok in
    let text = satisfiable_line ++ e.0 in
    let first : OutputOf = record { taken = g.S.Sink.taken c.args.sink.now; faults = g.S.Sink.faults c.args.sink.now; gathered = c.args.piece.now } in
    let here : OutputOf = record { taken = g.S.Sink.taken c.put-in-Sat.new.sink; faults = g.S.Sink.faults c.put-in-Sat.new.sink; gathered = c.put-in-Sat.new.piece } in
    let last : OutputOf = record { taken = g.S.Sink.taken c.put_values.new.sink; faults = g.S.Sink.faults c.put_values.new.sink; gathered = c.put_values.new.piece } in (
      text,
      subst (λ s. IsEnd c.args.vars s text 10) (sym c.in-Sat.is) (refl, (e.0, subst (λ z. AreValueLines (literals_from 1 (values_to c.args.vars z)) e.0) c.deref.ensures.value e.1, refl)),
      puts_both first here last satisfiable_line e.0 c.in_ok-put-in-Sat.ensures.ok e.2,
    )

pub returns-in_err-put-in-Unsat-clause-failed : goal.returns-in_err-put-in-Unsat-clause-failed
returns-in_err-put-in-Unsat-clause-failed g c =
    let first : OutputOf = record { taken = g.S.Sink.taken c.args.sink.now; faults = g.S.Sink.faults c.args.sink.now; gathered = c.args.piece.now } in
    let last : OutputOf = record { taken = g.S.Sink.taken c.put.new.sink; faults = g.S.Sink.faults c.put.new.sink; gathered = c.put.new.piece } in
    on_err c.from_residual.result (inr (unsatisfiable_line, 20, subst (λ s. IsEnd c.args.vars s unsatisfiable_line 20) (sym c.in-Unsat.is) (refl, refl), c.in_err-put-in-Unsat.ensures.failed))

pub returns-in_err-put-in-Sat-clause-failed : goal.returns-in_err-put-in-Sat-clause-failed
returns-in_err-put-in-Sat-clause-failed g c =
    let first : OutputOf = record { taken = g.S.Sink.taken c.args.sink.now; faults = g.S.Sink.faults c.args.sink.now; gathered = c.args.piece.now } in
    let last : OutputOf = record { taken = g.S.Sink.taken c.put-in-Sat.new.sink; faults = g.S.Sink.faults c.put-in-Sat.new.sink; gathered = c.put-in-Sat.new.piece } in
    let w = some_lines (literals_from 1 (values_to c.args.vars c.in-Sat.values.items)) in
    let text = satisfiable_line ++ w.0 in
    on_err c.from_residual-in_err-put-in-Sat.result (inr (text, 10, subst (λ s. IsEnd c.args.vars s text 10) (sym c.in-Sat.is) (refl, (w.0, w.1, refl)), breaks_more first last satisfiable_line w.0 c.in_err-put-in-Sat.ensures.failed))

pub returns-in_err-put_values-in-Sat-clause-failed : goal.returns-in_err-put_values-in-Sat-clause-failed
returns-in_err-put_values-in-Sat-clause-failed g c =
    let first : OutputOf = record { taken = g.S.Sink.taken c.args.sink.now; faults = g.S.Sink.faults c.args.sink.now; gathered = c.args.piece.now } in
    let here : OutputOf = record { taken = g.S.Sink.taken c.put-in-Sat.new.sink; faults = g.S.Sink.faults c.put-in-Sat.new.sink; gathered = c.put-in-Sat.new.piece } in
    let last : OutputOf = record { taken = g.S.Sink.taken c.put_values.new.sink; faults = g.S.Sink.faults c.put_values.new.sink; gathered = c.put_values.new.piece } in
    let e = c.in_err-put_values-in-Sat.ensures.failed in
    let text = satisfiable_line ++ e.0 in
    let lines = subst (λ z. AreValueLines (literals_from 1 (values_to c.args.vars z)) e.0) c.deref.ensures.value e.1 in
    on_err c.from_residual-in_err-put_values-in-Sat.result (inr (text, 10, subst (λ s. IsEnd c.args.vars s text 10) (sym c.in-Sat.is) (refl, (e.0, lines, refl)), puts_breaks first here last satisfiable_line e.0 c.in_ok-put-in-Sat.ensures.ok e.2))
