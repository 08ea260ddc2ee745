use Rattle.std.proofs.Common.{◌≡◌, ◌-◌, ◌++◌, ◌∷◌, arith, not, subst}
use Rattle.std.proofs.lemmas.Result.{on_err_weaker, on_ok_weaker}
use Rattle.cnf_form.specs.Cnf.{LitOf}
use Rattle.cnf_form.specs.Dimacs.{literal_text}
use Rattle.cdcl_core.specs.Solving.{valued}
use Rattle.cdcl_run.specs.Output.{Breaks, OutputOf, Puts}
use Rattle.cdcl_run.specs.Searching.{values_to}
use Rattle.cdcl_run.specs.Text.{break_text, literals_from}
use Rattle.cdcl_run.proofs.Putting.{on_err}
use Rattle.cdcl_run.proofs.Rows.{RowsPut, begin_broken, end_broken, next_broken, rows_ended, rows_more, literals_more, literals_count, literals_rest, values_before}
use Rattle.cdcl_run.proofs.values.put_values.Goals as goal

pub loop-var-preserved : goal.loop-var-preserved
loop-var-preserved g c =
    let values = c.args.values.now in
    let v = c.loop-var.var in
    let first : OutputOf = record { taken = g.S.Sink.taken c.args.sink.now; faults = g.S.Sink.faults c.args.sink.now; gathered = c.args.piece.now } in
    let here : OutputOf = record { taken = g.S.Sink.taken c.loop-var.sink; faults = g.S.Sink.faults c.loop-var.sink; gathered = c.loop-var.piece } in
    let last : OutputOf = record { taken = g.S.Sink.taken c.put_next.new.sink; faults = g.S.Sink.faults c.put_next.new.sink; gathered = c.put_next.new.piece } in
    let l : LitOf = record { var = v; negated = not (valued values v) } in
    let put = subst (λ z. Puts here last (break_text v ++ 32 ∷ literal_text (record { var = v; negated = not z }))) c.value_of.ensures c.in_ok-put_next.ensures.ok in
    subst (RowsPut first last) (literals_more values v c.loop-var.auto.var)
    (rows_more first here last (literals_from 1 (values_before values v)) l v (literals_count values v c.loop-var.auto.var) c.loop-var.invariant put)

pub returns-in_err-put_next-clause-failed : goal.returns-in_err-put_next-clause-failed
returns-in_err-put_next-clause-failed g c =
    let values = c.args.values.now in
    let v = c.loop-var.var in
    let first : OutputOf = record { taken = g.S.Sink.taken c.args.sink.now; faults = g.S.Sink.faults c.args.sink.now; gathered = c.args.piece.now } in
    let here : OutputOf = record { taken = g.S.Sink.taken c.loop-var.sink; faults = g.S.Sink.faults c.loop-var.sink; gathered = c.loop-var.piece } in
    let last : OutputOf = record { taken = g.S.Sink.taken c.put_next.new.sink; faults = g.S.Sink.faults c.put_next.new.sink; gathered = c.put_next.new.piece } in
    let l : LitOf = record { var = v; negated = not (valued values v) } in
    let rest = literals_rest c.args.vars values v c.loop-var.auto.var (omega arith) in
    let lits = literals_from 1 (values_before values v) in
    let broke = subst (λ z. Breaks here last (break_text v ++ 32 ∷ literal_text (record { var = v; negated = not z }))) c.value_of.ensures c.in_err-put_next.ensures.failed in
    let w = next_broken first here last lits rest.0 (literals_from 1 (values_to c.args.vars values)) l v (literals_count values v c.loop-var.auto.var) rest.1 c.loop-var.invariant broke in
    on_err c.from_residual-in_err-put_next.result w

pub returns-in_err-put-clause-failed : goal.returns-in_err-put-clause-failed
returns-in_err-put-clause-failed g c =
    let first : OutputOf = record { taken = g.S.Sink.taken c.args.sink.now; faults = g.S.Sink.faults c.args.sink.now; gathered = c.args.piece.now } in
    let last : OutputOf = record { taken = g.S.Sink.taken c.put.new.sink; faults = g.S.Sink.faults c.put.new.sink; gathered = c.put.new.piece } in
    on_err c.from_residual.result (begin_broken first last (literals_from 1 (values_to c.args.vars c.args.values.now)) c.in_err-put.ensures.failed)

pub returns-clause-ok : goal.returns-clause-ok
returns-clause-ok g c =
    let values = c.args.values.now in
    let v = c.loop-var.var in
    let first : OutputOf = record { taken = g.S.Sink.taken c.args.sink.now; faults = g.S.Sink.faults c.args.sink.now; gathered = c.args.piece.now } in
    let here : OutputOf = record { taken = g.S.Sink.taken c.loop-var.sink; faults = g.S.Sink.faults c.loop-var.sink; gathered = c.loop-var.piece } in
    let last : OutputOf = record { taken = g.S.Sink.taken c.put-2.new.sink; faults = g.S.Sink.faults c.put-2.new.sink; gathered = c.put-2.new.piece } in
    let upto : v - 1 ≡ c.args.vars = omega arith in
    let rows = subst (λ z. RowsPut first here (literals_from 1 (values_to z values))) upto c.loop-var.invariant in
    on_ok_weaker c.put-2.result (rows_ended first here last (literals_from 1 (values_to c.args.vars values)) rows) c.put-2.ensures.ok

pub returns-clause-failed : goal.returns-clause-failed
returns-clause-failed g c =
    let values = c.args.values.now in
    let v = c.loop-var.var in
    let first : OutputOf = record { taken = g.S.Sink.taken c.args.sink.now; faults = g.S.Sink.faults c.args.sink.now; gathered = c.args.piece.now } in
    let here : OutputOf = record { taken = g.S.Sink.taken c.loop-var.sink; faults = g.S.Sink.faults c.loop-var.sink; gathered = c.loop-var.piece } in
    let last : OutputOf = record { taken = g.S.Sink.taken c.put-2.new.sink; faults = g.S.Sink.faults c.put-2.new.sink; gathered = c.put-2.new.piece } in
    let upto : v - 1 ≡ c.args.vars = omega arith in
    let rows = subst (λ z. RowsPut first here (literals_from 1 (values_to z values))) upto c.loop-var.invariant in
    on_err_weaker c.put-2.result (end_broken first here last (literals_from 1 (values_to c.args.vars values)) rows) c.put-2.ensures.failed
