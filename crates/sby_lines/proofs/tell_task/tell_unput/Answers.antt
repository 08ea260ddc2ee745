use Rattle.std.proofs.lemmas.Option.{slice_get-get_or}
use Rattle.std.proofs.lemmas.Result.{err_from_is_err_and}
use Rattle.sby_lines.specs.Lines.{unput_line}
use Rattle.sby_lines.proofs.TaskLemmas.{mapped_end, mapped_next}
use Rattle.sby_lines.proofs.TellLemmas.{told_all, told_more, told_start, told_stopped}
use Rattle.sby_lines.proofs.tell_task.tell_unput.Goals as goal

pub loop-number-init : goal.loop-number-init
loop-number-init g c = record { told = told_start _ _ _ }

pub returns-in_err-tell_not_written : goal.returns-in_err-tell_not_written
returns-in_err-tell_not_written g c = let p = err_from_is_err_and c.from_residual.result c.from_residual.ensures.1 in
    rw (p.1, p.2) (λ expect. told_stopped {T = Unit {0}} {U = Unit {0}} _ _ _ _ _ _ _ _ _ _ _
    (mapped_next (unput_line c.args.heading.now.name.now c.args.heading.now.mode) c.args.unput.now c.loop-number.number-index _ (slice_get-get_or c.args.unput.now c.loop-number.number-index _ c.loop-number-test.true)) c.loop-number.invariant.told c.in_err-tell_not_written.ensures)

pub loop-number-preserved : goal.loop-number-preserved
loop-number-preserved g c = record {
  told = told_more _ _ _ _ _ _ _ _ _ _
      (mapped_next (unput_line c.args.heading.now.name.now c.args.heading.now.mode) c.args.unput.now c.loop-number.number-index _ (slice_get-get_or c.args.unput.now c.loop-number.number-index _ c.loop-number-test.true)) c.loop-number.invariant.told c.in_ok-tell_not_written.ensures;
}

pub returns : goal.returns
returns g c = λ expect. told_all _ _ _ _ _ _ (mapped_end (unput_line c.args.heading.now.name.now c.args.heading.now.mode) c.args.unput.now c.loop-number.number-index c.loop-number-test.false) c.loop-number.invariant.told
