use Rattle.std.proofs.Common.{[], ◌∷◌}
use Rattle.std.proofs.lemmas.Result.{err_from_is_err_and}
use Rattle.sby_lines.specs.Lines.{done_line, unput_lines}
use Rattle.sby_lines.specs.Told.{asked_by}
use Rattle.sby_lines.proofs.TellLemmas.{tells_stopped, tells_then}
use Rattle.sby_top.proofs.run.tell_last.Goals as goal

pub returns-in_err-tell_unput : goal.returns-in_err-tell_unput
returns-in_err-tell_unput g c = let p = err_from_is_err_and c.from_residual.result c.from_residual.ensures.1 in
    rw (p.1, p.2) (λ expect. tells_stopped {T = Unit {0}} _ _ _ _ (unput_lines (asked_by c.args.heading.now expect) c.args.unput.now) _ _ (c.in_err-tell_unput.ensures expect))

pub returns : goal.returns
returns g c = λ expect. tells_then {T = Unit {0}} _ _ _ _ _ _ (unput_lines (asked_by c.args.heading.now expect) c.args.unput.now) (done_line c.args.heading.now.name.now c.args.status c.args.rc ∷ []) tt _
    (c.in_ok-tell_unput.ensures expect) c.tell_done.ensures
