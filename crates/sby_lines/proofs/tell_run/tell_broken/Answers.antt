use Rattle.std.proofs.Common.{[], ◌∷◌}
use Rattle.std.proofs.lemmas.Result.{err_from_is_err_and}
use Rattle.sby_lines.specs.Broken.{broken_line}
use Rattle.sby_lines.proofs.TellLemmas.{tells_then, tells_stopped}
use Rattle.sby_lines.proofs.tell_run.tell_broken.Goals as goal

pub returns-in_err-tell_assertion : goal.returns-in_err-tell_assertion
returns-in_err-tell_assertion g c = let p = err_from_is_err_and c.from_residual.result c.from_residual.ensures.1 in
    rw (p.1, p.2) (λ lines has. rw has.all (tells_stopped {T = Unit {0}} _ _ _ _ (broken_line c.args.name.now has.cell c.args.played.now ∷ []) has.traced _
    (c.in_err-tell_assertion.ensures has.cell has.is_broken)))

pub returns : goal.returns
returns g c = λ lines has. rw has.all (tells_then {T = Unit {0}} _ _ _ _ _ _ (broken_line c.args.name.now has.cell c.args.played.now ∷ []) has.traced tt _
    (c.in_ok-tell_assertion.ensures has.cell has.is_broken) (c.tell_trace.ensures has.traced has.is_trace))
