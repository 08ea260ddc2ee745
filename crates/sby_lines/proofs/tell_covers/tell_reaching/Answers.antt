use Rattle.std.proofs.Common.{[], ◌∷◌}
use Rattle.std.proofs.lemmas.Result.{err_from_is_err_and}
use Rattle.sby_lines.specs.Reached.{reached_line}
use Rattle.sby_lines.proofs.TellLemmas.{tells_then, tells_stopped}
use Rattle.sby_lines.proofs.tell_covers.tell_reaching.Goals as goal

pub returns-in_err-tell_reached : goal.returns-in_err-tell_reached
returns-in_err-tell_reached g c = let p = err_from_is_err_and c.from_residual.result c.from_residual.ensures.1 in
    rw (p.1, p.2) (λ cell lines at has. rw has.2 (tells_stopped {T = Unit {0}} _ _ _ _ (reached_line c.args.name.now cell c.args.played.now ∷ []) has.0 _
    (c.in_err-tell_reached.ensures cell at)))

pub returns : goal.returns
returns g c = λ cell lines at has. rw has.2 (tells_then {T = Unit {0}} _ _ _ _ _ _ (reached_line c.args.name.now cell c.args.played.now ∷ []) has.0 tt _
    (c.in_ok-tell_reached.ensures cell at) (c.tell_trace.ensures has.0 has.1))
