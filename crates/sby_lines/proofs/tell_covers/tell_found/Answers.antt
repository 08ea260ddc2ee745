use Rattle.std.proofs.Common.{sym, subst}
use Rattle.sby_lines.specs.Reached.{HasReachLines}
use Rattle.sby_lines.proofs.tell_covers.tell_found.Goals as goal

pub tell_reaching-requires-clause-rows : goal.tell_reaching-requires-clause-rows
tell_reaching-requires-clause-rows g c = (c.requires.reaches c.in-Some.played.now (sym c.in-Some.ensures.run)).0

pub tell_reaching-requires-clause-some : goal.tell_reaching-requires-clause-some
tell_reaching-requires-clause-some g c = (c.requires.reaches c.in-Some.played.now (sym c.in-Some.ensures.run)).1

pub returns-in-Some : goal.returns-in-Some
returns-in-Some g c = λ cell lines at has. c.tell_reaching.ensures cell lines at (subst (λ o. HasReachLines c.args.flat.now c.args.name.now cell o lines) (sym c.in-Some.ensures.run) has)

pub returns-in-None : goal.returns-in-None
returns-in-None g c = λ cell lines at has. rw (subst (λ o. HasReachLines c.args.flat.now c.args.name.now cell o lines) (sym c.in-None.ensures.run) has) (c.tell_unreached.ensures cell at)
