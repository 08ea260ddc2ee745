use Rattle.sby_top.proofs.ClaimLemmas.{usage_of_refused}
use Rattle.sby_top.proofs.claims.refused_words_give_the_usage_line.Goals as goal

pub returns : goal.returns
returns g c = usage_of_refused (g.C.Clock.may_read c.args.clock.now)
