use Rattle.sby_top.proofs.ClaimLemmas.{cover_fail_claimed}
use Rattle.sby_top.proofs.claims.fail_of_cover_names_a_statement.Goals as goal

pub returns : goal.returns
returns g c = λ before after words done moments task end is status mode. cover_fail_claimed (g.C.Clock.may_read c.args.clock.now) is.place moments task end is.exit is.ran status mode
