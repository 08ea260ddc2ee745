use Rattle.sby_top.proofs.ClaimLemmas.{fail_claimed}
use Rattle.sby_top.proofs.claims.fail_of_bmc_shows_its_run.Goals as goal

pub returns : goal.returns
returns g c = λ before after words done moments task end is status mode. fail_claimed (g.C.Clock.may_read c.args.clock.now) is.place moments task end is.exit is.ran status mode
