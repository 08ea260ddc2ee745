use Rattle.sby_top.proofs.ClaimLemmas.{pass_claimed}
use Rattle.sby_top.proofs.claims.pass_of_bmc_is_true.Goals as goal

pub returns : goal.returns
returns g c = λ before after words done moments task end is status mode. pass_claimed (g.C.Clock.may_read c.args.clock.now) is.place moments task end is.exit is.ran status mode
