use Rattle.sby_top.proofs.PrintedLemmas.{zero_expected_all}
use Rattle.sby_top.proofs.claims.exit_status_0_is_as_expected.Goals as goal

pub returns : goal.returns
returns g c = λ before after words done did. zero_expected_all (g.C.Clock.may_read c.args.clock.now) before after words done did
