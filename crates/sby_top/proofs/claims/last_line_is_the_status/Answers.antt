use Rattle.sby_top.proofs.PrintedLemmas.{told_status}
use Rattle.sby_top.proofs.claims.last_line_is_the_status.Goals as goal

pub returns : goal.returns
returns g c = λ before after words done moments task end is status rc apart told. told_status (g.C.Clock.may_read c.args.clock.now) is.place moments task end is.exit status rc is.ran apart told
