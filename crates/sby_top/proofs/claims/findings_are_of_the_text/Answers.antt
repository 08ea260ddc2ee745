use Rattle.sby_top.proofs.PrintedLemmas.{findings_of_text}
use Rattle.sby_top.proofs.claims.findings_are_of_the_text.Goals as goal

pub returns : goal.returns
returns g c = λ before after moments words done task end r f is among carried. findings_of_text (g.C.Clock.may_read c.args.clock.now) is.place moments task end is.exit is.ran r f among carried
