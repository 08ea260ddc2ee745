use Rattle.sby_top.proofs.EventLemmas.{event_named}
use Rattle.sby_top.proofs.claims.each_status_names_its_event.Goals as goal

pub returns : goal.returns
returns g c = λ before after words done moments task end is. event_named (g.C.Clock.may_read c.args.clock.now) is.place moments task end is.ran.named
