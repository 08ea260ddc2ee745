use Rattle.sby_top.proofs.LawLemmas.{comes_in_bmc, comes_to_lanes, judged_at}
use Rattle.sby_top.proofs.laws.accepted_design_is_judged.Goals as goal

pub returns-clause-bmc : goal.returns-clause-bmc
returns-clause-bmc g c = λ before after moments words done j end store text is smooth told bmc got accepted few. comes_in_bmc (g.C.Clock.may_read c.args.clock.now) is.place moments j end is.exit store text is.ran smooth told bmc got accepted few

pub returns-clause-every : goal.returns-clause-every
returns-clause-every g c = λ before after moments words done task end store text d is smooth told got accepted reads few. comes_to_lanes (g.C.Clock.may_read c.args.clock.now) is.place moments task end is.exit store text d is.ran smooth told got accepted reads few

pub returns-clause-at : goal.returns-clause-at
returns-clause-at g c = λ before after moments words done task end store is told early. judged_at (g.C.Clock.may_read c.args.clock.now) is.place moments task end is.exit store is.ran told early
