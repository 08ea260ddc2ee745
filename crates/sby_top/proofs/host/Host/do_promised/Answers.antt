use Rattle.sby_top.proofs.host.Host.do_promised.Goals as goal

pub returns-clause-promises : goal.returns-clause-promises
returns-clause-promises g c = c.output_can_be_read.ensures _ _ _ _ c.do_asked.ensures.did
