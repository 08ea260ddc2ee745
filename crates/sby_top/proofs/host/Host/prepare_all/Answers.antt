use Rattle.sby_top.proofs.host.Host.prepare_all.Goals as goal

pub returns-clause-slotted : goal.returns-clause-slotted
returns-clause-slotted g c = c.prepare_named-is_all.ensures.slotted c.args.pool.now c.of-allowance.ensures
