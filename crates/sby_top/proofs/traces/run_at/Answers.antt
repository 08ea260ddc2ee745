use Rattle.sby_top.proofs.traces.run_at.Goals as goal

pub returns-in-None : goal.returns-in-None
returns-in-None c = absurd (c.in-None.ensures.none c.requires.settled.0 c.requires.settled.1 c.requires.settled.2)
