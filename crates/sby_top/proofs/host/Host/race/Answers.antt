use Rattle.sby_top.proofs.host.Host.race.Goals as goal

pub returns-clause-raced : goal.returns-clause-raced
returns-clause-raced g c = λ pool ready. c.race.ensures.raced pool _ _ ready
