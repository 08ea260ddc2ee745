use Rattle.design_lower.proofs.Listed.{push_name}
use Rattle.design_lower.proofs.names.Names.push.Goals as goal

pub returns : goal.returns
returns c = rw (c.in_ok-insert.ensures.keys, ← c.self.view_is) (push_name c.self.inside.names.keys c.args.name (rw (← c.self.view_is) at c.requires))
