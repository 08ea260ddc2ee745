use Rattle.cdcl_core.proofs.Marks.{listed_current}
use Rattle.cdcl_core.proofs.analysis.Analysis.mark_current.Goals as goal

pub returns-clause-listed : goal.returns-clause-listed
returns-clause-listed c t base w =
    let p = c.in_ok-push.ensures in
    rw (p.items, c.index.ensures) (listed_current t base c.args.self.now.seen.items c.args.self.now.lower.items c.args.self.now.current.items w c.args.l)
