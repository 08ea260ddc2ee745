use Rattle.cdcl_core.proofs.Marks.{listed_lower}
use Rattle.cdcl_core.proofs.analysis.Analysis.mark_lower.Goals as goal

pub returns-clause-listed : goal.returns-clause-listed
returns-clause-listed c t base h w =
    let p = c.in_ok-push.ensures in
    rw (p.items, c.index.ensures, c.negate.ensures) (listed_lower t base c.args.self.now.seen.items c.args.self.now.lower.items c.args.self.now.current.items w c.args.m h)
