use Rattle.std.proofs.Common.{rules}
use Rattle.cdcl_core.proofs.analysis.Analysis.resolve_to_uip.Goals as goal

pub returns-then-is_uip-clause-first : goal.returns-then-is_uip-clause-first
returns-then-is_uip-clause-first c = let e = c.is_uip.ensures in record { on = search rules; late = e.late c.if-is_uip.true; only = e.only c.if-is_uip.true }
