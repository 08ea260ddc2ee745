use Rattle.std.proofs.Common.{refl}
use Rattle.judge.proofs.certificate.answer.Goals as goal

pub unsat-requires : goal.unsat-requires
unsat-requires c = let w = c.requires in (w.0.formula, (w.0, w.1, refl), rw c.in-Refuted.is at (rw c.in-Some.is at w.2))
