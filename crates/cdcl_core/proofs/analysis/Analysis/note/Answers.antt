use Rattle.std.proofs.Common.{take, subst, arith}
use Rattle.std.specs.Prelude.{Contains}
use Rattle.cdcl_core.proofs.Marks.{in_prefix}
use Rattle.cdcl_core.proofs.analysis.Analysis.note.Goals as goal

pub returns-in_err-mark_lower-clause-listed : goal.returns-in_err-mark_lower-clause-listed
returns-in_err-mark_lower-clause-listed c w =
    let trail = c.args.core.now.trail in
    let p = c.place-place.ensures in
    let e = c.mark_lower.ensures in
    e.listed trail c.args.base (subst (Contains (take c.args.base trail)) c.negate-l.ensures (in_prefix trail c.place-place.result c.args.base c.negate-l.result p.at p.within (omega arith))) w

pub returns-in_ok-mark_lower-clause-listed : goal.returns-in_ok-mark_lower-clause-listed
returns-in_ok-mark_lower-clause-listed c w =
    let trail = c.args.core.now.trail in
    let p = c.place-place.ensures in
    let e = c.mark_lower.ensures in
    e.listed trail c.args.base (subst (Contains (take c.args.base trail)) c.negate-l.ensures (in_prefix trail c.place-place.result c.args.base c.negate-l.result p.at p.within (omega arith))) w
