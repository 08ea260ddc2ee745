use Rattle.std.proofs.Common.{subst}
use Rattle.std.specs.Prelude.{Contains, IfSome}
use Rattle.cdcl_core.proofs.conflict.minimize.Goals as goal

pub finish-requires-clause-below : goal.finish-requires-clause-below
finish-requires-clause-below c =
    let core = c.args.core.now in
    let on = subst (λ o. IfSome o (λ l. Contains core.trail l)) c.in-Some.is c.requires.on in
    let v = c.requires.justified in
    let w = v.within c.in-Some.l on in
    w.1
