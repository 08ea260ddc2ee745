use Rattle.std.proofs.Common.{◌+◌, arith}
use Rattle.model_cone.proofs.Reading.{one-below, roots-made, zero-below}
use Rattle.model_cone.proofs.marking.mark_roots.Goals as goal

pub mark-requires : goal.mark-requires
mark-requires c = let z = zero-below c.args.model.now c.requires.model in let e = c.zero.ensures in let s = c.requires.size in omega arith

pub overflow_add-zero : goal.overflow_add-zero
overflow_add-zero c = let z = one-below c.args.model.now c.requires.model in let l = c.requires.model.limit in let e = c.zero-2.ensures in omega arith

pub mark-requires-2 : goal.mark-requires-2
mark-requires-2 c =
    let z = one-below c.args.model.now c.requires.model in
    let e = c.zero-2.ensures in
    let s = c.requires.size in
    let t = c.in_ok-mark.ensures.size in
    omega arith

pub returns : goal.returns
returns c =
    let e = c.zero-2.ensures in
    roots-made c.args.model.now c.args.asked c.zero.result (c.zero-2.result + 1) c.assumes.result.now c.zero.ensures (omega arith) c.assumes.ensures
    _ _ _ _ _ _ _ _ _ _ c.in_ok-mark.ensures c.in_ok-mark-2.ensures c.in_ok-mark_statements.ensures c.in_ok-mark_asked.ensures
