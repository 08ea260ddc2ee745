use Rattle.std.proofs.Common.{◌+◌, ◌-◌, ◌<◌, ◌≤◌, false, length, set, ap, sym, ◌∙◌, arith, subst}
use Rattle.std.specs.Prelude.{IfSome, reverse, slice_index_or}
use Rattle.std.proofs.Math.Seq.{paste}
use Rattle.std.proofs.lemmas.List.{get_or-reverse, length-reverse}
use Rattle.std.proofs.lemmas.List.Edits.{paste_more}
use Rattle.btor_witness.proofs.frames.put.Goals as goal

pub loop-i-preserved : goal.loop-i-preserved
loop-i-preserved c =
    let bits = c.args.bits.now in
    let target = c.args.target.now in
    let i = c.loop-i.i in
    let here = c.args.base + c.in-Some-first.first in
    let len = length-reverse c.args.bits.now in
    let below : c.loop-i.i < length c.args.bits.now = c.loop-i-test.true in
    let inside = subst (λ o. IfSome o (λ p. IfSome p.first (λ first. c.args.base + first + length c.args.bits.now ≤ length c.args.target.now))) c.in-Some.is c.requires in
    let fits : c.args.base + c.in-Some-first.first + length c.args.bits.now ≤ length c.args.target.now =
    subst (λ o. IfSome o (λ first. c.args.base + first + length c.args.bits.now ≤ length c.args.target.now)) c.in-Some-first.is inside in
    let room : c.args.base + c.in-Some-first.first + c.loop-i.i < length c.args.target.now = omega arith in
    let long : c.loop-i.i < length (reverse c.args.bits.now) = omega arith in
    ap (λ xs. set xs (here + i) (slice_index_or bits (length bits - 1 - i) false)) c.loop-i.invariant
    ∙ ap (λ b. set (paste target here (reverse bits) i) (here + i) b) (sym (get_or-reverse bits i false below))
    ∙ paste_more target here (reverse bits) i false room long
