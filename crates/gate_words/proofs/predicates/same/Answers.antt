use Rattle.std.proofs.Common.{rules, ◌≡◌, length, arith}
use Rattle.gate_rows.proofs.Building.{Builds-trans}
use Rattle.gate_words.proofs.Folding.{same_means, differ_long}
use Rattle.gate_words.proofs.predicates.same.Goals as goal

pub returns-clause-bit : goal.returns-clause-bit
returns-clause-bit c =
    let m = rw c.deref.ensures.value at c.in_ok-lit.ensures.bit in
    rw c.negate.ensures (same_means c.each.new.gates c.any.new.gates c.args.a.now c.args.b.now c.in_ok-differ.differ.items c.in_ok-lit.lit c.requires.as_many c.any.ensures.builds.continues c.in_ok-differ.ensures.row m)

pub returns-clause-builds : goal.returns-clause-builds
returns-clause-builds c =
    let n : length c.deref.result.now ≡ length c.args.a.now = rw c.deref.ensures.value (differ_long c.each.new.gates c.args.a.now c.args.b.now c.in_ok-differ.differ.items c.requires.as_many c.in_ok-differ.ensures.row) in
    Builds-trans c.args.gates.now c.each.new.gates c.any.new.gates (length c.args.a.now) (length c.deref.result.now) _ c.each.ensures.builds c.any.ensures.builds (omega arith)

pub returns-in_err-lit-clause-builds : goal.returns-in_err-lit-clause-builds
returns-in_err-lit-clause-builds c =
    let n : length c.deref.result.now ≡ length c.args.a.now = rw c.deref.ensures.value (differ_long c.each.new.gates c.args.a.now c.args.b.now c.in_ok-differ.differ.items c.requires.as_many c.in_ok-differ.ensures.row) in
    Builds-trans c.args.gates.now c.each.new.gates c.any.new.gates (length c.args.a.now) (length c.deref.result.now) _ c.each.ensures.builds c.any.ensures.builds (omega arith)

pub returns-in_err-lit-clause-too_many : goal.returns-in_err-lit-clause-too_many
returns-in_err-lit-clause-too_many c =
    let n : length c.deref.result.now ≡ length c.args.a.now = rw c.deref.ensures.value (differ_long c.each.new.gates c.args.a.now c.args.b.now c.in_ok-differ.differ.items c.requires.as_many c.in_ok-differ.ensures.row) in
    let p = c.each.ensures.builds.most in
    let q = c.each.ensures.builds.continues.limit in
    search rules
