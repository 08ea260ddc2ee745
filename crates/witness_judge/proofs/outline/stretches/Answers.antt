use Rattle.std.proofs.Common.{◌≡◌, ◌<◌, ◌+◌, ◌∙◌, ℕ, List, [], refl, rules, length, sym, ap, subst, arith}
use Rattle.std.specs.List.{flat_map}
use Rattle.std.proofs.Math.Seq.{take-length}
use Rattle.btor_emit.proofs.Edging.{edge_at, span_of}
use Rattle.witness_judge.proofs.outline.stretches.Goals as goal
use Rattle.model_core.specs.Shape.{RegisterOf, states}
use Rattle.btor_emit.specs.declared.shape.State.{State}
use Rattle.witness_judge.proofs.Outlining.{none_yet}
use Rattle.witness_judge.specs.Outlining.{AreStretchesTo}

pub loop-register-preserved : goal.loop-register-preserved
loop-register-preserved c =
    let m = c.args.model.now in
    let i = c.loop-register.register in
    let l : i < length m.registers = omega arith in
    let span = span_of m i c.q.result.now c.requires.registers l c.q.ensures in
    let end = span.end in
    let first = c.loop-register.invariant.first in
    let e : c.loop-register.first + length c.q.result.now ≡ edge_at m (i + 1) = omega arith in
    record { first = e; made = subst (λ (k : ℕ). AreStretchesTo m c.push_stretches.new.made.items k) (sym e) c.in_ok-push_stretches.ensures }

pub overflow_add-first : goal.overflow_add-first
overflow_add-first c =
    let m = c.args.model.now in
    let i = c.loop-register.register in
    let l : i < length m.registers = omega arith in
    let span = span_of m i c.q.result.now c.requires.registers l c.q.ensures in
    let end = span.end in
    let first = c.loop-register.invariant.first in
    let inside = span.inside in
    let bits = ap (λ (ps : List ℕ). length ps) c.states-bits.ensures in
    omega arith

pub loop-register-init : goal.loop-register-init
loop-register-init c =
    let e : c.new-made.result.items ≡ [] = search rules in
    record { first = refl; made = subst (λ (ss : List State). AreStretchesTo c.args.model.now ss 0) (sym e) (none_yet c.args.model.now) }

pub returns : goal.returns
returns c =
    let m = c.args.model.now in
    let inv = c.loop-register.invariant in
    let n : c.loop-register.register ≡ length m.registers = omega arith in
    let whole : edge_at m c.loop-register.register ≡ length (states m) = ap (edge_at m) n ∙ ap (λ (rs : List RegisterOf). length (flat_map (λ (r : RegisterOf). r.q) rs)) (take-length m.registers) in
    let made = subst (λ (k : ℕ). AreStretchesTo m c.loop-register.made.items k) (inv.first ∙ whole) inv.made in
    record { each = made.each; joined = made.joined; whole = made.whole }
