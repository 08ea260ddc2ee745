use Rattle.std.proofs.Common.{◌≡◌, ◌<◌, ◌+◌, ◌∙◌, ℕ, List, length, sym, ap, subst, arith}
use Rattle.std.specs.List.{flat_map}
use Rattle.std.proofs.Math.Seq.{take-length}
use Rattle.btor_emit.specs.Emitting.{AreStates}
use Rattle.btor_emit.proofs.Edging.{edge_at, span_of}
use Rattle.btor_emit.proofs.states.push_states.Goals as goal
use Rattle.model_core.specs.Shape.{RegisterOf, states}

pub loop-register-preserved : goal.loop-register-preserved
loop-register-preserved c =
    let m = c.args.model.now in
    let i = c.loop-register.register in
    let l : i < length m.registers = omega arith in
    let span = span_of m i c.q.result.now c.requires.model.registers l c.q.ensures in
    let end = span.end in
    let first = c.loop-register.invariant.first in
    let e : c.loop-register.first + length c.q.result.now ≡ edge_at m (i + 1) = omega arith in
    record { first = e; states = subst (λ (k : ℕ). AreStates m c.push_register.new.draft c.push_register.new.table c.push_register.new.made.items k) (sym e) c.in_ok-push_register.ensures }

pub overflow_add-first : goal.overflow_add-first
overflow_add-first c =
    let m = c.args.model.now in
    let i = c.loop-register.register in
    let l : i < length m.registers = omega arith in
    let span = span_of m i c.q.result.now c.requires.model.registers l c.q.ensures in
    let end = span.end in
    let first = c.loop-register.invariant.first in
    let inside = span.inside in
    let bits = ap (λ (ps : List ℕ). length ps) c.states-bits.ensures in
    omega arith

pub returns : goal.returns
returns c =
    let m = c.args.model.now in
    let inv = c.loop-register.invariant in
    let n : c.loop-register.register ≡ length m.registers = omega arith in
    let whole : edge_at m c.loop-register.register ≡ length (states m) = ap (edge_at m) n ∙ ap (λ (rs : List RegisterOf). length (flat_map (λ (r : RegisterOf). r.q) rs)) (take-length m.registers) in
    subst (λ (k : ℕ). AreStates m c.loop-register.draft c.loop-register.table c.loop-register.made.items k) (inv.first ∙ whole) inv.states
