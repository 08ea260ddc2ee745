use Rattle.std.proofs.Common.{◌≡◌, inl, inr, ◌<◌, ℕ, length, subst, arith}
use Rattle.std.proofs.lemmas.Bool.{false≢true, cases_lt}
use Rattle.std.proofs.lemmas.Option.{slice_get_within}
use Rattle.design_graph.specs.Edges.{IsWireOnLoop}
use Rattle.design_graph.proofs.loops.first_wire_on_loop.Goals as goal
use Rattle.design_graph.proofs.Looping.{loop-declared}

pub loop-wire-preserved : goal.loop-wire-preserved
loop-wire-preserved c = λ k lt h.
    elim (cases_lt k c.loop-wire.wire) as (λ _. ⊥) [
      | inl less ↦ c.loop-wire.invariant k less h
      | inr more ↦
          let e : k ≡ c.loop-wire.wire = omega arith in
          false≢true (c.if-is_wire_on_loop.ensures.1 (subst (λ (n : ℕ). IsWireOnLoop c.args.design.now n) e h))
    ]

pub returns : goal.returns
returns c = λ i h.
    let declared = loop-declared c.args.design.now c.wires-wire-end.ensures.design i h.0 h.1 in
    let within : i < length c.wires-wire-end.result.now = rw c.wires-wire-end.ensures.wires (slice_get_within c.args.design.now.wires i declared.0 declared.1) in
    let lt : i < c.loop-wire.wire = omega (arith, c.loop-wire-test.false) in
    c.loop-wire.invariant i lt h
