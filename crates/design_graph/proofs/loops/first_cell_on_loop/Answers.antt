use Rattle.std.proofs.Common.{◌≡◌, inl, inr, ◌<◌, ◌+◌, ◌∙◌, ℕ, true, false, length, get_or, ap, sym, arith}
use Rattle.std.proofs.lemmas.Bool.{true≢false, cases_lt}
use Rattle.std.proofs.lemmas.Option.{slice_get_within, get_or_from_slice_get}
use Rattle.design_core.specs.Places.{places}
use Rattle.design_graph.proofs.loops.first_cell_on_loop.Goals as goal

pub loop-place-preserved : goal.loop-place-preserved
loop-place-preserved c = λ k lt h.
    elim (cases_lt k c.loop-place.place) as (λ _. ⊥) [
      | inl less ↦ c.loop-place.invariant k less h
      | inr more ↦
          let within : k < length c.args.design.now.cells = slice_get_within c.args.design.now.cells k h.3.0 h.3.1 in
          let at = (c.requires.cells k within).1 h in
          let here : places c.args.design.now + k ≡ c.places-before.result + c.loop-place.place = omega (arith, c.places-before.ensures.places) in
          true≢false (sym (get_or_from_slice_get c.args.cyclic.now (places c.args.design.now + k) true false at) ∙ (ap (λ (n : ℕ). get_or c.args.cyclic.now n false) here ∙ c.if-cyclic-before.false))
    ]

pub returns : goal.returns
returns c = λ i h.
    let within : i < length c.cells-place-end.result.now = rw c.cells-place-end.ensures.cells (slice_get_within c.args.design.now.cells i h.3.0 h.3.1) in
    let lt : i < c.loop-place.place = omega (arith, c.loop-place-test.false) in
    c.loop-place.invariant i lt h
