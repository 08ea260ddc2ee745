use Rattle.std.proofs.Common.{◌≡◌, inl, inr, ◌∙◌, ◌≤◌, true, Some, length, ap, sym, subst, arith}
use Rattle.std.specs.Prelude.{slice_get}
use Rattle.std.proofs.lemmas.Bool.{cases_lt, false≢true}
use Rattle.std.proofs.lemmas.Option.{slice_get_within}
use Rattle.design_core.specs.Table.{role_of}
use Rattle.design_core.proofs.Lists.{item_at}
use Rattle.design_graph.proofs.Declared.{cell-declared, outputs-declared}
use Rattle.design_meaning.specs.Meaning.{is_register}
use Rattle.design_check.specs.Faults.{IsConflict}
use Rattle.design_check.proofs.Conflicting.{conflict-register, conflict-twice, first-conflict, conflict-within}
use Rattle.design_check.proofs.conflicts.first_conflict.Goals as goal
use Rattle.design_check.proofs.conflicts.first_conflict.Goals.{After-index-cells-place, then-is_register+in_default, else-is_register}

cell : (c : After-index-cells-place) → slice_get c.args.design.now.cells c.loop-place.place ≡ Some c.index-cells-place.result
cell c = rw c.cells-cells.ensures.cells at (item_at c.cells-cells.result.now c.loop-place.place c.index-cells-place.result c.index-cells-place.is c.loop-place-test.true)

pub first_twice-requires-clause-declared : goal.first_twice-requires-clause-declared
first_twice-requires-clause-declared c =
    let x = (goal.at.first_twice-requires-clause-declared c).After-index-cells-place in
    let d = c.args.design.now in
    rw c.output.ensures.bits (outputs-declared d.wires d.free c.index-cells-place.result (cell-declared d c.cells-cells.ensures.design c.loop-place.place c.index-cells-place.result (cell x)))

pub returns-in-Some : goal.returns-in-Some
returns-in-Some c =
    let x = (goal.at.returns-in-Some c).After-index-cells-place in
    let register : is_register (role_of c.index-cells-place.result.kind) ≡ true = ap (λ k. is_register (role_of k)) (sym c.kind.ensures) ∙ sym c.if-is_register.ensures in
    let first = rw c.output.ensures.bits at c.in-Some.ensures.some in
    first-conflict c.args.design.now c.loop-place.place c.index-cells-place.result (cell x) register c.in-Some.bit first c.loop-place.invariant

pub loop-place-preserved : goal.loop-place-preserved
loop-place-preserved c = λ i k lt h.
    let x = (goal.at.loop-place-preserved c).After-index-cells-place in
    let d = c.args.design.now in
    elim (cases_lt i c.loop-place.place) as (λ _. ⊥) [
      | inl less ↦ c.loop-place.invariant i k less h
      | inr most ↦
          let e : i ≡ c.loop-place.place = omega (arith, lt, most) in
          let here = subst (λ n. IsConflict c.args.design.now n k) e h in
          let register = conflict-register d c.loop-place.place c.index-cells-place.result (cell x) k here in
          elim c.if-is_register.branch as (λ _. ⊥) [
            | then-is_register+in_default w ↦
                let none = rw w.output.ensures.bits at w.in_default.ensures.none in
                none k (conflict-twice d c.loop-place.place c.index-cells-place.result (cell x) k here)
            | else-is_register w ↦
                false≢true (sym w.if-is_register.false ∙ (c.is_register.ensures ∙ (ap (λ m. is_register (role_of m)) c.kind.ensures ∙ register)))
          ]
    ]

pub returns : goal.returns
returns c = λ i k h.
    let w = conflict-within c.args.design.now i k h in
    let most : length c.args.design.now.cells ≤ c.loop-place.place = rw c.cells-cells.ensures.cells at c.loop-place-test.false in
    c.loop-place.invariant i k (omega (arith, slice_get_within c.args.design.now.cells i w.0 w.1, most)) h
