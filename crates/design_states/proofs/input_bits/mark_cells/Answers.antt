use Rattle.std.proofs.Common.{◌≡◌, ◌∙◌, ◌+◌, ◌≤◌, true, Some, length, ap, sym}
use Rattle.std.specs.Prelude.{slice_get}
use Rattle.std.proofs.lemmas.Bool.{true≢false}
use Rattle.design_core.specs.Asked.{output_of}
use Rattle.design_core.specs.Table.{role_of}
use Rattle.design_core.proofs.Lists.{item_at}
use Rattle.design_graph.specs.Edges.{IsPlaceIn, Marks}
use Rattle.design_graph.proofs.Declared.{cell-declared, outputs-declared}
use Rattle.design_graph.proofs.MarkSets.{Before, Before-next, Before-end, Marks-as, Marks-none}
use Rattle.design_states.specs.Bits.{IsCellGiven, is_given}
use Rattle.design_states.proofs.input_bits.mark_cells.Goals as goal
use Rattle.design_states.proofs.input_bits.mark_cells.Goals.{After-index-cells-place, then-is_given, else-is_given}

cell : (c : After-index-cells-place) → slice_get c.args.design.now.cells c.loop-place.place ≡ Some c.index-cells-place.result
cell c = rw c.cells-cells.ensures.cells at (item_at c.cells-cells.result.now c.loop-place.place c.index-cells-place.result c.index-cells-place.is c.loop-place-test.true)

pub mark_bits-requires-clause-declared : goal.mark_bits-requires-clause-declared
mark_bits-requires-clause-declared c =
    let x = (goal.at.mark_bits-requires-clause-declared c).After-index-cells-place in
    let d = c.args.design.now in
    rw c.output.ensures.bits (outputs-declared d.wires d.free c.index-cells-place.result (cell-declared d c.cells-cells.ensures.design c.loop-place.place c.index-cells-place.result (cell x)))

pub loop-place-preserved : goal.loop-place-preserved
loop-place-preserved c =
    let x = (goal.at.loop-place-preserved c).After-index-cells-place in
    let d = c.args.design.now in
    let e = c.index-cells-place.result in
    let kind = c.is_given.ensures ∙ ap (λ k. is_given (role_of k)) c.kind.ensures in
    elim c.if-is_given.branch as (λ _. Marks c.args.marks.now (Before d.cells (λ k y p. (is_given (role_of y.kind) ≡ true) × IsPlaceIn d (output_of y) p) (c.loop-place.place + 1)) c.if-is_given.marks) [
      | then-is_given w ↦
          let marked = rw w.output.ensures.bits at w.mark_bits.ensures in
          let given = sym kind ∙ w.if-is_given.true in
          rw w.marks-is
          (Before-next d.cells (λ k y p. (is_given (role_of y.kind) ≡ true) × IsPlaceIn d (output_of y) p) c.args.marks.now c.loop-place.marks w.mark_bits.new.marks c.loop-place.place e (cell x)
          c.loop-place.invariant
          (Marks-as c.loop-place.marks w.mark_bits.new.marks (IsPlaceIn d (output_of e)) (λ p. (is_given (role_of e.kind) ≡ true) × IsPlaceIn d (output_of e) p) marked
          (λ p h. (given, h)) (λ p h. h.1)))
      | else-is_given w ↦
          let other = sym kind ∙ w.if-is_given.false in
          rw w.marks-is
          (Before-next d.cells (λ k y p. (is_given (role_of y.kind) ≡ true) × IsPlaceIn d (output_of y) p) c.args.marks.now c.loop-place.marks c.loop-place.marks c.loop-place.place e (cell x)
          c.loop-place.invariant
          (Marks-none c.loop-place.marks (λ p. (is_given (role_of e.kind) ≡ true) × IsPlaceIn d (output_of e) p) (λ p h. true≢false (sym h.0 ∙ other))))
    ]

pub returns : goal.returns
returns c =
    let d = c.args.design.now in
    let most : length c.args.design.now.cells ≤ c.loop-place.place = rw c.cells-cells.ensures.cells at c.loop-place-test.false in
    Before-end d.cells (λ k y p. (is_given (role_of y.kind) ≡ true) × IsPlaceIn d (output_of y) p) c.args.marks.now c.loop-place.marks c.loop-place.place (IsCellGiven d) most c.loop-place.invariant
    (λ k y p at h. (k, y, at, h.0, h.1)) (λ p t. (t.0, t.1, t.2, (t.3, t.4)))
