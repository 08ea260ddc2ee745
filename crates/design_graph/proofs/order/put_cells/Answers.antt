use Rattle.std.proofs.Common.{◌≡◌, ◌+◌, ◌∙◌, Some, true, ap, sym}
use Rattle.std.specs.Prelude.{slice_get}
use Rattle.std.proofs.lemmas.Bool.{false≢true}
use Rattle.design_core.specs.Table.{role_of}
use Rattle.design_graph.specs.Order.{is_in_cycle}
use Rattle.design_graph.specs.Edges.{IsTableUpto}
use Rattle.design_core.proofs.Lists.{item_at}
use Rattle.design_graph.proofs.Ordering.{put-cell, skip-cell}
use Rattle.design_graph.proofs.order.put_cells.Goals as goal
use Rattle.design_graph.proofs.order.put_cells.Goals.{then-is_in_cycle, else-is_in_cycle}

pub loop-place-preserved : goal.loop-place-preserved
loop-place-preserved c =
    let d = c.args.design.now in
    let at : slice_get c.args.design.now.cells c.loop-place.place ≡ Some c.index-cells-place.result =
    rw c.cells-cells.ensures.cells at (item_at c.cells-cells.result.now c.loop-place.place c.index-cells-place.result c.index-cells-place.is c.loop-place-test.true) in
    elim c.if-is_in_cycle.branch as (λ _. IsTableUpto c.args.design.now (c.loop-place.place + 1) 0 0 c.if-is_in_cycle.table) [
      | then-is_in_cycle w ↦
          let comb : is_in_cycle (role_of c.index-cells-place.result.kind) ≡ true = ap (λ k. is_in_cycle (role_of k)) (sym c.kind.ensures) ∙ (sym c.is_in_cycle.ensures ∙ w.if-is_in_cycle.true) in
          let next = put-cell d c.cells-cells.ensures.design c.requires.once c.loop-place.place c.loop-place.table c.index-cells-place.result c.loop-place.invariant at comb in
          rw (w.table-is, c.places-before.ensures.places) next
      | else-is_in_cycle w ↦
          let other : is_in_cycle (role_of c.index-cells-place.result.kind) ≡ true → ⊥ =
          λ r. false≢true (sym w.if-is_in_cycle.false ∙ (c.is_in_cycle.ensures ∙ (ap (λ k. is_in_cycle (role_of k)) c.kind.ensures ∙ r))) in
          rw w.table-is (skip-cell d c.cells-cells.ensures.design c.loop-place.place c.loop-place.table c.index-cells-place.result c.loop-place.invariant at other)
    ]
