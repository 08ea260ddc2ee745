use Rattle.std.proofs.Common.{◌≡◌, ◌<◌, ◌∙◌, ℕ, List, Some, Vec, length, refl, sym, ap, subst, arith}
use Rattle.std.specs.Prelude.{slice_get, slice_index_or}
use Rattle.std.specs.Global.{Global}
use Rattle.std.proofs.lemmas.Option.{slice_get-get_or}
use Rattle.digraph.specs.Graph.{IsEntry}
use Rattle.digraph.proofs.Lists.{get-below, item-at, one-at}
use Rattle.digraph.proofs.search.step.Goals as goal
use Rattle.digraph.proofs.search.step.Goals.{After-index-cursor, Then-cursor-row}

cursor : (c : After-index-cursor) → slice_get c.args.search.now.cursors.items c.args.last ≡ Some c.index-cursor.result.now
cursor c =
    let lt : c.args.last < length c.args.search.now.cursors.items = omega (arith, c.requires.state.cursors_size, c.requires.last) in
    item-at c.args.search.now.cursors.items c.args.last c.index-cursor.result.now c.index-cursor.ensures lt

row : (c : After-index-cursor) → slice_get c.args.graph.now c.args.last ≡ Some c.index-graph-last.result
row c = item-at c.args.graph.now c.args.last c.index-graph-last.result c.index-graph-last.is c.requires.last

entry : (c : Then-cursor-row) → IsEntry c.args.graph.now c.args.last c.index-cursor.result.now (slice_index_or c.as_slice-row.result.now c.index-cursor.result.now 0)
entry c = (
  c.index-graph-last.result,
  item-at c.args.graph.now c.args.last c.index-graph-last.result c.index-graph-last.is c.requires.last,
  subst (λ (xs : List ℕ). slice_get xs c.index-cursor.result.now ≡ Some (slice_index_or c.as_slice-row.result.now c.index-cursor.result.now 0)) c.as_slice-row.ensures.value
      (slice_get-get_or c.as_slice-row.result.now c.index-cursor.result.now 0 c.if-cursor-row.true),
)

pub look-requires-clause-next : goal.look-requires-clause-next
look-requires-clause-next c = c.requires.graph c.args.last (slice_index_or c.as_slice-row.result.now c.index-cursor.result.now 0) (c.index-cursor.result.now, entry (goal.at.look-requires-clause-next c).Then-cursor-row)

pub look-requires-clause-entry : goal.look-requires-clause-entry
look-requires-clause-entry c =
    (c.index-cursor.result.now, cursor (goal.at.look-requires-clause-entry c).After-index-cursor, entry (goal.at.look-requires-clause-entry c).Then-cursor-row, refl)

pub leave-requires-clause-looked_at : goal.leave-requires-clause-looked_at
leave-requires-clause-looked_at c = λ place b at e.
    let x = (goal.at.leave-requires-clause-looked_at c).After-index-cursor in
    let same : e.1.0 ≡ c.index-graph-last.result = one-at c.args.graph.now c.args.last e.1.0 c.index-graph-last.result e.1.1 (row x) in
    let size : length e.1.0.items ≡ length c.as_slice-row.result.now = ap (λ (r : Vec ℕ Global). length r.items) same ∙ ap (λ (l : List ℕ). length l) (sym c.as_slice-row.ensures.value) in
    let lt : e.0 < c.index-cursor.result.now = omega (arith, get-below e.1.0.items e.0 b e.1.2, size, c.if-cursor-row.false) in
    c.requires.state.scanned c.args.last place c.index-cursor.result.now e.0 b at (cursor x) lt e.1
