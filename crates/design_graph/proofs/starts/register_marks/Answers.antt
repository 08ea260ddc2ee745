use Rattle.std.proofs.Common.{◌≡◌, ◌≤◌, ◌∙◌, ℕ, List, Bool, true, false, Some, length, replicate, drop, ap, arith}
use Rattle.std.specs.Prelude.{slice_get}
use Rattle.std.proofs.lemmas.List.Elements.{All-contains}
use Rattle.design_core.specs.Shape.{CellOf, IsCellOf}
use Rattle.design_core.specs.Asked.{output_of}
use Rattle.design_core.specs.Table.{role_of}
use Rattle.design_meaning.specs.Meaning.{is_register}
use Rattle.design_core.specs.Places.{places}
use Rattle.design_graph.specs.Edges.{IsPlaceIn}
use Rattle.design_core.proofs.Lists.{Contains-from_place, item_at}
use Rattle.design_graph.proofs.EdgeSteps.{written-back}
use Rattle.design_graph.proofs.MarkSets.{Before-next, Before-end}
use Rattle.design_graph.proofs.Starting.{IsRegisterMarks-built}
use Rattle.design_graph.proofs.starts.register_marks.Goals as goal
use Rattle.std.proofs.lemmas.List.{length-replicate}
use Rattle.design_graph.proofs.starts.register_marks.Goals.{After-index-cells-place}

cell : (c : After-index-cells-place) → slice_get c.args.design.now.cells c.loop-place.place ≡ Some c.index-cells-place.result
cell c = rw c.cells-cells.ensures.cells at (item_at c.cells-cells.result.now c.loop-place.place c.index-cells-place.result c.index-cells-place.is c.loop-place-test.true)

pub mark_register-requires-clause-cell : goal.mark_register-requires-clause-cell
mark_register-requires-clause-cell c =
    let x = (goal.at.mark_register-requires-clause-cell c).After-index-cells-place in
    All-contains (IsCellOf c.args.design.now.wires c.args.design.now.free) c.args.design.now.cells c.index-cells-place.result c.cells-cells.ensures.design.cells
    (Contains-from_place c.args.design.now.cells c.loop-place.place c.index-cells-place.result (cell x))

pub loop-place-preserved : goal.loop-place-preserved
loop-place-preserved c =
    let x = (goal.at.loop-place-preserved c).After-index-cells-place in
    Before-next c.args.design.now.cells (λ k e p. (is_register (role_of e.kind) ≡ true) × IsPlaceIn c.args.design.now (output_of e) p) (replicate (places c.args.design.now) false) c.loop-place.table
    c.mark_register.new.marks c.loop-place.place c.index-cells-place.result (cell x) c.loop-place.invariant c.mark_register.ensures

pub returns : goal.returns
returns c =
    let most : length c.args.design.now.cells ≤ c.loop-place.place = rw c.cells-cells.ensures.cells at c.loop-place-test.false in
    let marks = Before-end c.args.design.now.cells (λ k e p. (is_register (role_of e.kind) ≡ true) × IsPlaceIn c.args.design.now (output_of e) p) (replicate (places c.args.design.now) false) c.loop-place.table
    c.loop-place.place (λ p. (i : ℕ) × (e : CellOf) × (slice_get c.args.design.now.cells i ≡ Some e) × (is_register (role_of e.kind) ≡ true) × IsPlaceIn c.args.design.now (output_of e) p) most c.loop-place.invariant
    (λ k e p at h. (k, e, at, h.0, h.1)) (λ p t. (t.0, t.1, t.2, (t.3, t.4))) in
    let built = IsRegisterMarks-built c.args.design.now c.cells-cells.ensures.design c.loop-place.table marks in
    let size : length c.in_ok-marks.marks.items ≡ c.places.result = ap (λ (l : List Bool). length l) c.in_ok-marks.ensures ∙ length-replicate c.places.result false in
    let whole : c.in_ok-marks.marks.len ≡ length c.loop-place.table = omega (arith, c.in_ok-marks.marks.ok.0, size, c.places.ensures.places, built.size) in
    rw (written-back c.in_ok-marks.marks.len c.loop-place.table (drop (length c.loop-place.table) c.in_ok-marks.marks.items) whole) built
