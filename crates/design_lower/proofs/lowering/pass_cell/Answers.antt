use Rattle.std.proofs.Common.{◌≡◌, ◌<◌, ◌∙◌, ◌++◌, ◌∷◌, [], Some, length, ap, sym, subst}
use Rattle.std.proofs.lemmas.Bool.{false≢true}
use Rattle.std.specs.Prelude.{slice_get}
use Rattle.design_core.specs.Shape.{CellOf}
use Rattle.design_core.proofs.Lists.{item_at, one_at}
use Rattle.design_lower.specs.Lowering.{FitsReset}
use Rattle.design_lower.proofs.Passing.{passing-skip}
use Rattle.design_lower.proofs.lowering.pass_cell.Goals as goal
use Rattle.design_lower.proofs.lowering.pass_cell.Goals.{After-index-cells-place}

there : (c : After-index-cells-place) → slice_get c.args.design.now.cells c.args.place ≡ Some c.index-cells-place.result
there c =
    let lt : c.args.place < length c.cells.result.now = rw c.cells.ensures.cells c.requires.place in
    rw c.cells.ensures.cells at (item_at c.cells.result.now c.args.place c.index-cells-place.result c.index-cells-place.is lt)

pub lower_cell-requires-clause-fits : goal.lower_cell-requires-clause-fits
lower_cell-requires-clause-fits c = λ x place.
    let at = there (goal.at.lower_cell-requires-clause-fits c).After-index-cells-place in
    subst (λ (y : CellOf). FitsReset y) (one_at c.args.design.now.cells c.args.place c.index-cells-place.result x at place) (c.fits.ensures.0 c.if-fits.true)

pub returns-in_ok-push_cell-clause-passing : goal.returns-in_ok-push_cell-clause-passing
returns-in_ok-push_cell-clause-passing c =
    let at = there (goal.at.returns-in_ok-push_cell-clause-passing c).After-index-cells-place in
    let next : c.push_cell.new.self ≡ record c.args.low.now { cells = c.args.low.now.cells ++ c.index-cells-place.result ∷ [] } =
    c.in_ok-push_cell.ensures.ok ∙ ap (λ (x : CellOf). record c.args.low.now { cells = c.args.low.now.cells ++ x ∷ [] }) c.in_ok-copy_cell.ensures in
    passing-skip c.args.design.now c.requires.shape c.args.place c.index-cells-place.result at c.args.low.now c.args.muxes.now.items c.args.number c.requires.passing
    (λ f. false≢true (sym c.if-fits.false ∙ c.fits.ensures.1 f)) c.push_cell.new.self next
