use Rattle.std.proofs.Common.{◌≡◌, List, ℕ, map, subst, sym}
use Rattle.design_core.specs.Places.{place_of}
use Rattle.design_core.specs.Shape.{DesignOf, IsDesign}
use Rattle.design_meaning.specs.States.{input_bits}
use Rattle.place_rows.specs.Rows.{AreRowsOf}
use Rattle.source_rows.proofs.Sources.{rows-fit, rows-whole}
use Rattle.source_rows.specs.Sources.{source_rows}
use Rattle.source_rows.proofs.rows.source_rows.Goals as goal

pub returns-clause-inputs : goal.returns-clause-inputs
returns-clause-inputs c =
    let d = c.args.flat.now in
    let rows : c.loop-place.rows ≡ source_rows d = rows-whole d c.design-design.result.now c.cells-cells.result.now c.loop-place.place c.loop-place.rows c.design-design.ensures.design c.cells-cells.ensures.cells c.loop-place-test.false c.loop-place.invariant in
    let design = subst (λ (e : DesignOf). IsDesign e) c.design-design.ensures.design c.cells-cells.ensures.design in
    subst (λ (l : List (List ℕ)). AreRowsOf (map (place_of d) (input_bits d)) l) (sym rows) (rows-fit d design c.design-design.ensures.flat)
