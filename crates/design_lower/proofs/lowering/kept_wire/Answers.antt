use Rattle.std.proofs.Common.{◌≡◌, ◌≤◌, ◌<◌, Bool, List, Option, Some, Contains, All, length, ap, sym, subst, arith}
use Rattle.std.specs.Prelude.{slice_get}
use Rattle.std.proofs.lemmas.List.Elements.{All-weaker}
use Rattle.design_core.specs.Asked.{number_at, output_of}
use Rattle.design_core.specs.Shape.{CellOf, WireOf}
use Rattle.design_core.proofs.Lists.{item_at, one_at}
use Rattle.design_core.specs.declared.names.ParameterName.TheVariants.{Width}
use Rattle.design_lower.proofs.Fitting.{has-reset, output-width}
use Rattle.design_lower.proofs.Starting.{start-ends}
use Rattle.design_lower.proofs.lowering.kept_wire.Goals as goal
use Rattle.design_lower.proofs.lowering.kept_wire.Goals.{After-index-cells-place}

there : (c : After-index-cells-place) → slice_get c.args.design.now.cells c.args.place ≡ Some c.index-cells-place.result
there c =
    let lt : c.args.place < length c.cells.result.now = rw c.cells.ensures.cells c.requires.place in
    rw c.cells.ensures.cells at (item_at c.cells.result.now c.args.place c.index-cells-place.result c.index-cells-place.is lt)

pub returns-clause-wire : goal.returns-clause-wire
returns-clause-wire c =
    let at = there (goal.at.returns-clause-wire c).After-index-cells-place in
    let cell = c.index-cells-place.result in
    let f = c.requires.fits c.index-cells-place.result at in
    let some = (has-reset c.index-cells-place.result f.0).some in
    let wide = output-width c.index-cells-place.result f.0 in
    let bits : c.new.result.width ≡ c.args.width = ap (λ (x : WireOf). x.width) c.new.ensures in
    let inits : c.new.result.inits ≡ c.in_ok-inits.inits.items = ap (λ (x : WireOf). x.inits) c.new.ensures in
    let most : length (output_of c.index-cells-place.result) ≤ c.new.result.width = omega (arith, wide, f.1, bits) in
    let short : All (λ (digits : List (Option Bool)). length digits ≤ c.new.result.width) c.in_ok-inits.inits.items =
    All-weaker (λ (digits : List (Option Bool)). length digits ≤ length (output_of c.index-cells-place.result)) (λ (digits : List (Option Bool)). length digits ≤ c.new.result.width)
    (λ digits h. omega (arith, h, most)) c.in_ok-inits.inits.items c.in_ok-inits.ensures.short in
    let width : c.new.result.width ≡ number_at c.index-cells-place.result.parameters Width = omega (arith, bits, f.1) in (
      (omega (arith, bits, some, f.1), subst (λ (l : List (List (Option Bool))). All (λ (digits : List (Option Bool)). length digits ≤ c.new.result.width) l) (sym inits) short),
      ap (λ (x : WireOf). x.input) c.new.ensures,
      λ x place. subst (λ (y : CellOf). c.new.result.width ≡ number_at y.parameters Width) (one_at c.args.design.now.cells c.args.place c.index-cells-place.result x at place) width,
    )

pub returns-clause-digits : goal.returns-clause-digits
returns-clause-digits c = λ k x.
    let at = there (goal.at.returns-clause-digits c).After-index-cells-place in
    let f = c.requires.fits c.index-cells-place.result at in
    let s = start-ends c.args.design.now c.args.place c.index-cells-place.result at f.0 k x in
    let e = c.in_ok-inits.ensures.digits k x in
    let inits : c.new.result.inits ≡ c.in_ok-inits.inits.items = ap (λ (w : WireOf). w.inits) c.new.ensures in
    let P : List (List (Option Bool)) → Type 0 = λ l. (digits : List (Option Bool)) × Contains l digits × (slice_get digits k ≡ Some (Some x)) in
    (λ h. s.0 (e.0 (subst P inits h)), λ h. subst P (sym inits) (e.1 (s.1 h)))
