use Rattle.std.proofs.Common.{◌≡◌, ◌<◌, ◌++◌, ◌∷◌, [], ◌∙◌, List, Some, length, ap, sym, subst, arith}
use Rattle.std.specs.Prelude.{slice_get}
use Rattle.design_core.specs.Asked.{number_at}
use Rattle.design_core.specs.Shape.{CellOf, DesignOf, IsCellOf, WireOf}
use Rattle.design_core.specs.declared.names.ParameterName.TheVariants.{Width}
use Rattle.design_core.proofs.Lists.{item_at, one_at}
use Rattle.design_graph.proofs.Counts.{wires-few}
use Rattle.design_lower.specs.Lowering.{register, shown}
use Rattle.design_lower.proofs.Fitting.{has-reset}
use Rattle.design_lower.proofs.Passing.{free-soon, passing-lower, register-fits, room-cell, room-wire}
use Rattle.design_lower.proofs.lowering.lower_cell.Goals as goal
use Rattle.design_lower.proofs.lowering.lower_cell.Goals.{After-index-cells-place}

there : (c : After-index-cells-place) → slice_get c.args.design.now.cells c.args.place ≡ Some c.index-cells-place.result
there c =
    let lt : c.args.place < length c.cells.result.now = rw c.cells.ensures.cells c.requires.place in
    rw c.cells.ensures.cells at (item_at c.cells.result.now c.args.place c.index-cells-place.result c.index-cells-place.is lt)

pub register_width-width-requires-clause-fits : goal.register_width-width-requires-clause-fits
register_width-width-requires-clause-fits c = c.requires.fits c.index-cells-place.result (there (goal.at.register_width-width-requires-clause-fits c).After-index-cells-place)

pub register_width-width-requires-clause-room : goal.register_width-width-requires-clause-room
register_width-width-requires-clause-room c =
    let at = there (goal.at.register_width-width-requires-clause-room c).After-index-cells-place in
    let cell = c.index-cells-place.result in
    let room =
    room-wire c.args.design.now c.requires.shape c.requires.room c.args.place c.args.low.now c.args.muxes.now.items c.args.number c.requires.passing cell at (c.requires.fits c.index-cells-place.result at) in
    omega (arith, room)

pub kept_wire-requires-clause-free : goal.kept_wire-requires-clause-free
kept_wire-requires-clause-free c =
    free-soon c.args.design.now c.requires.shape c.requires.room c.args.place c.args.low.now c.args.muxes.now.items c.args.number c.requires.passing c.args.known.now.names c.requires.names

pub kept_wire-requires-clause-fits : goal.kept_wire-requires-clause-fits
kept_wire-requires-clause-fits c = λ x place.
    let at = there (goal.at.kept_wire-requires-clause-fits c).After-index-cells-place in
    let same = one_at c.args.design.now.cells c.args.place c.index-cells-place.result x at place in
    (c.requires.fits x place, subst (λ (y : CellOf). number_at y.parameters Width ≡ c.register_width-width.result) same c.register_width-width.ensures)

pub overflow_cast-kept : goal.overflow_cast-kept
overflow_cast-kept c =
    let same : length c.wires.result.now ≡ length c.args.low.now.wires = ap (λ (l : List WireOf). length l) c.wires.ensures.wires in
    omega (arith, wires-few c.args.low.now c.wires.ensures.design, c.wires.ensures.design.bits, same)

pub push_wire-requires-clause-room : goal.push_wire-requires-clause-room
push_wire-requires-clause-room c =
    let at = there (goal.at.push_wire-requires-clause-room c).After-index-cells-place in
    let cell = c.index-cells-place.result in
    let room =
    room-wire c.args.design.now c.requires.shape c.requires.room c.args.place c.args.low.now c.args.muxes.now.items c.args.number c.requires.passing cell at (c.requires.fits c.index-cells-place.result at) in
    let wide = c.in_ok-number.ensures.wire.2 c.index-cells-place.result at in
    omega (arith, room, wide)

pub register-requires-clause-some : goal.register-requires-clause-some
register-requires-clause-some c =
    let at = there (goal.at.register-requires-clause-some c).After-index-cells-place in
    let some = (has-reset c.index-cells-place.result (c.requires.fits c.index-cells-place.result at)).some in
    omega (arith, some, c.register_width-width.ensures)

pub shown-requires-clause-some : goal.shown-requires-clause-some
shown-requires-clause-some c =
    let at = there (goal.at.shown-requires-clause-some c).After-index-cells-place in
    let some = (has-reset c.index-cells-place.result (c.requires.fits c.index-cells-place.result at)).some in
    omega (arith, some, c.register_width-width.ensures)

pub shown-requires-clause-polarity : goal.shown-requires-clause-polarity
shown-requires-clause-polarity c =
    let at = there (goal.at.shown-requires-clause-polarity c).After-index-cells-place in
    (has-reset c.index-cells-place.result (c.requires.fits c.index-cells-place.result at)).polarity

pub push_cell-requires-clause-cell : goal.push_cell-requires-clause-cell
push_cell-requires-clause-cell c =
    let at = there (goal.at.push_cell-requires-clause-cell c).After-index-cells-place in
    let cell = c.index-cells-place.result in
    let is : c.in_ok-register.field-0 ≡ register (length c.args.low.now.wires) c.index-cells-place.result =
    c.in_ok-register.ensures ∙ ap (λ (ws : List WireOf). register (length ws) c.index-cells-place.result) c.wires.ensures.wires in
    let wire = c.in_ok-number.ensures.wire in
    subst (λ (x : CellOf). IsCellOf c.push_wire.new.self.wires c.push_wire.new.self.free x) (sym is)
    (register-fits c.args.design.now c.requires.shape c.args.place cell at c.args.low.now c.args.muxes.now.items c.args.number c.requires.passing (c.requires.fits cell at) c.in_ok-number.wire wire.0
    (wire.2 cell at) c.push_wire.new.self c.in_ok-push_wire.ensures.ok)

pub push_cell-requires-clause-few : goal.push_cell-requires-clause-few
push_cell-requires-clause-few c =
    let few =
    room-cell c.args.design.now c.requires.shape c.requires.room c.args.place c.args.low.now c.args.muxes.now.items c.args.number c.requires.passing c.requires.place in
    let same : length c.push_wire.new.self.cells ≡ length c.args.low.now.cells = ap (λ (x : DesignOf). length x.cells) c.in_ok-push_wire.ensures.ok in
    omega (arith, few, same)

pub returns-clause-passing : goal.returns-clause-passing
returns-clause-passing c =
    let at = there (goal.at.returns-clause-passing c).After-index-cells-place in
    let cell = c.index-cells-place.result in
    let low = c.args.low.now in
    let is : c.in_ok-register.field-0 ≡ register (length c.args.low.now.wires) c.index-cells-place.result =
    c.in_ok-register.ensures ∙ ap (λ (ws : List WireOf). register (length ws) c.index-cells-place.result) c.wires.ensures.wires in
    let next : c.push_cell.new.self ≡ record c.args.low.now {
      wires = c.args.low.now.wires ++ c.in_ok-number.wire ∷ [];
      cells = c.args.low.now.cells ++ register (length c.args.low.now.wires) c.index-cells-place.result ∷ [];
    } =
    c.in_ok-push_cell.ensures.ok
    ∙ (ap (λ (x : DesignOf). record x { cells = x.cells ++ c.in_ok-register.field-0 ∷ [] }) c.in_ok-push_wire.ensures.ok
    ∙ ap (λ (r : CellOf). record c.args.low.now { wires = c.args.low.now.wires ++ c.in_ok-number.wire ∷ []; cells = c.args.low.now.cells ++ r ∷ [] }) is) in
    let mux : c.in_ok-shown.field-0 ≡ shown (length c.args.low.now.wires) c.index-cells-place.result =
    c.in_ok-shown.ensures ∙ ap (λ (ws : List WireOf). shown (length ws) c.index-cells-place.result) c.wires.ensures.wires in
    let more : c.push.new.self.items ≡ c.args.muxes.now.items ++ shown (length c.args.low.now.wires) c.index-cells-place.result ∷ [] =
    c.in_ok-push.ensures.items ∙ ap (λ (x : CellOf). c.args.muxes.now.items ++ x ∷ []) mux in
    let n = c.in_ok-number.ensures.number in
    let name = c.in_ok-number.ensures.name in
    let wire = c.in_ok-number.ensures.wire in
    passing-lower c.args.design.now c.requires.shape c.args.place cell at low c.args.muxes.now.items c.args.number c.requires.passing (c.requires.fits cell at) c.in_ok-number.wire wire.0 (wire.2 cell at)
    c.args.known.now.names c.requires.names c.in_ok-number.number n.0 n.1 n.2 name.0 name.1 wire.1 c.in_ok-number.ensures.digits c.push_cell.new.self next c.push.new.self.items more
