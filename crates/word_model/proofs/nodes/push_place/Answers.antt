use Rattle.std.proofs.Common.{◌≡◌, ◌∙◌, ◌+◌, ◌≤◌, ◌<◌, Some, true, refl, ap, sym, subst, length, arith}
use Rattle.std.specs.Prelude.{slice_get}
use Rattle.std.proofs.lemmas.Option.{slice_get_within}
use Rattle.std.proofs.lemmas.Result.{on_ok_weaker}
use Rattle.design_core.proofs.Lists.{item_is}
use Rattle.design_core.proofs.Places.{sum_by-within}
use Rattle.design_core.specs.Asked.{output_of}
use Rattle.design_core.specs.Shape.{CellOf}
use Rattle.design_core.specs.Table.{role_of}
use Rattle.design_core.specs.declared.table.Role.{Role}
use Rattle.design_core.specs.declared.table.Role.TheVariants.{Combinational, AsyncResetRegister}
use Rattle.design_graph.specs.Order.{is_in_cycle}
use Rattle.design_meaning.specs.Meaning.{IsCell}
use Rattle.design_meaning.specs.Runs.{kept_by_role, kept_width}
use Rattle.word_model.specs.Layout.{kept_place}
use Rattle.word_model.specs.Nodes.{IsNodeOfRole, cell_node, reset_node}
use Rattle.word_model.proofs.Making.{combinational}
use Rattle.word_model.proofs.Widths.{at-once-few, outputs-few, served}
use Rattle.word_model.proofs.nodes.push_place.Goals as goal
use Rattle.word_model.proofs.nodes.push_place.Goals.{After-role_of}

same : (c : After-role_of) → c.index-cells-place.result ≡ c.requires.driver.0
same c =
    item_is c.args.design.now.cells c.args.place c.index-cells-place.result c.requires.driver.0 (rw c.cells-cells.ensures.cells at c.index-cells-place.is) c.requires.driver.1

cell : (c : After-role_of) → IsCell c.args.design.now c.args.place c.index-cells-place.result
cell c = subst (λ (z : CellOf). slice_get c.args.design.now.cells c.args.place ≡ Some z) (sym (same c)) c.requires.driver.1

role : (c : After-role_of) → c.role_of.result ≡ role_of c.index-cells-place.result.kind
role c = c.role_of.ensures ∙ ap role_of c.kind.ensures

pub push_reset-requires-clause-cell : goal.push_reset-requires-clause-cell
push_reset-requires-clause-cell c =
    let x = (goal.at.push_reset-requires-clause-cell c).After-role_of in
    served c.args.design.now c.cells-cells.ensures.design c.requires.flat c.args.place c.index-cells-place.result (cell x)

pub push_reset-requires-clause-room : goal.push_reset-requires-clause-room
push_reset-requires-clause-room c =
    let x = (goal.at.push_reset-requires-clause-room c).After-role_of in
    let width : kept_width c.index-cells-place.result ≡ length (output_of c.index-cells-place.result) =
    ap (λ (r : Role). kept_by_role r (length (output_of c.index-cells-place.result))) (sym (role x) ∙ c.in-AsyncResetRegister.is) in
    let lt : c.args.place < length c.args.design.now.cells = slice_get_within c.args.design.now.cells c.args.place c.index-cells-place.result (cell x) in
    omega (arith, width, c.requires.fits, c.requires.offsets.each c.args.place (omega (arith, lt)), sum_by-within kept_width c.args.design.now.cells c.args.place c.index-cells-place.result (cell x))

pub push_reset-requires-clause-few : goal.push_reset-requires-clause-few
push_reset-requires-clause-few c =
    let x = (goal.at.push_reset-requires-clause-few c).After-role_of in
    outputs-few c.args.design.now c.cells-cells.ensures.design c.requires.flat c.args.place c.index-cells-place.result (cell x)

pub push_reset-requires-clause-value : goal.push_reset-requires-clause-value
push_reset-requires-clause-value c =
    let x = (goal.at.push_reset-requires-clause-value c).After-role_of in
    at-once-few c.args.design.now c.cells-cells.ensures.design c.requires.flat c.args.place c.index-cells-place.result (cell x) (sym (role x) ∙ c.in-AsyncResetRegister.is)

pub push_cell-requires : goal.push_cell-requires
push_cell-requires c =
    let x = (goal.at.push_cell-requires c).After-role_of in
    served c.args.design.now c.cells-cells.ensures.design c.requires.flat c.args.place c.index-cells-place.result (cell x)

pub returns-in-AsyncResetRegister : goal.returns-in-AsyncResetRegister
returns-in-AsyncResetRegister c =
    let x = (goal.at.returns-in-AsyncResetRegister c).After-role_of in
    let d = c.args.design.now in
    let y = c.index-cells-place.result in
    let lt : c.args.place < length c.args.design.now.cells = slice_get_within c.args.design.now.cells c.args.place c.index-cells-place.result (cell x) in
    let is : role_of c.index-cells-place.result.kind ≡ AsyncResetRegister = sym (role x) ∙ c.in-AsyncResetRegister.is in
    on_ok_weaker c.push_reset.result
    (λ e. (reset_node d c.args.place y, (y, cell x, subst (λ (r : Role). IsNodeOfRole r c.args.design.now c.args.place c.index-cells-place.result (reset_node c.args.design.now c.args.place c.index-cells-place.result)) (sym is) refl), e))
    (c.push_reset.ensures c.args.place (omega (arith, c.requires.offsets.each c.args.place (omega (arith, lt)))))

pub returns-in_default : goal.returns-in_default
returns-in_default c =
    let x = (goal.at.returns-in_default c).After-role_of in
    let d = c.args.design.now in
    let y = c.index-cells-place.result in
    let in_cycle : is_in_cycle (role_of c.index-cells-place.result.kind) ≡ true = subst (λ (z : CellOf). is_in_cycle (role_of z.kind) ≡ true) (sym (same x)) c.requires.driver.2 in
    let is : role_of c.index-cells-place.result.kind ≡ Combinational = combinational (role_of c.index-cells-place.result.kind) in_cycle (λ e. c.in_default.not-AsyncResetRegister (role x ∙ e)) in
    on_ok_weaker c.push_cell.result
    (λ e. (cell_node d y, (y, cell x, subst (λ (r : Role). IsNodeOfRole r c.args.design.now c.args.place c.index-cells-place.result (cell_node c.args.design.now c.index-cells-place.result)) (sym is) refl), e))
    c.push_cell.ensures
