use Rattle.std.proofs.Common.{◌≡◌, ◌<◌, ◌∙◌, Some, length, sym, subst}
use Rattle.std.specs.Prelude.{slice_get, string_bytes}
use Rattle.std.proofs.lemmas.Option.{slice_get_within}
use Rattle.design_core.proofs.Lists.{item_at}
use Rattle.design_graph.proofs.Declared.{connect-declared}
use Rattle.design_graph.specs.Items.{IsItem}
use Rattle.design_graph.specs.declared.item.Item.{Item}
use Rattle.design_check.specs.Faults.{NamesItem}
use Rattle.design_check.proofs.names.item_name.Goals as goal
use Rattle.design_check.proofs.names.item_name.Goals.{After-index-connects-place}

connect : (c : After-index-connects-place) → slice_get c.args.design.now.connects c.in-Connect.place ≡ Some c.index-connects-place.result
connect c =
    let item = subst (λ (e : Item). IsItem c.args.design.now e) c.in-Connect.is c.requires in
    let lt : c.in-Connect.place < length c.connects-connects.result.now = rw c.connects-connects.ensures.connects (slice_get_within c.args.design.now.connects c.in-Connect.place item.0 item.1) in
    rw c.connects-connects.ensures.connects at (item_at c.connects-connects.result.now c.in-Connect.place c.index-connects-place.result c.index-connects-place.is lt)

pub connect_name-requires : goal.connect_name-requires
connect_name-requires c =
    let x = (goal.at.connect_name-requires c).After-index-connects-place in
    connect-declared c.args.design.now c.connects-connects.ensures.design c.in-Connect.place c.index-connects-place.result (connect x)

pub returns-in_ok-name-in-Cell : goal.returns-in_ok-name-in-Cell
returns-in_ok-name-in-Cell c =
    let item = subst (λ (e : Item). IsItem c.args.design.now e) c.in-Cell.is c.requires in
    let lt : c.in-Cell.place < length c.cells.result.now = rw c.cells.ensures.cells (slice_get_within c.args.design.now.cells c.in-Cell.place item.0 item.1) in
    let at = rw c.cells.ensures.cells at (item_at c.cells.result.now c.in-Cell.place c.index-cells-place.result c.index-cells-place.is lt) in
    subst (λ (e : Item). NamesItem c.args.design.now e (string_bytes c.in_ok-name-in-Cell.name)) (sym c.in-Cell.is)
    (c.index-cells-place.result, at, c.in_ok-name-in-Cell.ensures.ok ∙ c.name.ensures)

pub returns-in_ok-name-in-Connect : goal.returns-in_ok-name-in-Connect
returns-in_ok-name-in-Connect c =
    let x = (goal.at.returns-in_ok-name-in-Connect c).After-index-connects-place in
    subst (λ (e : Item). NamesItem c.args.design.now e (string_bytes c.in_ok-name-in-Connect.name)) (sym c.in-Connect.is)
    (c.index-connects-place.result, connect x, c.in_ok-name-in-Connect.ensures.ok ∙ c.connect_name.ensures)
