use Rattle.std.proofs.Common.{◌≡◌, ◌∙◌, ◌<◌, ℕ, List, Some, ap, sym, subst, length, arith}
use Rattle.std.specs.Prelude.{slice_get}
use Rattle.std.proofs.lemmas.List.{length-map}
use Rattle.std.proofs.lemmas.Result.{on_ok_weaker}
use Rattle.design_core.proofs.Lists.{item_at}
use Rattle.design_core.specs.Asked.{output_of}
use Rattle.design_core.specs.Places.{place_of}
use Rattle.design_core.specs.Shape.{CellOf, DesignOf}
use Rattle.design_core.specs.Table.{role_of}
use Rattle.design_meaning.specs.Meaning.{IsCell}
use Rattle.word_model.specs.Layout.{signal_places}
use Rattle.word_model.proofs.Making.{kept-made}
use Rattle.word_model.proofs.Numbering.{kept-states, no-states, signal-states, states-each}
use Rattle.word_model.proofs.Placed.{first-is}
use Rattle.word_model.proofs.numbers.fill_states.Goals as goal
use Rattle.word_model.proofs.numbers.fill_states.Goals.{After-role_of}

cells : (c : After-role_of) → c.cells-cells.result.now ≡ c.args.flat.now.cells
cells c = c.cells-cells.ensures.cells ∙ ap (λ (d : DesignOf). d.cells) c.design-design.ensures.design

cell : (c : After-role_of) → IsCell c.args.flat.now c.args.place c.index-cells-place.result
cell c =
    subst (λ (l : List CellOf). slice_get l c.args.place ≡ Some c.index-cells-place.result) (cells c)
    (item_at c.cells-cells.result.now c.args.place c.index-cells-place.result c.index-cells-place.is (subst (λ (l : List CellOf). c.args.place < length l) (sym (cells c)) c.requires.place))

role : (c : After-role_of) → role_of c.index-cells-place.result.kind ≡ c.role_of.result
role c = sym (c.role_of.ensures ∙ ap role_of c.kind.ensures)

pub returns-in-Register : goal.returns-in-Register
returns-in-Register c =
    let x = (goal.at.returns-in-Register c).After-role_of in
    let d = c.args.flat.now in
    on_ok_weaker c.fill_output.result
    (λ e. states-each d c.args.place c.index-cells-place.result (cell x) c.fill_output.new.row.items
    (e ∙ (ap (λ (g : DesignOf). signal_places g (output_of c.index-cells-place.result)) c.design-design.ensures.design ∙ sym (signal-states d c.args.place c.index-cells-place.result c.role_of.result (role x) c.in-Register.is))))
    c.fill_output.ensures

pub returns-in_ok-fill_output-in-AsyncResetRegister : goal.returns-in_ok-fill_output-in-AsyncResetRegister
returns-in_ok-fill_output-in-AsyncResetRegister c =
    let x = (goal.at.returns-in_ok-fill_output-in-AsyncResetRegister c).After-role_of in
    let d = c.args.flat.now in
    let y = c.index-cells-place.result in
    let wide : c.len-count.result ≡ length (output_of c.index-cells-place.result) =
    omega (arith, c.len-count.ensures, c.fill_output-in-AsyncResetRegister.new.row.ok.0, ap length c.in_ok-fill_output-in-AsyncResetRegister.ensures, length-map (output_of c.index-cells-place.result) (place_of c.design-design.result.now)) in
    on_ok_weaker c.fill_range.result
    (λ e. states-each d c.args.place y (cell x) c.fill_range.new.row.items
    (e ∙ (kept-made d c.args.place y _ (first-is d c.args.offsets.now c.requires.offsets c.args.place y (cell x)) c.len-count.result wide ∙ sym (kept-states d c.args.place y (role x ∙ c.in-AsyncResetRegister.is)))))
    c.fill_range.ensures

pub returns-in-Combinational : goal.returns-in-Combinational
returns-in-Combinational c =
    let x = (goal.at.returns-in-Combinational c).After-role_of in
    states-each c.args.flat.now c.args.place c.index-cells-place.result (cell x) c.clear.new.self.items
    (c.clear.ensures.items ∙ sym (no-states c.args.flat.now c.args.place c.index-cells-place.result c.role_of.result (role x) c.in-Combinational.is))
