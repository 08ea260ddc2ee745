use Rattle.std.proofs.Common.{◌≡◌, ◌∙◌, ℕ, ◌<◌, ◌≤◌, ◌∷◌, [], List, Some, true, refl, ap, sym, subst, length, arith}
use Rattle.std.specs.Prelude.{slice_get}
use Rattle.std.proofs.lemmas.List.{length-map}
use Rattle.std.proofs.lemmas.Result.{on_ok_weaker}
use Rattle.design_core.proofs.Lists.{item_at, one_at}
use Rattle.design_core.specs.Asked.{output_of}
use Rattle.design_core.specs.Places.{place_of}
use Rattle.design_core.specs.Shape.{CellOf, DesignOf, IsDesign}
use Rattle.design_core.specs.Table.{role_of}
use Rattle.design_core.specs.declared.table.Role.{Role}
use Rattle.design_core.specs.declared.table.Role.TheVariants.{Constant, Initial, Register, AsyncResetRegister}
use Rattle.design_meaning.specs.Meaning.{IsCell, is_register}
use Rattle.word_model.specs.Layout.{signal_places}
use Rattle.word_model.specs.Registers.{HasOneWidth, IsRegistered, registers_of, registers_of_role, table_register}
use Rattle.word_model.specs.Served.{IsServed}
use Rattle.word_model.proofs.Making.{kept-long, kept-made}
use Rattle.word_model.proofs.Registering.{by-role, for-each, none-kept}
use Rattle.word_model.proofs.Placed.{first-is}
use Rattle.word_model.proofs.Widths.{initial-width, one-width, outputs-few, served}
use Rattle.word_model.proofs.registers.push_register.Goals as goal
use Rattle.word_model.proofs.registers.push_register.Goals.{After-role_of}

cells : (c : After-role_of) → c.cells-cells.result.now ≡ c.args.flat.now.cells
cells c = c.cells-cells.ensures.cells ∙ ap (λ (d : DesignOf). d.cells) c.design-design.ensures.design

cell : (c : After-role_of) → IsCell c.args.flat.now c.args.place c.index-cells-place.result
cell c =
    subst (λ (l : List CellOf). slice_get l c.args.place ≡ Some c.index-cells-place.result) (cells c)
    (item_at c.cells-cells.result.now c.args.place c.index-cells-place.result c.index-cells-place.is (subst (λ (l : List CellOf). c.args.place < length l) (sym (cells c)) c.requires.place))

shape : (c : After-role_of) → IsDesign c.args.flat.now
shape c = subst IsDesign c.design-design.ensures.design c.cells-cells.ensures.design

role : (c : After-role_of) → c.role_of.result ≡ role_of c.index-cells-place.result.kind
role c = c.role_of.ensures ∙ ap role_of c.kind.ensures

is-served : (c : After-role_of) → IsServed c.args.flat.now c.index-cells-place.result
is-served c = served c.args.flat.now (shape c) c.design-design.ensures.flat c.args.place c.index-cells-place.result (cell c)

is-few : (c : After-role_of) → length (output_of c.index-cells-place.result) ≤ 4096
is-few c = outputs-few c.args.flat.now (shape c) c.design-design.ensures.flat c.args.place c.index-cells-place.result (cell c)

is-one : (c : After-role_of) (r : Role) → c.role_of.result ≡ r → is_register r ≡ true → HasOneWidth c.args.flat.now c.index-cells-place.result
is-one c r e t =
    one-width c.args.flat.now (shape c) c.design-design.ensures.flat c.args.place c.index-cells-place.result (cell c) (ap is_register (sym (role c) ∙ e) ∙ t)

pub push_held-requires-clause-cell : goal.push_held-requires-clause-cell
push_held-requires-clause-cell c = is-served (goal.at.push_held-requires-clause-cell c).After-role_of

pub push_held-requires-clause-few : goal.push_held-requires-clause-few
push_held-requires-clause-few c = is-few (goal.at.push_held-requires-clause-few c).After-role_of

pub push_held-requires-clause-widths : goal.push_held-requires-clause-widths
push_held-requires-clause-widths c = is-one (goal.at.push_held-requires-clause-widths c).After-role_of Register c.in-Register.is refl

pub push_held-requires-in-AsyncResetRegister-clause-cell : goal.push_held-requires-in-AsyncResetRegister-clause-cell
push_held-requires-in-AsyncResetRegister-clause-cell c = is-served (goal.at.push_held-requires-in-AsyncResetRegister-clause-cell c).After-role_of

pub push_held-requires-in-AsyncResetRegister-clause-few : goal.push_held-requires-in-AsyncResetRegister-clause-few
push_held-requires-in-AsyncResetRegister-clause-few c = is-few (goal.at.push_held-requires-in-AsyncResetRegister-clause-few c).After-role_of

pub push_held-requires-in-AsyncResetRegister-clause-widths : goal.push_held-requires-in-AsyncResetRegister-clause-widths
push_held-requires-in-AsyncResetRegister-clause-widths c = is-one (goal.at.push_held-requires-in-AsyncResetRegister-clause-widths c).After-role_of AsyncResetRegister c.in-AsyncResetRegister.is refl

pub push_constant-requires-clause-cell : goal.push_constant-requires-clause-cell
push_constant-requires-clause-cell c = rw c.design-design.ensures.design (is-served (goal.at.push_constant-requires-clause-cell c).After-role_of)

pub push_constant-requires-clause-few : goal.push_constant-requires-clause-few
push_constant-requires-clause-few c = is-few (goal.at.push_constant-requires-clause-few c).After-role_of

pub push_initial-requires-clause-cell : goal.push_initial-requires-clause-cell
push_initial-requires-clause-cell c = rw c.design-design.ensures.design (is-served (goal.at.push_initial-requires-clause-cell c).After-role_of)

pub push_initial-requires-clause-bit : goal.push_initial-requires-clause-bit
push_initial-requires-clause-bit c =
    let x = (goal.at.push_initial-requires-clause-bit c).After-role_of in
    initial-width c.args.flat.now (shape x) c.design-design.ensures.flat c.args.place c.index-cells-place.result (cell x) (sym (role x) ∙ c.in-Initial.is)

pub push_held-requires-in-AsyncResetRegister-clause-q : goal.push_held-requires-in-AsyncResetRegister-clause-q
push_held-requires-in-AsyncResetRegister-clause-q c =
    let x = (goal.at.push_held-requires-in-AsyncResetRegister-clause-q c).After-role_of in
    let wide : c.len.result ≡ length (output_of c.index-cells-place.result) =
    omega (arith, c.len.ensures, c.fill_output-in-AsyncResetRegister.new.row.ok.0, ap length c.in_ok-fill_output-in-AsyncResetRegister.ensures, length-map (output_of c.index-cells-place.result) (place_of c.design-design.result.now)) in
    ap length (c.in_ok-fill_range-in-AsyncResetRegister.ensures ∙ kept-made c.args.flat.now c.args.place c.index-cells-place.result _ (first-is c.args.flat.now c.args.offsets.now c.requires.offsets c.args.place c.index-cells-place.result (cell x)) c.len.result wide)
    ∙ kept-long c.args.flat.now c.args.place (length (output_of c.index-cells-place.result))

pub returns-in_ok-fill_output-in-Register : goal.returns-in_ok-fill_output-in-Register
returns-in_ok-fill_output-in-Register c =
    let x = (goal.at.returns-in_ok-fill_output-in-Register c).After-role_of in
    let d = c.args.flat.now in
    let y = c.index-cells-place.result in
    let q = rw c.design-design.ensures.design at c.in_ok-fill_output-in-Register.ensures in
    on_ok_weaker c.push_held.result
    (λ e. by-role d c.args.place y (cell x) c.args.draft.now c.push_held.new.draft Register (sym (role x) ∙ c.in-Register.is)
    (subst (λ (l : List ℕ). IsRegistered c.args.flat.now c.args.place c.index-cells-place.result (table_register c.args.flat.now c.index-cells-place.result l ∷ []) c.args.draft.now c.push_held.new.draft) q (e c.args.place (cell x))))
    c.push_held.ensures

pub returns-in_ok-fill_range-in-AsyncResetRegister : goal.returns-in_ok-fill_range-in-AsyncResetRegister
returns-in_ok-fill_range-in-AsyncResetRegister c =
    let x = (goal.at.returns-in_ok-fill_range-in-AsyncResetRegister c).After-role_of in
    let d = c.args.flat.now in
    let y = c.index-cells-place.result in
    let wide : c.len.result ≡ length (output_of c.index-cells-place.result) =
    omega (arith, c.len.ensures, c.fill_output-in-AsyncResetRegister.new.row.ok.0, ap length c.in_ok-fill_output-in-AsyncResetRegister.ensures, length-map (output_of c.index-cells-place.result) (place_of c.design-design.result.now)) in
    let q = c.in_ok-fill_range-in-AsyncResetRegister.ensures ∙ kept-made d c.args.place y _ (first-is d c.args.offsets.now c.requires.offsets c.args.place y (cell x)) c.len.result wide in
    on_ok_weaker c.push_held-in-AsyncResetRegister.result
    (λ e. by-role d c.args.place y (cell x) c.args.draft.now c.push_held-in-AsyncResetRegister.new.draft AsyncResetRegister (sym (role x) ∙ c.in-AsyncResetRegister.is)
    (subst (λ (l : List ℕ). IsRegistered c.args.flat.now c.args.place c.index-cells-place.result (table_register c.args.flat.now c.index-cells-place.result l ∷ []) c.args.draft.now c.push_held-in-AsyncResetRegister.new.draft) q (e c.args.place (cell x))))
    c.push_held-in-AsyncResetRegister.ensures

pub returns-in-Constant : goal.returns-in-Constant
returns-in-Constant c =
    let x = (goal.at.returns-in-Constant c).After-role_of in
    on_ok_weaker c.push_constant.result
    (λ e. for-each c.args.flat.now c.args.place c.index-cells-place.result (cell x) c.args.draft.now c.push_constant.new.draft (e c.args.place))
    (rw c.design-design.ensures.design at c.push_constant.ensures)

pub returns-in-Initial : goal.returns-in-Initial
returns-in-Initial c =
    let x = (goal.at.returns-in-Initial c).After-role_of in
    on_ok_weaker c.push_initial.result
    (λ e. for-each c.args.flat.now c.args.place c.index-cells-place.result (cell x) c.args.draft.now c.push_initial.new.draft (e c.args.place))
    (rw c.design-design.ensures.design at c.push_initial.ensures)

pub returns-in-Combinational : goal.returns-in-Combinational
returns-in-Combinational c =
    let x = (goal.at.returns-in-Combinational c).After-role_of in
    none-kept c.args.flat.now c.args.place c.index-cells-place.result (cell x) c.args.draft.now c.role_of.result (sym (role x)) c.in-Combinational.is
