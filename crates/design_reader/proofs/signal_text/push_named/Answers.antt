use Rattle.std.proofs.Common.{◌≡◌, ◌∙◌, sym, ap, refl, List, Some, arith}
use Rattle.std.specs.Prelude.{slice_get}
use Rattle.design_core.proofs.Lists.{item_at}
use Rattle.rtlil_constant.specs.Constants.{Word}
use Rattle.design_reader.specs.Grammar.{signal_name, name_place, wire_names}
use Rattle.design_signals.specs.Parts.{wire_row}
use Rattle.design_reader.specs.Drafts.{draft_of}
use Rattle.design_reader.proofs.Declared.{rows_with, wire_declared}
use Rattle.design_reader.proofs.WireLemmas.{few_wires, place_within}
use Rattle.design_reader.proofs.signal_text.push_named.Goals as goal

pub overflow_cast-place : goal.overflow_cast-place
overflow_cast-place c =
    let d = c.args.draft.now.design in
    omega (arith, few_wires d c.wires-wires.ensures.design, place_within c.args.draft.now.wires d.wires c.in-Some.place c.requires.indexed c.in-Some.ensures.within)

pub returns-clause-step : goal.returns-clause-step
unfolding signal_name
returns-clause-step c = λ t.
    let d = c.args.draft.now.design in
    let lt = place_within c.args.draft.now.wires d.wires c.in-Some.place c.requires.indexed c.in-Some.ensures.within in
    let found : name_place (wire_names d.wires) c.args.name.now ≡ Some c.in-Some.place =
    ap (λ (names : List Word). name_place names c.args.name.now) (sym c.requires.indexed) ∙ sym c.in-Some.ensures.place in
    let at : slice_get d.wires c.in-Some.place ≡ Some c.index-wires-place.result =
    item_at d.wires c.in-Some.place c.index-wires-place.result (rw c.wires-wires.ensures.wires at c.index-wires-place.is) lt in
    rw (found, at, c.in_ok-push_wire.ensures, c.width.ensures) refl

pub returns-clause-rows : goal.returns-clause-rows
returns-clause-rows c =
    let d = c.args.draft.now.design in
    let lt = place_within c.args.draft.now.wires d.wires c.in-Some.place c.requires.indexed c.in-Some.ensures.within in
    let x = c.index-wires-place.result in
    let at : slice_get d.wires c.in-Some.place ≡ Some x = item_at d.wires c.in-Some.place x (rw c.wires-wires.ensures.wires at c.index-wires-place.is) lt in
    rw (c.in_ok-push_wire.ensures, c.width.ensures)
    (rows_with (draft_of c.args.draft.now) (wire_row c.in-Some.place x.width) c.args.segments.now (wire_declared d.wires d.free c.in-Some.place x at x.width (omega arith)) c.requires.rows)
