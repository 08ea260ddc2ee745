use Rattle.std.proofs.Common.{◌<◌, ◌∙◌, length, sym}
use Rattle.std.proofs.lemmas.List.{append-nil}
use Rattle.model_core.proofs.Lists.{at_place}
use Rattle.word_model.proofs.Numbering.{group-next}
use Rattle.word_model.proofs.numbers.push_group.Goals as goal

pub loop-place-init : goal.loop-place-init
loop-place-init c = sym (append-nil c.args.numbers.now.items)

pub loop-place-preserved : goal.loop-place-preserved
loop-place-preserved c =
    let lt : c.loop-place.place < length c.args.flat.now.cells = rw (c.cells-cells.ensures.cells, c.design.ensures.design) at c.loop-place-test.true in
    let x = at_place c.args.flat.now.cells c.loop-place.place lt in
    c.in_ok-push_cell.ensures x.0 x.1 ∙ group-next c.args.flat.now c.args.group c.loop-place.place x.0 c.args.numbers.now.items c.loop-place.numbers.items x.1 c.loop-place.invariant
