use Rattle.std.proofs.Common.{◌≡◌, ◌↔◌, ◌+◌, ◌∙◌, drop, sym, Some}
use Rattle.std.proofs.lemmas.Bool.{false≢true}
use Rattle.std.specs.Prelude.{slice_get}
use Rattle.design_core.proofs.Lists.{item_at}
use Rattle.design_lower.specs.Room.{HasRoom}
use Rattle.design_lower.proofs.Leaving.{IsRoomFor, room-pass, room-take, through}
use Rattle.design_lower.proofs.room.has_room.Goals as goal
use Rattle.design_lower.proofs.room.has_room.Goals.{then-fits+in-Some, else-fits}

pub loop-cell-preserved : goal.loop-cell-preserved
loop-cell-preserved c =
    let d = c.args.design.now in
    let i = c.loop-cell.cell-index in
    let at : slice_get c.args.design.now.cells c.loop-cell.cell-index ≡ Some c.cell-item.result =
    rw c.cells-cells.ensures.cells at (item_at c.cells-cells.result.now c.loop-cell.cell-index c.cell-item.result c.cell-item.is c.loop-cell-test.true) in
    elim c.if-fits.branch as (λ _. IsRoomFor (drop (c.loop-cell.cell-index + 1) c.args.design.now.cells) c.if-fits.room.bits c.if-fits.room.cells ↔ HasRoom c.args.design.now) [
      | then-fits+in-Some w ↦
          let left = w.in-Some.ensures.some in
          rw w.room-is (through (room-take d.cells i c.cell-item.result at (c.fits.ensures.0 w.if-fits.true) c.loop-cell.room.bits c.loop-cell.room.cells w.in-Some.left.bits w.in-Some.left.cells left.0 left.1) c.loop-cell.invariant)
      | else-fits w ↦
          rw w.room-is (through (room-pass d.cells i c.cell-item.result at c.loop-cell.room.bits c.loop-cell.room.cells (λ f. false≢true (sym w.if-fits.false ∙ c.fits.ensures.1 f))) c.loop-cell.invariant)
    ]
