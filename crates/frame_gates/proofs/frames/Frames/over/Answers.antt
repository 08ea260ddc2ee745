use Rattle.std.proofs.Common.{◌∙◌, drop, length, sym}
use Rattle.frame_gates.proofs.Lists.{take_front}
use Rattle.frame_gates.proofs.Over.{frame_over}
use Rattle.frame_gates.proofs.frames.Frames.over.Goals as goal

pub fill_over-requires-clause-table : goal.fill_over-requires-clause-table
fill_over-requires-clause-table c = rw c.as_mut_slice-lits.ensures.value c.in_ok-table.ensures.is_table

pub returns-clause-frame : goal.returns-clause-frame
returns-clause-frame c =
    let filled = rw c.as_mut_slice-lits.ensures.value at c.in_ok-fill_over.ensures.filled in
    let size = filled.is_table.size in
    let was = c.in_ok-table.ensures.is_table.size in
    let len = c.in_ok-table.table.ok.0 in
    let back = take_front c.fill_over.new.table (drop (length c.fill_over.new.table) c.in_ok-table.table.items) c.in_ok-table.table.len (len ∙ was ∙ sym size) in
    rw back
    (frame_over c.args.model.now c.args.gates.now c.fill_over.new.gates c.args.bits.now c.args.inputs.now c.in_ok-table.table.items c.fill_over.new.table c.fill_over.ensures.builds.continues c.in_ok-table.ensures filled)
