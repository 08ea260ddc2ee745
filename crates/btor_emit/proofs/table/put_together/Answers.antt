use Rattle.std.proofs.Common.{arith}
use Rattle.btor_words.proofs.Emitting.{both, still}
use Rattle.btor_emit.proofs.Gathering.{all_parts, first_part, one_above, seats_stay}
use Rattle.btor_emit.proofs.table.put_together.Goals as goal

pub loop-done-init : goal.loop-done-init
loop-done-init c = record {
  most = c.in_ok-row.ensures.most;
  btor = c.in_ok-row.ensures.row.adds.btor;
  seats = seats_stay c.args.draft.now c.part_at.new.draft _ _ c.args.table.now c.in_ok-row.ensures.row.adds c.requires.seats;
  so_far = first_part c.args.draft.now c.part_at.new.draft c.args.table.now c.args.places.now c.in_ok-row.done c.in_ok-row.row c.requires.btor c.in_ok-row.ensures.some c.in_ok-row.ensures.row;
}

pub above-requires-clause-low : goal.above-requires-clause-low
above-requires-clause-low c = still c.in_ok-part.ensures.row.adds c.loop-done.invariant.so_far.word

pub above-requires-clause-high : goal.above-requires-clause-high
above-requires-clause-high c = c.in_ok-part.ensures.row.word

pub above-requires-clause-width : goal.above-requires-clause-width
above-requires-clause-width c =
    let a = c.loop-done.invariant.so_far.size in
    let b = c.in_ok-part.ensures.row.size in
    let m = c.in_ok-part.ensures.most in
    let s = c.in_ok-part.ensures.some in
    let w = c.requires.width.1 in
    omega arith

pub loop-done-preserved : goal.loop-done-preserved
loop-done-preserved c = record {
  most = c.in_ok-part.ensures.most;
  btor = c.in_ok-row-2.ensures.row.adds.btor;
  seats = seats_stay c.loop-done.draft c.above.new.draft _ _ c.args.table.now (both c.in_ok-part.ensures.row.adds c.in_ok-row-2.ensures.row.adds) c.loop-done.invariant.seats;
  so_far = one_above c.args.draft.now c.loop-done.draft c.part_at-in-loop-done.new.draft c.above.new.draft c.args.table.now c.args.places.now c.loop-done.done c.in_ok-part.end c.loop-done.row c.in_ok-part.part c.in_ok-row-2.row
      c.requires.btor c.in_ok-part.ensures.some c.loop-done.invariant.so_far c.in_ok-part.ensures.row c.in_ok-row-2.ensures.row;
}

pub returns : goal.returns
returns c = record {
  row = (let m = c.loop-done.invariant.most in
      let t = c.loop-done-test.false in
      all_parts c.args.draft.now c.loop-done.draft c.args.table.now c.args.places.now c.loop-done.done c.loop-done.row c.requires.btor (omega arith) c.loop-done.invariant.so_far);
}
