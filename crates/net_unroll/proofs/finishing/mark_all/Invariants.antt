use Rattle.std.proofs.Common.{◌≡◌, ◌||◌, false, length, take}
use Rattle.std.specs.Prelude.{slice_index_or}
use Rattle.bit_net.specs.Reaching.{is_one_of}
use Rattle.net_unroll.specs.Finishing.{HasMarks}
use Rattle.net_unroll.proofs.finishing.mark_all.Given as goal

abbrev pub invariant-loop-lit : goal.invariant-loop-lit
invariant-loop-lit l = record {
  size : length l.marks.items ≡ length l.fn.marks.items;
  marks : HasMarks l.marks.items (λ v. slice_index_or l.fn.marks.items v false || is_one_of (take l.lit-index l.lits) v);
}
