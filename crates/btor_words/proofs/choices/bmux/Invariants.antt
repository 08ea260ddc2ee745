use Rattle.std.proofs.Common.{◌*◌, ◌-◌, ◌^◌, ◌≤◌, drop}
use Rattle.sby_bits.specs.Rows.{num}
use Rattle.cell_table.specs.Cells.{slice_number}
use Rattle.btor_words.specs.Emitting.{Emits}
use Rattle.btor_words.proofs.choices.bmux.Given as goal

abbrev pub decreases-loop-left : goal.decreases-loop-left
decreases-loop-left l = l.left

abbrev pub invariant-loop-left : goal.invariant-loop-left
invariant-loop-left l = record {
  below : l.left ≤ l.s.width;
  so_far : Emits l.initial.draft l.draft l.chosen (l.width * 2 ^ l.left) (8 * (l.s.width - l.left)) (λ vs. slice_number (l.width * 2 ^ l.left) (vs l.fn.a.nid) (num (drop l.left (vs l.s.nid))));
}
