use Rattle.std.proofs.Common.{◌*◌, ◌-◌, ◌≤◌, drop}
use Rattle.cell_table.specs.Cells.{pmux_fn}
use Rattle.btor_words.specs.Emitting.{Emits}
use Rattle.btor_words.proofs.choices.pmux.Given as goal

abbrev pub decreases-loop-left : goal.decreases-loop-left
decreases-loop-left l = l.left

abbrev pub invariant-loop-left : goal.invariant-loop-left
invariant-loop-left l = record {
  below : l.left ≤ l.s.width;
  so_far : Emits l.initial.draft l.draft l.chosen l.fn.a.width (6 * (l.s.width - l.left)) (λ vs. pmux_fn l.fn.a.width (vs l.fn.a.nid) (drop (l.fn.a.width * l.left) (vs l.b.nid)) (drop l.left (vs l.s.nid)));
}
