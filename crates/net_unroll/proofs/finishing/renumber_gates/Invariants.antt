use Rattle.std.proofs.Common.{◌≡◌, ◌≤◌, ℕ, Bool, take, drop, map, length}
use Rattle.std.specs.List.{filter}
use Rattle.net_unroll.specs.Encoding.{renumbered_entry}
use Rattle.net_unroll.specs.Finishing.{HasMarks, HasNumbers}
use Rattle.net_unroll.proofs.finishing.renumber_gates.Given as goal

abbrev pub invariant-loop-place : goal.invariant-loop-place
invariant-loop-place l = record {
  size : length l.kept.items ≡ length l.fn.kept.items;
  count : l.count ≤ l.place;
  done : (test : ℕ → Bool) → HasNumbers l.numbers test → HasMarks l.marks test → take l.count l.kept.items ≡ map (renumbered_entry test) (filter (λ e. test e.1.var) (take l.place l.fn.kept.items));
  rest : drop l.place l.kept.items ≡ drop l.place l.fn.kept.items;
}
