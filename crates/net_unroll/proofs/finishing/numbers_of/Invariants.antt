use Rattle.std.proofs.Common.{◌≡◌, ◌≤◌, ◌-◌, false, length}
use Rattle.std.specs.Prelude.{slice_index_or}
use Rattle.net_unroll.specs.Encoding.{number}
use Rattle.net_unroll.specs.Finishing.{HasNumbers}
use Rattle.net_unroll.proofs.finishing.numbers_of.Given as goal

abbrev pub invariant-loop-var : goal.invariant-loop-var
invariant-loop-var l = record {
  size : length l.numbers.items ≡ l.var;
  count : number (λ v. slice_index_or l.marks v false) (l.var - 1) ≡ l.count;
  few : l.count ≤ l.var;
  numbers : HasNumbers l.numbers.items (λ v. slice_index_or l.marks v false);
}
