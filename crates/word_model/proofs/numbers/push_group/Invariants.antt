use Rattle.std.proofs.Common.{◌≡◌, ◌++◌, map, take}
use Rattle.std.specs.List.{enumerate_from, flat_map}
use Rattle.word_model.specs.Layout.{state_place}
use Rattle.word_model.specs.Numbers.{state_in_group}
use Rattle.word_model.proofs.numbers.push_group.Given as goal

abbrev pub invariant-loop-place : goal.invariant-loop-place
invariant-loop-place l = l.numbers.items ≡ l.fn.numbers.items ++ map (state_place l.fn.flat) (flat_map (state_in_group l.fn.group) (enumerate_from 0 (take l.place l.fn.flat.cells)))
