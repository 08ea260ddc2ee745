use Rattle.std.proofs.Common.{◌≡◌, map, take}
use Rattle.word_model.specs.Layout.{digit_place}
use Rattle.word_model.proofs.rows.fill_digits.Given as goal

abbrev pub invariant-loop-place : goal.invariant-loop-place
invariant-loop-place l = l.row.items ≡ map (digit_place l.design) (take l.place l.constant)
