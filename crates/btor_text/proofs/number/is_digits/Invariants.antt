use Rattle.std.proofs.Common.{◌≡◌, take, true}
use Rattle.std.specs.List.{list_all}
use Rattle.sby_terms.specs.Number.{is_digit}
use Rattle.btor_text.proofs.number.is_digits.Given as goal

abbrev pub invariant-loop-b : goal.invariant-loop-b
invariant-loop-b l = list_all is_digit (take l.b-index l.word) ≡ true
