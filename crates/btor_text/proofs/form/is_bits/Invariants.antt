use Rattle.std.proofs.Common.{◌≡◌, take, true}
use Rattle.std.specs.List.{list_all}
use Rattle.btor_text.specs.Reading.{is_bit}
use Rattle.btor_text.proofs.form.is_bits.Given as goal

abbrev pub invariant-loop-b : goal.invariant-loop-b
invariant-loop-b l = list_all is_bit (take l.b-index l.word) ≡ true
