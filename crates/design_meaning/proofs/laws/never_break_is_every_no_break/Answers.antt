use Rattle.std.proofs.Common.{◌<◌, arith}
use Rattle.design_meaning.proofs.laws.never_break_is_every_no_break.Goals as goal

pub returns : goal.returns
returns c = record {
  never = λ d h. h;
  every = λ d h k n m vs a lt le shows. let some : 0 < m = omega arith in h n m vs a some le shows;
}
