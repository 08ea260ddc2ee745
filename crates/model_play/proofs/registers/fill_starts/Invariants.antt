use Rattle.std.proofs.Common.{◌≡◌, ◌++◌, length, take, drop}
use Rattle.model_core.specs.Choices.{start_row, without_digit}
use Rattle.model_core.specs.Shape.{states}
use Rattle.model_play.proofs.registers.fill_starts.Given as goal

abbrev pub invariant-loop-k : goal.invariant-loop-k
invariant-loop-k l = record {
  row : start_row l.digits l.bits ≡ take l.k l.held ++ start_row (drop l.k l.digits) l.rest;
  left : length l.rest ≡ length (without_digit (drop l.k (states l.model)) (drop l.k l.digits));
}
