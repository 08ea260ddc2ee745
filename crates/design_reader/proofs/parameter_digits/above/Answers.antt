use Rattle.std.proofs.Common.{ap, sym, replicate}
use Rattle.design_core.specs.declared.digit.Digit.{Digit}
use Rattle.design_reader.proofs.DigitLemmas.{open_fill}
use Rattle.design_reader.proofs.parameter_digits.above.Goals as goal

pub returns-else-fill-eq48 : goal.returns-else-fill-eq48
returns-else-fill-eq48 c = ap (λ (x : Digit). replicate c.args.count x) (sym (open_fill c.args.fill c.requires c.if-fill-eq48.false))
