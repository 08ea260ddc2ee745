use Rattle.std.proofs.Common.{◌∙◌}
use Rattle.design_reader.proofs.DigitLemmas.{closed_is}
use Rattle.design_reader.proofs.parameter_digits.numbered_constant.Goals as goal

pub returns-in-Some : goal.returns-in-Some
returns-in-Some c = closed_is c.args.first c.args.digits.now _ c.in-Some.ensures.closed (c.number_of.ensures ∙ c.in-Some.ensures.digits)
