use Rattle.std.proofs.Common.{rules}
use Rattle.btor_text.proofs.Digits.{length_back}
use Rattle.btor_text.proofs.widths.has_digits.Goals as goal

pub returns : goal.returns
returns c = rw (length_back c.args.digits.now) (search rules)
