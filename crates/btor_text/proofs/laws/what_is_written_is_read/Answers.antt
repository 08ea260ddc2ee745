use Rattle.btor_text.proofs.Written.{written}
use Rattle.btor_text.proofs.laws.what_is_written_is_read.Goals as goal

pub returns : goal.returns
returns c = λ m fits room. record { btor = fits; room = room; text = written c.numbers_are_decimal.ensures m fits }
