use Rattle.cert_stream.proofs.Reading.{word_read}
use Rattle.cert_stream.proofs.laws.words_are_read.Goals as goal

pub returns : goal.returns
returns c = word_read
