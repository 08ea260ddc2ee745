use Rattle.sby_words.proofs.WordsPlain.{plain_words_ask}
use Rattle.sby_words.proofs.words.plain_words_are_asked.Goals as goal

pub returns : goal.returns
returns c = plain_words_ask
