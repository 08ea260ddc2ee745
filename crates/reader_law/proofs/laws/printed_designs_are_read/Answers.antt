use Rattle.reader_law.proofs.PrintedTexts.{printed_read, words_read}
use Rattle.reader_law.proofs.laws.printed_designs_are_read.Goals as goal

pub returns-clause-printed : goal.returns-clause-printed
returns-clause-printed c = printed_read

pub returns-clause-words : goal.returns-clause-words
returns-clause-words c = words_read
