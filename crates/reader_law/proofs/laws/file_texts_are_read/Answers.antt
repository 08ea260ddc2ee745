use Rattle.reader_law.proofs.FileSteps.{file_read}
use Rattle.reader_law.proofs.PrintedTexts.{printed_text}
use Rattle.reader_law.proofs.laws.file_texts_are_read.Goals as goal

pub returns-clause-read : goal.returns-clause-read
returns-clause-read c = file_read

pub returns-clause-printed : goal.returns-clause-printed
returns-clause-printed c = printed_text
