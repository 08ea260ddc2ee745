use Rattle.design_reader.proofs.Continuing.{text_reads, reads_text}
use Rattle.design_reader.proofs.laws.texts_are_read.Goals as goal

pub returns-clause-reads : goal.returns-clause-reads
returns-clause-reads c = text_reads

pub returns-clause-text : goal.returns-clause-text
returns-clause-text c = reads_text
