use Rattle.btor_words.proofs.CellRows.{is_and, is_or, is_xnor, is_xor}
use Rattle.btor_words.proofs.cells.operator_of.Goals as goal

pub returns-in-And : goal.returns-in-And
returns-in-And c = rw c.in-And.is is_and

pub returns-in-Or : goal.returns-in-Or
returns-in-Or c = rw c.in-Or.is is_or

pub returns-in-Xor : goal.returns-in-Xor
returns-in-Xor c = rw c.in-Xor.is is_xor

pub returns-in-Xnor : goal.returns-in-Xnor
returns-in-Xnor c = rw c.in-Xnor.is is_xnor
