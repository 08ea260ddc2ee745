use Rattle.reader_law.proofs.ConstantForms.{only_attributes, only_constants}
use Rattle.reader_law.proofs.laws.read_constants_have_texts.Goals as goal

pub returns-clause-constant : goal.returns-clause-constant
returns-clause-constant c = only_constants

pub returns-clause-attribute : goal.returns-clause-attribute
returns-clause-attribute c = only_attributes
