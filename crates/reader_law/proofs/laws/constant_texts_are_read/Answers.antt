use Rattle.reader_law.proofs.ConstantSteps.{attribute_token, file_value_steps, module_value_steps, printed_constant, value_steps}
use Rattle.reader_law.proofs.laws.constant_texts_are_read.Goals as goal

pub returns-clause-token : goal.returns-clause-token
returns-clause-token c = attribute_token

pub returns-clause-printed : goal.returns-clause-printed
returns-clause-printed c = printed_constant

pub returns-clause-attribute : goal.returns-clause-attribute
returns-clause-attribute c = value_steps

pub returns-clause-file_attribute : goal.returns-clause-file_attribute
returns-clause-file_attribute c = file_value_steps

pub returns-clause-module_parameter : goal.returns-clause-module_parameter
returns-clause-module_parameter c = module_value_steps
