use Rattle.design_reader.proofs.Continuing.{goes_on_before, ends_texts, ends_at_quote}
use Rattle.design_reader.proofs.laws.refused_where_no_text_goes_on.Goals as goal

pub returns-clause-before : goal.returns-clause-before
returns-clause-before c = goes_on_before

pub returns-clause-token : goal.returns-clause-token
returns-clause-token c = ends_texts

pub returns-clause-string : goal.returns-clause-string
returns-clause-string c = ends_at_quote
