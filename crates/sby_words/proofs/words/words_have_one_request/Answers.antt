use Rattle.sby_words.proofs.AskedLemmas.{answer_is_one}
use Rattle.sby_words.proofs.words.words_have_one_request.Goals as goal

pub returns : goal.returns
returns c = answer_is_one
