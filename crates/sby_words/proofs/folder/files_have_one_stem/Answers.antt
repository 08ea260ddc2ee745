use Rattle.sby_words.proofs.FolderLemmas.{stem_is_one}
use Rattle.sby_words.proofs.folder.files_have_one_stem.Goals as goal

pub returns : goal.returns
returns c = stem_is_one
