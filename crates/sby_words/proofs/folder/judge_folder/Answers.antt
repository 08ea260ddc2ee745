use Rattle.std.proofs.Common.{◌∙◌, sym}
use Rattle.sby_words.proofs.FolderLemmas.{empty_is_no_folder, empty_is_no_stem}
use Rattle.sby_words.proofs.folder.judge_folder.Goals as goal
use Rattle.sby_words.proofs.folder.judge_folder.Goals.{then-is_empty, else-is_empty}

pub returns-then-is_empty-2 : goal.returns-then-is_empty-2
returns-then-is_empty-2 c folder asked = elim c.if-is_empty.branch [
  | then-is_empty w ↦ empty_is_no_stem _ _ _ folder c.design_stem-stem.ensures (sym c.is_empty.ensures ∙ w.if-is_empty.true) asked
  | else-is_empty w ↦ empty_is_no_folder c.args.directory _ c.design_stem-stem.result _ folder c.design_stem-stem.ensures c.unwrap_or-folder.ensures (sym w.is_empty-else-is_empty.ensures ∙ sym w.value-is ∙ c.if-is_empty-2.true) asked
]
