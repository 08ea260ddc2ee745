use Rattle.std.proofs.Common.{◌∙◌, sym, subst, option_map, List, ℕ}
use Rattle.std.specs.List.{slice_index_or}
use Rattle.sby_words.specs.Folders.{IsFolder}
use Rattle.sby_words.proofs.ListLemmas.{judge_list, no_text, nowhere, stands}
use Rattle.sby_words.proofs.request.judge_parts.Goals as goal

pub returns-in_default-judge_folder : goal.returns-in_default-judge_folder
returns-in_default-judge_folder c r j =
    let is = stands _ _ r c.args.list.now nowhere c.in-len3-up.len_at_least j in
    c.in_default-judge_folder.ensures r.folder (subst (λ (d : List ℕ). IsFolder (option_map (λ s. s.now) c.args.directory) d r.folder) is.design_is j.folder)

pub returns : goal.returns
returns c = record {
  word = (slice_index_or c.args.list.now 2 nowhere).now;
  parts = judge_list c.args.list.now nowhere c.in-len3-up.len_at_least _ c.in-Some.ensures;
  depth = c.in-Some-depth_of.ensures;
  folder = c.in-Some-judge_folder.ensures;
  no_limit = no_text c.args.jobs (sym c.is_some.ensures ∙ c.if-is_some.false);
}
