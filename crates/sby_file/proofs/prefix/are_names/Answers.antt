use Rattle.std.proofs.Common.{rules, tests, sym, ◌∙◌, ◌≡◌, string_bytes}
use Rattle.std.specs.List.{list_all}
use Rattle.std.proofs.lemmas.List.Folds.{list_all-map}
use Rattle.std.proofs.lemmas.Iterator.{YieldsList-from_slice}
use Rattle.std.proofs.lemmas.Iterator.Search.{all_from_yields_List}
use Rattle.sby_file.specs.Prefix.{is_name}
use Rattle.sby_file.proofs.prefix.are_names.Goals as goal

pub returns : goal.returns
returns c =
    let each : c.all.result ≡ list_all (λ s. is_name (string_bytes s)) c.args.words.now = all_from_yields_List (λ s. is_name (string_bytes s)) _ _ _ c.all.ensures.ran (YieldsList-from_slice c.args.words.now cc) (λ x b q k. search (rules, tests)) in
    each ∙ sym (list_all-map is_name string_bytes c.args.words.now)
