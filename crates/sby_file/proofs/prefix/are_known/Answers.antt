use Rattle.std.proofs.Common.{rules, tests, sym, ◌∙◌, ◌≡◌, string_bytes}
use Rattle.std.specs.List.{list_all}
use Rattle.std.proofs.lemmas.List.Folds.{list_all-map}
use Rattle.std.proofs.lemmas.Iterator.{YieldsList-from_slice}
use Rattle.std.proofs.lemmas.Iterator.Search.{all_from_yields_List}
use Rattle.sby_file.specs.Names.{has}
use Rattle.sby_file.specs.Prefix.{mark_name}
use Rattle.sby_file.proofs.prefix.are_known.Goals as goal

pub returns : goal.returns
returns c =
    let known = c.args.known.now in
    let each : c.all.result ≡ list_all (λ s. has known (mark_name (string_bytes s))) c.args.prefix.now = all_from_yields_List (λ s. has known (mark_name (string_bytes s))) _ _ _ c.all.ensures.ran (YieldsList-from_slice c.args.prefix.now cc) (λ x b q k. search (rules, tests)) in
    each ∙ sym (list_all-map (λ w. has known (mark_name w)) string_bytes c.args.prefix.now)
