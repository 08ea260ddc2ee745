use Rattle.std.proofs.Common.{rules, tests, ◌≡◌, false, eqb, length}
use Rattle.std.specs.List.{list_all}
use Rattle.std.proofs.lemmas.Iterator.{YieldsList-from_slice}
use Rattle.std.proofs.lemmas.Iterator.Search.{all_from_yields_List}
use Rattle.sby_file.specs.Prefix.{is_name_byte}
use Rattle.sby_file.proofs.prefix.is_name.Goals as goal

pub returns-then-not-is_empty : goal.returns-then-not-is_empty
returns-then-not-is_empty c =
    let some : eqb (length c.args.word.now) 0 ≡ false = search rules in
    let each : c.all.result ≡ list_all is_name_byte c.args.word.now = all_from_yields_List is_name_byte _ _ _ c.all.ensures.ran (YieldsList-from_slice c.args.word.now cc) (λ x b q k. search (rules, tests)) in
    rw some each
