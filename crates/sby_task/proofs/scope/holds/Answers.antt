use Rattle.std.proofs.Common.{map, string_bytes, take}
use Rattle.std.proofs.lemmas.List.{take-map}
use Rattle.sby_file.specs.Names.{has}
use Rattle.sby_task.proofs.Scopes.{holds_by_one}
use Rattle.sby_task.proofs.scope.holds.Goals as goal

pub returns-else-length-eq0 : goal.returns-else-length-eq0
returns-else-length-eq0 c =
    let length = c.prefix_length-length in
    let words = c.args.words.now in
    holds_by_one (has c.args.names.now) (map string_bytes words) (map string_bytes (take length.result words)) length.result c.any_holds.result length.ensures.count c.if-length-eq0.false
    (take-map string_bytes length.result words) c.any_holds.ensures
