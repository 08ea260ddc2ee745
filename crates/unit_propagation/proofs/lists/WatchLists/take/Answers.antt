use Rattle.std.proofs.Common.{◌≡◌, [], refl, rules}
use Rattle.unit_propagation.proofs.Rows.{row_written, row_stays}
use Rattle.unit_propagation.proofs.lists.WatchLists.take.Goals as goal

pub returns-then-place-len-clause-rows : goal.returns-then-place-len-clause-rows
returns-then-place-len-clause-rows c =
    let s = c.args.self.now in
    let e : c.replace.new.dest.items ≡ [] = search rules in
    row_written s.vars s.lists.items c.index-place.result c.args.l c.index-place.ensures c.replace.new.dest [] (search rules) e

pub returns-else-place-len-clause-rows : goal.returns-else-place-len-clause-rows
returns-else-place-len-clause-rows c =
    let s = c.args.self.now in
    row_stays s.vars s.lists.items c.index-place.result c.args.l c.index-place.ensures [] (search rules) refl
