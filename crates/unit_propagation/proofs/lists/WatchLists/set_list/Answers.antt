use Rattle.std.proofs.Common.{◌≡◌, [], ◌≤◌, length, refl, arith, inl, inr, rules}
use Rattle.std.proofs.lemmas.Bool.{cases_lt}
use Rattle.std.proofs.lemmas.List.{nil_from_length}
use Rattle.unit_propagation.proofs.Rows.{row_written, row_stays}
use Rattle.unit_propagation.proofs.lists.WatchLists.set_list.Goals as goal

pub returns-then-place-len-clause-rows : goal.returns-then-place-len-clause-rows
returns-then-place-len-clause-rows c =
    let s = c.args.self.now in
    row_written s.vars s.lists.items c.index-place.result c.args.l c.index-place.ensures c.args.list _ (search rules) refl

pub returns-else-place-len-clause-rows : goal.returns-else-place-len-clause-rows
returns-else-place-len-clause-rows c =
    let s = c.args.self.now in
    let past : length s.lists.items ≤ c.index-place.result = search rules in
    let none : c.args.list.items ≡ [] = elim (cases_lt 0 (length c.args.list.items)) [
      | inl h ↦ absurd (omega (arith, c.requires.there h, c.index-place.ensures, past))
      | inr h ↦ nil_from_length _ (omega (arith, h))
    ] in
    row_stays s.vars s.lists.items c.index-place.result c.args.l c.index-place.ensures _ past none
