use Rattle.std.proofs.Common.{◌≡◌, ◌<◌, ◌+◌, List, ℕ, length, get_or, sym, subst, arith}
use Rattle.word_model.proofs.Pairing.{pair-read, pair-within}
use Rattle.word_model.proofs.nodes.pair_of.Goals as goal
use Rattle.word_model.proofs.nodes.pair_of.Goals.{After-as_slice-list}

within : (c : After-as_slice-list) → get_or c.as_slice-first.result.now c.args.place 0 + c.args.bit < length c.as_slice-list.result.now
within c =
    rw (c.as_slice-first.ensures.value, c.as_slice-list.ensures.value)
    (pair-within c.args.design.now c.requires.flat c.args.pairs.now.first.items c.args.pairs.now.pairs.items c.requires.pairs c.args.place c.args.bit c.requires.driver)

pub overflow_add-result : goal.overflow_add-result
overflow_add-result c = let lt = within (goal.at.overflow_add-result c).After-as_slice-list in omega (arith, lt)

pub offset_bounds-list-start : goal.offset_bounds-list-start
offset_bounds-list-start c = let lt = within (goal.at.offset_bounds-list-start c).After-as_slice-list in omega (arith, lt)

pub bounds-list-start : goal.bounds-list-start
bounds-list-start c = let lt = within (goal.at.bounds-list-start c).After-as_slice-list in omega (arith, lt)

pub returns : goal.returns
returns c =
    rw (c.as_slice-first.ensures.value, c.as_slice-list.ensures.value)
    (pair-read c.args.design.now c.requires.flat c.args.pairs.now.first.items c.args.pairs.now.pairs.items c.requires.pairs c.args.place c.args.bit c.requires.driver)
