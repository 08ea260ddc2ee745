use Rattle.std.proofs.Common.{◌≡◌, Some}
use Rattle.std.specs.Prelude.{slice_get}
use Rattle.design_core.proofs.Lists.{item_at}
use Rattle.design_graph.proofs.Declared.{connect-declared}
use Rattle.word_model.proofs.nodes.connect_pairs.Goals as goal
use Rattle.word_model.proofs.nodes.connect_pairs.Goals.{After-index-connects-place}

connect : (c : After-index-connects-place) → slice_get c.args.design.now.connects c.loop-place.place ≡ Some c.index-connects-place.result
connect c = rw c.connects-connects.ensures.connects at (item_at c.connects-connects.result.now c.loop-place.place c.index-connects-place.result c.index-connects-place.is c.loop-place-test.true)

pub push_pairs-requires-clause-left : goal.push_pairs-requires-clause-left
push_pairs-requires-clause-left c =
    let x = (goal.at.push_pairs-requires-clause-left c).After-index-connects-place in
    rw c.left.ensures.bits (connect-declared c.args.design.now c.connects-connects.ensures.design c.loop-place.place c.index-connects-place.result (connect x)).0

pub push_pairs-requires-clause-right : goal.push_pairs-requires-clause-right
push_pairs-requires-clause-right c =
    let at =
    rw c.connects-connects.ensures.connects at
    (item_at c.connects-connects.result.now c.loop-place.place c.index-connects-place-in-loop-place.result c.index-connects-place-in-loop-place.is c.loop-place-test.true) in
    rw c.right.ensures.bits (connect-declared c.args.design.now c.connects-connects.ensures.design c.loop-place.place c.index-connects-place-in-loop-place.result at).1
