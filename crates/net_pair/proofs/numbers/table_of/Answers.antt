use Rattle.std.proofs.Common.{◌≡◌, ◌<◌, Some, length, rules, ◌∙◌, arith, add-one, length-set}
use Rattle.std.specs.Prelude.{slice_get, slice_index_or}
use Rattle.std.proofs.lemmas.Option.{slice_get-get_or}
use Rattle.model_core.proofs.Lists.{all_at}
use Rattle.net_pair.proofs.Numbering.{table_more, table_whole}
use Rattle.net_pair.proofs.numbers.table_of.Goals as goal

pub index_mut-requires : goal.index_mut-requires
index_mut-requires c =
    let t = c.loop-state-test.true in
    let at : slice_get c.args.held.now c.loop-state.state ≡ Some (slice_index_or c.args.held.now c.loop-state.state 0) = slice_get-get_or c.args.held.now c.loop-state.state 0 t in
    let b = all_at (λ place. place < c.args.size) c.args.held.now c.loop-state.state (slice_index_or c.args.held.now c.loop-state.state 0) c.requires.below at in
    let s = c.loop-state.invariant.size in
    let inside : slice_index_or c.args.held.now c.loop-state.state 0 < length c.loop-state.table.items = omega arith in
    search rules

pub loop-state-preserved : goal.loop-state-preserved
loop-state-preserved c =
    let t = c.loop-state-test.true in
    let at : slice_get c.args.held.now c.loop-state.state ≡ Some (slice_index_or c.args.held.now c.loop-state.state 0) = slice_get-get_or c.args.held.now c.loop-state.state 0 t in
    let b = all_at (λ place. place < c.args.size) c.args.held.now c.loop-state.state (slice_index_or c.args.held.now c.loop-state.state 0) c.requires.below at in
    let s = c.loop-state.invariant.size in
    record {
      size = length-set c.loop-state.table.items (slice_index_or c.args.held.now c.loop-state.state 0) (Some c.loop-state.state) ∙ s;
      table = rw add-one (table_more c.args.held.now c.loop-state.state (slice_index_or c.args.held.now c.loop-state.state 0) c.loop-state.table.items c.loop-state.invariant.table at (omega arith));
    }

pub returns : goal.returns
returns c = let t = c.loop-state-test.false in table_whole c.args.held.now c.loop-state.state c.loop-state.table.items (omega arith) c.loop-state.invariant.table
