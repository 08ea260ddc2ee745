use Rattle.std.proofs.Common.{◌<◌, ℕ, List, length, sym, subst}
use Rattle.std.specs.Prelude.{All}
use Rattle.btor_core.specs.Fits.{IsWidth}
use Rattle.btor_emit.proofs.Inputting.{inputs_none, inputs_step, row_distinct, row_inside}
use Rattle.btor_emit.proofs.inputs.push_inputs.Goals as goal
use Rattle.model_core.proofs.Lists.{all_at}

pub loop-k-init : goal.loop-k-init
loop-k-init c = inputs_none c.args.draft.now c.args.table.now c.requires.btor c.requires.seats

pub push_input-requires-clause-inside : goal.push_input-requires-clause-inside
push_input-requires-clause-inside c =
    subst (λ (n : ℕ). All (λ (p : ℕ). p < n) c.row.result.now) (sym c.loop-k.invariant.size) (row_inside (length c.args.table.now) c.args.rows.now c.loop-k.k c.row.result.now c.requires.inside c.row.ensures)

pub push_input-requires-clause-distinct : goal.push_input-requires-clause-distinct
push_input-requires-clause-distinct c = row_distinct c.args.rows.now c.requires.distinct c.loop-k.k c.row.result.now c.row.ensures

pub push_input-requires-clause-width : goal.push_input-requires-clause-width
push_input-requires-clause-width c = all_at (λ (row : List ℕ). IsWidth (length row)) c.args.rows.now c.loop-k.k c.row.result.now c.requires.widths c.row.ensures

pub loop-k-preserved : goal.loop-k-preserved
loop-k-preserved c =
    inputs_step c.args.rows.now c.requires.distinct c.loop-k.k c.row.result.now c.row.ensures c.args.draft.now c.loop-k.draft c.push_input.new.draft c.args.table.now c.loop-k.table c.push_input.new.table c.loop-k.invariant c.in_ok-push_input.ensures
