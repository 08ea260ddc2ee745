use Rattle.std.proofs.Common.{◌+◌, ◌*◌, [], length, arith}
use Rattle.sby_bits.specs.Rows.{Row}
use Rattle.btor_emit.proofs.OperandRows.{put_by_one}
use Rattle.btor_emit.proofs.operands.unary_node.Goals as goal
use Rattle.model_core.specs.Meaning.{node_fn}
use Rattle.model_core.specs.declared.op.Op.TheVariants as op

pub returns : goal.returns
returns c = record {
  row = (let n = length c.args.a.now in
      put_by_one c.args.draft.now c.gather.new.draft c.unary.new.draft c.args.table.now c.gather.new.table c.args.a.now c.in_ok-left.left c.in_ok-row.row n (4 * n) 4 (4 * n + 4) c.args.width (λ (r : Row). node_fn (op.Unary c.args.kind c.args.signed) c.args.width r [] []) c.in_ok-left.ensures.row c.in_ok-row.ensures.row (omega arith));
}
