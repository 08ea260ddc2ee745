use Rattle.std.proofs.Common.{ℕ, ◌+◌, ◌*◌, ◌^◌, ◌≤◌, ◌∙◌, [], length, sym, ap, arith}
use Rattle.sby_bits.specs.Rows.{Row}
use Rattle.btor_emit.proofs.OperandRows.{put_by_two}
use Rattle.btor_emit.proofs.choices.bmux_node.Goals as goal
use Rattle.model_core.specs.Meaning.{node_fn}
use Rattle.model_core.specs.declared.op.Op.TheVariants as op

pub bmux-requires-clause-widths : goal.bmux-requires-clause-widths
bmux-requires-clause-widths c = c.in_ok-parts.ensures.row.left_size ∙ c.requires.widths ∙ ap (λ (n : ℕ). c.args.width * 2 ^ n) (sym c.in_ok-parts.ensures.row.right_size)

pub returns : goal.returns
returns c = record {
  row = (let a = c.args.a.now in
      let s = c.args.s.now in
      let w = c.in_ok-parts.ensures.row.right_size in
      let fits : 4 * length a + 4 * length s + 8 * c.in_ok-parts.select.width ≤ 4 * length a + 4 * length s + 8 * length s = omega arith in
      put_by_two c.args.draft.now c.pair.new.draft c.bmux.new.draft c.args.table.now c.pair.new.table a s c.in_ok-parts.parts c.in_ok-parts.select c.in_ok-row.row (8 * c.in_ok-parts.select.width) (4 * length a + 4 * length s + 8 * length s) c.args.width
      (λ (x z : Row). node_fn op.Bmux c.args.width x [] z) c.in_ok-parts.ensures.row c.in_ok-row.ensures.row fits);
}
