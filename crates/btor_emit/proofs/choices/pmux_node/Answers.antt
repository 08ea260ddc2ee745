use Rattle.std.proofs.Common.{◌+◌, ◌*◌, ◌≤◌, ◌∙◌, ℕ, length, sym, ap, arith}
use Rattle.sby_bits.specs.Rows.{Row}
use Rattle.cell_table.specs.Cells.{pmux_fn}
use Rattle.btor_words.proofs.Emitting.{same_as, sized, still}
use Rattle.btor_emit.proofs.OperandRows.{put_by_three, still_in}
use Rattle.btor_emit.proofs.choices.pmux_node.Goals as goal
use Rattle.model_core.specs.Meaning.{node_fn}
use Rattle.model_core.specs.declared.op.Op.TheVariants as op

pub gather-requires-clause-inside : goal.gather-requires-clause-inside
gather-requires-clause-inside c = still_in c.args.table.now c.pair.new.table c.args.s.now c.in_ok-other.ensures.row.turns.size c.requires.s.inside

pub gather-requires-clause-seats : goal.gather-requires-clause-seats
gather-requires-clause-seats c = c.in_ok-other.ensures.row.turns.seats

pub gather-requires-clause-btor : goal.gather-requires-clause-btor
gather-requires-clause-btor c = c.in_ok-other.ensures.row.turns.adds.btor

pub pmux-requires-clause-a : goal.pmux-requires-clause-a
pmux-requires-clause-a c = still c.in_ok-select.ensures.row.turns.adds c.in_ok-other.ensures.row.left_word

pub pmux-requires-clause-b : goal.pmux-requires-clause-b
pmux-requires-clause-b c = still c.in_ok-select.ensures.row.turns.adds c.in_ok-other.ensures.row.right_word

pub pmux-requires-clause-widths : goal.pmux-requires-clause-widths
pmux-requires-clause-widths c =
    c.in_ok-other.ensures.row.right_size ∙ c.requires.widths ∙ ap (λ (n : ℕ). n * length c.args.s.now) (sym c.in_ok-other.ensures.row.left_size) ∙ ap (λ (n : ℕ). c.in_ok-other.other.width * n) (sym c.in_ok-select.ensures.row.size)

pub returns : goal.returns
returns c = record {
  row = (let a = c.args.a.now in
      let b = c.args.b.now in
      let n = length c.args.s.now in
      let w = c.in_ok-select.ensures.row.size in
      let fits : 4 * length a + 4 * length b + 4 * n + 6 * c.in_ok-select.select.width ≤ 4 * length a + 4 * length b + 4 * n + 6 * n = omega arith in
      let wide = c.in_ok-other.ensures.row.left_size in
      put_by_three c.args.draft.now c.pair.new.draft c.gather.new.draft c.pmux.new.draft c.args.table.now c.pair.new.table c.gather.new.table a b c.args.s.now c.in_ok-other.other c.in_ok-other.choices c.in_ok-select.select c.in_ok-row.row n (4 * n) (6 * c.in_ok-select.select.width)
      (4 * length a + 4 * length b + 4 * n + 6 * n) (length a) (λ (x y z : Row). node_fn op.Pmux (length a) x y z) c.in_ok-other.ensures.row c.in_ok-select.ensures.row
      (sized (same_as (λ vs. pmux_fn (length a) (vs c.in_ok-other.other.nid) (vs c.in_ok-other.choices.nid) (vs c.in_ok-select.select.nid)) c.in_ok-row.ensures.row
      (λ vs. ap (λ (w : ℕ). pmux_fn w (vs c.in_ok-other.other.nid) (vs c.in_ok-other.choices.nid) (vs c.in_ok-select.select.nid)) wide)) wide) fits);
}
