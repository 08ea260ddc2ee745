use Rattle.std.proofs.Common.{◌+◌, ◌*◌, ◌∙◌, length, sym, arith}
use Rattle.sby_bits.specs.Rows.{Row}
use Rattle.btor_words.proofs.Emitting.{sized, still}
use Rattle.btor_emit.proofs.OperandRows.{put_by_three, still_in}
use Rattle.btor_emit.proofs.choices.mux_node.Goals as goal
use Rattle.model_core.specs.Meaning.{node_fn}
use Rattle.model_core.specs.declared.op.Op.TheVariants as op

pub gather-requires-clause-inside : goal.gather-requires-clause-inside
gather-requires-clause-inside c = still_in c.args.table.now c.pair.new.table c.args.s.now c.in_ok-other.ensures.row.turns.size c.requires.s.inside

pub gather-requires-clause-seats : goal.gather-requires-clause-seats
gather-requires-clause-seats c = c.in_ok-other.ensures.row.turns.seats

pub gather-requires-clause-btor : goal.gather-requires-clause-btor
gather-requires-clause-btor c = c.in_ok-other.ensures.row.turns.adds.btor

pub mux-requires-clause-a : goal.mux-requires-clause-a
mux-requires-clause-a c = still c.in_ok-select.ensures.row.turns.adds c.in_ok-other.ensures.row.left_word

pub mux-requires-clause-b : goal.mux-requires-clause-b
mux-requires-clause-b c = still c.in_ok-select.ensures.row.turns.adds c.in_ok-other.ensures.row.right_word

pub mux-requires-clause-widths : goal.mux-requires-clause-widths
mux-requires-clause-widths c = c.in_ok-other.ensures.row.right_size ∙ c.requires.widths ∙ sym c.in_ok-other.ensures.row.left_size

pub mux-requires-clause-one : goal.mux-requires-clause-one
mux-requires-clause-one c = c.in_ok-select.ensures.row.size ∙ c.requires.one

pub returns : goal.returns
returns c = record {
  row = (let a = c.args.a.now in
      let b = c.args.b.now in
      let n = length c.args.s.now in
      let one = c.requires.one in
      put_by_three c.args.draft.now c.pair.new.draft c.gather.new.draft c.mux.new.draft c.args.table.now c.pair.new.table c.gather.new.table a b c.args.s.now c.in_ok-other.other c.in_ok-other.then c.in_ok-select.select c.in_ok-row.row n (4 * n) 2 (4 * length a + 4 * length b + 6) (length a)
      (λ (x y z : Row). node_fn op.Mux (length a) x y z) c.in_ok-other.ensures.row c.in_ok-select.ensures.row (sized c.in_ok-row.ensures.row c.in_ok-other.ensures.row.left_size) (omega arith));
}
