use Rattle.std.proofs.Common.{[], ◌∷◌, ap, arith}
use Rattle.std.specs.Prelude.{◌||◌, map, not}
use Rattle.sby_bits.specs.Rows.{Row}
use Rattle.cell_table.specs.Cells.{bitwise}
use Rattle.btor_words.proofs.Emitting.{last, still}
use Rattle.btor_emit.specs.Said.{is_held}
use Rattle.btor_emit.specs.Table.{cycle_of}
use Rattle.btor_emit.proofs.OperandRows.{put_by_two}
use Rattle.btor_emit.proofs.Saying.{says_constraint}
use Rattle.btor_emit.proofs.statements.push_assume.Goals as goal

pub apply-requires-clause-a : goal.apply-requires-clause-a
apply-requires-clause-a c = c.in_ok-value.ensures.row.right_word

pub join-requires-clause-b : goal.join-requires-clause-b
join-requires-clause-b c = still c.in_ok-off.ensures.row.adds c.in_ok-value.ensures.row.left_word

pub returns : goal.returns
returns c =
    let s = c.args.cell in
    let p = c.in_ok-value.ensures.row in
    let e = last 4 (λ vs. bitwise ◌||◌ (map not (vs c.in_ok-value.enable.nid)) (vs c.in_ok-value.value.nid)) p.left_word.btor c.in_ok-off.ensures.row.adds c.in_ok-bit.ensures.row (omega arith) (λ vs h q. ap (λ (z : Row). bitwise ◌||◌ z (vs c.in_ok-value.value.nid)) q) in
    says_constraint c.args.draft.now c.join.new.draft c.args.table.now c.pair.new.table c.in_ok-bit.bit (λ vs. is_held (cycle_of c.args.table.now vs) s)
    (put_by_two c.args.draft.now c.pair.new.draft c.join.new.draft c.args.table.now c.pair.new.table (s.a ∷ []) (s.en ∷ []) c.in_ok-value.value c.in_ok-value.enable c.in_ok-bit.bit 4 12 1 (λ (r t : Row). bitwise ◌||◌ (map not t) r) p e (omega arith)) c.constraint.new.self c.in_ok-constraint.ensures.ok
    c.promise.ensures.btor
