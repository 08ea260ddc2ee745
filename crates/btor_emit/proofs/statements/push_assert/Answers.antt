use Rattle.std.proofs.Common.{[], ◌∷◌, ap, arith}
use Rattle.std.specs.Prelude.{◌&&◌, map, not}
use Rattle.sby_bits.specs.Rows.{Row}
use Rattle.cell_table.specs.Cells.{bitwise}
use Rattle.btor_words.proofs.Emitting.{last, still}
use Rattle.btor_emit.specs.Said.{is_broken}
use Rattle.btor_emit.specs.Table.{cycle_of}
use Rattle.btor_emit.proofs.OperandRows.{put_by_two}
use Rattle.btor_emit.proofs.Saying.{says_bad}
use Rattle.btor_emit.proofs.statements.push_assert.Goals as goal

pub apply-requires-clause-a : goal.apply-requires-clause-a
apply-requires-clause-a c = c.in_ok-value.ensures.row.left_word

pub join-requires-clause-a : goal.join-requires-clause-a
join-requires-clause-a c = still c.in_ok-low.ensures.row.adds c.in_ok-value.ensures.row.right_word

pub returns : goal.returns
returns c =
    let s = c.args.cell in
    let p = c.in_ok-value.ensures.row in
    let e = last 4 (λ vs. bitwise ◌&&◌ (vs c.in_ok-value.enable.nid) (map not (vs c.in_ok-value.value.nid))) p.left_word.btor c.in_ok-low.ensures.row.adds c.in_ok-bit.ensures.row (omega arith) (λ vs h q. ap (λ (z : Row). bitwise ◌&&◌ (vs c.in_ok-value.enable.nid) z) q) in
    says_bad c.args.draft.now c.join.new.draft c.args.table.now c.pair.new.table c.in_ok-bit.bit (λ vs. is_broken (cycle_of c.args.table.now vs) s)
    (put_by_two c.args.draft.now c.pair.new.draft c.join.new.draft c.args.table.now c.pair.new.table (s.a ∷ []) (s.en ∷ []) c.in_ok-value.value c.in_ok-value.enable c.in_ok-bit.bit 4 12 1 (λ (r t : Row). bitwise ◌&&◌ t (map not r)) p e (omega arith)) c.bad.new.self c.in_ok-bad.ensures.ok
    c.promise.ensures.btor
