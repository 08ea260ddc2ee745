use Rattle.std.proofs.Common.{[], ◌∷◌, arith}
use Rattle.std.specs.Prelude.{◌&&◌}
use Rattle.sby_bits.specs.Rows.{Row}
use Rattle.cell_table.specs.Cells.{bitwise}
use Rattle.btor_emit.specs.Said.{is_reached}
use Rattle.btor_emit.specs.Table.{cycle_of}
use Rattle.btor_emit.proofs.OperandRows.{put_by_two}
use Rattle.btor_emit.proofs.Saying.{says_bad}
use Rattle.btor_emit.proofs.statements.push_reached.Goals as goal

pub join-requires-clause-a : goal.join-requires-clause-a
join-requires-clause-a c = c.in_ok-value.ensures.row.right_word

pub join-requires-clause-b : goal.join-requires-clause-b
join-requires-clause-b c = c.in_ok-value.ensures.row.left_word

pub returns : goal.returns
returns c =
    let s = c.args.cell in
    says_bad c.args.draft.now c.join.new.draft c.args.table.now c.pair.new.table c.in_ok-bit.bit (λ vs. is_reached (cycle_of c.args.table.now vs) s)
    (put_by_two c.args.draft.now c.pair.new.draft c.join.new.draft c.args.table.now c.pair.new.table (s.a ∷ []) (s.en ∷ []) c.in_ok-value.value c.in_ok-value.enable c.in_ok-bit.bit 2 12 1 (λ (r t : Row). bitwise ◌&&◌ t r) c.in_ok-value.ensures.row c.in_ok-bit.ensures.row (omega arith)) c.bad.new.self
    c.in_ok-bad.ensures.ok c.promise.ensures.btor
