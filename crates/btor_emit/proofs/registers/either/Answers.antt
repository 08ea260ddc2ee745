use Rattle.std.proofs.Common.{◌+◌, ◌*◌, length, cond, arith}
use Rattle.btor_emit.specs.Table.{cycle_of}
use Rattle.btor_emit.proofs.Choosing.{choice_same, puts_then}
use Rattle.btor_emit.proofs.registers.either.Goals as goal
use Rattle.model_core.specs.Meaning.{is_active, row_at}

pub returns-in_ok-word-in-None : goal.returns-in_ok-word-in-None
returns-in_ok-word-in-None c =
    let t0 = c.args.table.now in
    let t1 = c.pair.new.table in
    let x = c.args.then.now in
    let y = c.args.other.now in
    let first = c.in_ok-first-in-None.first in
    let second = c.in_ok-first-in-None.second in
    let p = c.in_ok-first-in-None.ensures.row in
    puts_then c.args.draft.now c.pair.new.draft c.choose.new.draft t0 t1 c.choose.new.table c.in_ok-word-in-None.word first.width (length x) (4 * length x + 4 * length y) 6 (8 * length x + 6) _ _ (λ vs. cond (is_active (cycle_of t0 vs) c.args.control) (row_at (cycle_of t0 vs) x) (row_at (cycle_of t0 vs) y))
    p.turns c.in_ok-word-in-None.ensures p.left_size (let w = c.requires.widths in omega arith)
    (λ vs q same. choice_same (cycle_of t0 vs) (cycle_of t1 vs) c.args.control (row_at (cycle_of t0 vs) x) (row_at (cycle_of t0 vs) y) (vs first.nid) (vs second.nid) same q.0 q.1)
