use Rattle.std.proofs.Common.{◌+◌, ◌*◌, ◌∙◌, ℕ, length, cond, refl, arith}
use Rattle.sby_bits.specs.Rows.{Row}
use Rattle.btor_words.proofs.Emitting.{still}
use Rattle.btor_core.specs.Meaning.{Values}
use Rattle.btor_emit.specs.Table.{cycle_of}
use Rattle.btor_emit.proofs.Choosing.{choice_same, on, puts_row, puts_then, turn_then}
use Rattle.btor_emit.proofs.registers.nested.Goals as goal
use Rattle.model_core.specs.Meaning.{is_active, row_at}
use Rattle.model_core.proofs.Writing.{row_same}

pub choose-requires-clause-other : goal.choose-requires-clause-other
choose-requires-clause-other c = still c.in_ok-first-in-None.ensures.row.turns.adds c.in_ok-chosen-in-None.ensures.word

pub returns-in_ok-word-in-Some-true : goal.returns-in_ok-word-in-Some-true
returns-in_ok-word-in-Some-true c =
    let t = c.args.table.now in
    let x = c.args.row.now in
    puts_row c.args.draft.now c.gather.new.draft t c.gather.new.table c.in_ok-word-in-Some-true.word (length x) (length x) (4 * length x) (12 * length x + 12) _
    (λ vs. cond (is_active (cycle_of t vs) c.args.outer) (row_at (cycle_of t vs) x) (cond (is_active (cycle_of t vs) c.args.inner) (row_at (cycle_of t vs) c.args.then.now) (row_at (cycle_of t vs) c.args.other.now))) c.in_ok-word-in-Some-true.ensures.row refl (omega arith)
    (λ vs. on (cycle_of t vs) c.args.outer (row_at (cycle_of t vs) x) (cond (is_active (cycle_of t vs) c.args.inner) (row_at (cycle_of t vs) c.args.then.now) (row_at (cycle_of t vs) c.args.other.now)) (c.constant.ensures c.in-Some-true.field-0 c.in-Some-true.is vs ∙ c.in-Some-true.field-0-test))

pub returns-in_ok-word-in-None : goal.returns-in_ok-word-in-None
returns-in_ok-word-in-None c =
    let t0 = c.args.table.now in
    let t1 = c.either-in-None.new.table in
    let t2 = c.gather-in-None.new.table in
    let x = c.args.row.now in
    let n : ℕ = length x in
    let w = c.requires.width in
    let first = c.in_ok-first-in-None.first in
    let chosen = c.in_ok-chosen-in-None.chosen in
    let inner : Values → Row = λ vs. cond (is_active (cycle_of t0 vs) c.args.inner) (row_at (cycle_of t0 vs) c.args.then.now) (row_at (cycle_of t0 vs) c.args.other.now) in
    let both = turn_then c.args.draft.now c.either-in-None.new.draft c.gather-in-None.new.draft t0 t1 t2 first n (8 * length c.args.then.now + 6) (4 * n) (12 * n + 6) _ _ (λ vs. row_at (cycle_of t0 vs) x) c.in_ok-chosen-in-None.ensures.turns c.in_ok-first-in-None.ensures.row (omega arith)
    (λ vs p same. row_same (cycle_of t1 vs) (cycle_of t0 vs) x (λ q i. same q)) in
    puts_then c.args.draft.now c.gather-in-None.new.draft c.choose.new.draft t0 t2 c.choose.new.table c.in_ok-word-in-None.word first.width n (12 * n + 6) 6 (12 * n + 12) _ _
    (λ vs. cond (is_active (cycle_of t0 vs) c.args.outer) (row_at (cycle_of t0 vs) x) (inner vs)) both c.in_ok-word-in-None.ensures c.in_ok-first-in-None.ensures.row.size (omega arith)
    (λ vs q same. choice_same (cycle_of t0 vs) (cycle_of t2 vs) c.args.outer (row_at (cycle_of t0 vs) x) (inner vs) (vs first.nid) (vs chosen.nid) same q.1 q.0)
