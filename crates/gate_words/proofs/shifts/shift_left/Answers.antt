use Rattle.std.proofs.Common.{length, ap}
use Rattle.sby_bits.specs.Rows.{num, value}
use Rattle.gate_rows.specs.Literals.{row_of}
use Rattle.gate_rows.proofs.Building.{Row-same}
use Rattle.gate_words.proofs.Moving.{left_row}
use Rattle.gate_words.proofs.shifts.shift_left.Goals as goal

pub returns-clause-row : goal.returns-clause-row
returns-clause-row c = Row-same c.moved_wide.new.gates _ _ c.in_ok-word.word.items c.in_ok-word.ensures.row
    (λ x. ap length (left_row x c.args.y (value c.args.signed (row_of x c.args.a.now)) (num (row_of x c.args.b.now))))
    (λ x s. left_row x c.args.y (value c.args.signed (row_of x c.args.a.now)) (num (row_of x c.args.b.now)))
