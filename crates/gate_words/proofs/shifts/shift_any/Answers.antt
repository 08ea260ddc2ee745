use Rattle.std.proofs.Common.{rules, ◌≡◌, ◌+◌, length, max, arith}
use Rattle.sby_bits.specs.Rows.{value}
use Rattle.gate_rows.specs.Literals.{row_of}
use Rattle.gate_rows.proofs.Building.{fit_long, Builds-more}
use Rattle.gate_words.proofs.Moving.{any_means, twice_few}
use Rattle.gate_words.proofs.shifts.shift_any.Goals as goal

pub returns-in_err-moved-clause-builds : goal.returns-in_err-moved-clause-builds
returns-in_err-moved-clause-builds c =
    let n : length c.deref.result.now ≡ c.max-n.result = rw c.deref.ensures.value (fit_long c.args.gates.now c.max-n.result (λ x. value c.args.a_signed (row_of x c.args.a.now)) c.in_ok-wide.wide.items c.in_ok-wide.ensures) in
    let m : c.max-n.result ≡ max (length c.args.a.now) c.args.y = omega arith in
    Builds-more c.args.gates.now c.moved_any.new.gates _ _ c.moved_any.ensures.builds (twice_few (length c.deref.result.now) (length c.args.b.now) (length c.args.a.now + length c.args.b.now + c.args.y) (omega arith) (omega arith))

pub returns-in_err-moved-clause-too_many : goal.returns-in_err-moved-clause-too_many
returns-in_err-moved-clause-too_many c =
    let n : length c.deref.result.now ≡ c.max-n.result = rw c.deref.ensures.value (fit_long c.args.gates.now c.max-n.result (λ x. value c.args.a_signed (row_of x c.args.a.now)) c.in_ok-wide.wide.items c.in_ok-wide.ensures) in
    let m : c.max-n.result ≡ max (length c.args.a.now) c.args.y = omega arith in
    let few = twice_few (length c.deref.result.now) (length c.args.b.now) (length c.args.a.now + length c.args.b.now + c.args.y) (omega arith) (omega arith) in
    search rules

pub returns-in_err-word-clause-builds : goal.returns-in_err-word-clause-builds
returns-in_err-word-clause-builds c =
    let n : length c.deref.result.now ≡ c.max-n.result = rw c.deref.ensures.value (fit_long c.args.gates.now c.max-n.result (λ x. value c.args.a_signed (row_of x c.args.a.now)) c.in_ok-wide.wide.items c.in_ok-wide.ensures) in
    let m : c.max-n.result ≡ max (length c.args.a.now) c.args.y = omega arith in
    Builds-more c.args.gates.now c.moved_any.new.gates _ _ c.moved_any.ensures.builds (twice_few (length c.deref.result.now) (length c.args.b.now) (length c.args.a.now + length c.args.b.now + c.args.y) (omega arith) (omega arith))

pub returns-clause-row : goal.returns-clause-row
returns-clause-row c =
    let moved = rw c.deref.ensures.value at c.in_ok-moved.ensures.row in
    let row = rw c.deref-2.ensures.value at c.in_ok-word.ensures in
    any_means c.args.gates.now c.moved_any.new.gates c.args.a.now c.args.b.now c.in_ok-wide.wide.items c.in_ok-moved.moved.items c.in_ok-word.word.items c.args.a_signed c.args.b_signed c.args.y c.max-n.result (max (length c.args.a.now) c.args.y) (omega arith) (omega arith)
    c.moved_any.ensures.builds.continues c.in_ok-wide.ensures moved row

pub returns-clause-builds : goal.returns-clause-builds
returns-clause-builds c =
    let n : length c.deref.result.now ≡ c.max-n.result = rw c.deref.ensures.value (fit_long c.args.gates.now c.max-n.result (λ x. value c.args.a_signed (row_of x c.args.a.now)) c.in_ok-wide.wide.items c.in_ok-wide.ensures) in
    let m : c.max-n.result ≡ max (length c.args.a.now) c.args.y = omega arith in
    Builds-more c.args.gates.now c.moved_any.new.gates _ _ c.moved_any.ensures.builds (twice_few (length c.deref.result.now) (length c.args.b.now) (length c.args.a.now + length c.args.b.now + c.args.y) (omega arith) (omega arith))
