use Rattle.std.proofs.Common.{rules, ◌≡◌, ◌+◌, length, arith}
use Rattle.sby_bits.specs.Rows.{value}
use Rattle.gate_rows.specs.Literals.{row_of}
use Rattle.gate_rows.proofs.Building.{fit_long, Builds-more}
use Rattle.gate_words.proofs.Moving.{wide_means, shift_few}
use Rattle.gate_words.proofs.shifts.moved_wide.Goals as goal

pub returns-clause-row : goal.returns-clause-row
returns-clause-row c =
    let moved = rw c.deref.ensures.value at c.in_ok-moved.ensures.row in
    let row = rw c.deref-2.ensures.value at c.in_ok-word.ensures in
    wide_means c.args.gates.now c.moved_by.new.gates c.args.way.now c.args.n c.args.y (λ x. value c.args.signed (row_of x c.args.a.now)) c.args.b.now c.in_ok-wide.wide.items c.in_ok-moved.moved.items c.in_ok-word.word.items c.moved_by.ensures.builds.continues c.in_ok-wide.ensures moved row

pub returns-clause-builds : goal.returns-clause-builds
returns-clause-builds c =
    let n : length c.deref.result.now ≡ c.args.n = rw c.deref.ensures.value (fit_long c.args.gates.now c.args.n (λ x. value c.args.signed (row_of x c.args.a.now)) c.in_ok-wide.wide.items c.in_ok-wide.ensures) in
    let h = c.requires.width in
    Builds-more c.args.gates.now c.moved_by.new.gates _ _ c.moved_by.ensures.builds (shift_few (length c.deref.result.now) (length c.args.b.now) (length c.args.a.now + length c.args.b.now + c.args.y) (omega arith) (omega arith))

pub returns-in_err-moved-clause-builds : goal.returns-in_err-moved-clause-builds
returns-in_err-moved-clause-builds c =
    let n : length c.deref.result.now ≡ c.args.n = rw c.deref.ensures.value (fit_long c.args.gates.now c.args.n (λ x. value c.args.signed (row_of x c.args.a.now)) c.in_ok-wide.wide.items c.in_ok-wide.ensures) in
    let h = c.requires.width in
    Builds-more c.args.gates.now c.moved_by.new.gates _ _ c.moved_by.ensures.builds (shift_few (length c.deref.result.now) (length c.args.b.now) (length c.args.a.now + length c.args.b.now + c.args.y) (omega arith) (omega arith))

pub returns-in_err-moved-clause-too_many : goal.returns-in_err-moved-clause-too_many
returns-in_err-moved-clause-too_many c =
    let n : length c.deref.result.now ≡ c.args.n = rw c.deref.ensures.value (fit_long c.args.gates.now c.args.n (λ x. value c.args.signed (row_of x c.args.a.now)) c.in_ok-wide.wide.items c.in_ok-wide.ensures) in
    let h = c.requires.width in
    let few = shift_few (length c.deref.result.now) (length c.args.b.now) (length c.args.a.now + length c.args.b.now + c.args.y) (omega arith) (omega arith) in
    search rules

pub returns-in_err-word-clause-builds : goal.returns-in_err-word-clause-builds
returns-in_err-word-clause-builds c =
    let n : length c.deref.result.now ≡ c.args.n = rw c.deref.ensures.value (fit_long c.args.gates.now c.args.n (λ x. value c.args.signed (row_of x c.args.a.now)) c.in_ok-wide.wide.items c.in_ok-wide.ensures) in
    let h = c.requires.width in
    Builds-more c.args.gates.now c.moved_by.new.gates _ _ c.moved_by.ensures.builds (shift_few (length c.deref.result.now) (length c.args.b.now) (length c.args.a.now + length c.args.b.now + c.args.y) (omega arith) (omega arith))
