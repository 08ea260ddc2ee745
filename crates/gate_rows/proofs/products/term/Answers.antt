use Rattle.std.proofs.Common.{rules, ◌≡◌, ◌∙◌, ◌*◌, ◌^◌, length, sym, arith}
use Rattle.std.specs.Prelude.{pos}
use Rattle.sby_bits.specs.Rows.{num}
use Rattle.gate_rows.specs.Literals.{Builds, row_of}
use Rattle.gate_rows.proofs.Building.{fit_long, Builds-more}
use Rattle.gate_rows.proofs.Multiplying.{term_means}
use Rattle.gate_rows.proofs.products.term.Goals as goal

pub each-requires-clause-as_many : goal.each-requires-clause-as_many
each-requires-clause-as_many c = rw (c.deref.ensures.value, c.deref-2.ensures.value)
    (fit_long c.args.gates.now c.args.y (λ x. pos (0 * 2 ^ 0)) c.in_ok-zeros.zeros.items c.in_ok-zeros.ensures ∙ sym (fit_long c.args.gates.now c.args.y (λ x. pos (num (row_of x c.args.a.now) * 2 ^ c.args.k)) c.in_ok-moved.moved.items c.in_ok-moved.ensures))

pub returns-clause-row : goal.returns-clause-row
returns-clause-row c =
    let row = rw (c.deref.ensures.value, c.deref-2.ensures.value) at c.in_ok-word.ensures.row in
    let n : length c.deref.result.now ≡ c.args.y = rw c.deref.ensures.value (fit_long c.args.gates.now c.args.y (λ x. pos (0 * 2 ^ 0)) c.in_ok-zeros.zeros.items c.in_ok-zeros.ensures) in
    term_means c.args.gates.now c.each.new.gates c.args.y c.args.k c.args.a.now c.in_ok-zeros.zeros.items c.in_ok-moved.moved.items c.in_ok-word.word.items c.args.bit c.in_ok-zeros.ensures c.in_ok-moved.ensures
    (Builds-more c.args.gates.now c.each.new.gates _ c.args.y c.each.ensures.builds (omega arith)) row

pub returns-clause-builds : goal.returns-clause-builds
returns-clause-builds c =
    let n : length c.deref.result.now ≡ c.args.y = rw c.deref.ensures.value (fit_long c.args.gates.now c.args.y (λ x. pos (0 * 2 ^ 0)) c.in_ok-zeros.zeros.items c.in_ok-zeros.ensures) in
    Builds-more c.args.gates.now c.each.new.gates _ c.args.y c.each.ensures.builds (omega arith)

pub returns-in_err-word-clause-builds : goal.returns-in_err-word-clause-builds
returns-in_err-word-clause-builds c =
    let n : length c.deref.result.now ≡ c.args.y = rw c.deref.ensures.value (fit_long c.args.gates.now c.args.y (λ x. pos (0 * 2 ^ 0)) c.in_ok-zeros.zeros.items c.in_ok-zeros.ensures) in
    Builds-more c.args.gates.now c.each.new.gates _ c.args.y c.each.ensures.builds (omega arith)

pub returns-in_err-word-clause-too_many : goal.returns-in_err-word-clause-too_many
returns-in_err-word-clause-too_many c =
    let n : length c.deref.result.now ≡ c.args.y = rw c.deref.ensures.value (fit_long c.args.gates.now c.args.y (λ x. pos (0 * 2 ^ 0)) c.in_ok-zeros.zeros.items c.in_ok-zeros.ensures) in
    search rules
