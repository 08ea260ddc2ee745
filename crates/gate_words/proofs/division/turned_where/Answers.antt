use Rattle.std.proofs.Common.{rules, ◌≡◌, ◌∙◌, ◌*◌, ◌^◌, length, sym, arith}
use Rattle.std.specs.Prelude.{pos, ◌-ℤ◌}
use Rattle.sby_bits.specs.Rows.{num}
use Rattle.gate_rows.specs.Literals.{row_of}
use Rattle.gate_rows.proofs.Building.{fit_long, Builds-more, Builds-trans}
use Rattle.gate_words.proofs.Quotients.{turned_means}
use Rattle.gate_words.proofs.division.turned_where.Goals as goal

pub difference-requires-clause-as_many : goal.difference-requires-clause-as_many
difference-requires-clause-as_many c = rw c.deref.ensures.value (fit_long c.args.gates.now (length c.args.a.now) (λ x. pos (0 * 2 ^ 0)) c.in_ok-zeros.zeros.items c.in_ok-zeros.ensures)

pub returns-in_err-turned-clause-builds : goal.returns-in_err-turned-clause-builds
returns-in_err-turned-clause-builds c =
    let n : length c.deref.result.now ≡ length c.args.a.now = rw c.deref.ensures.value (fit_long c.args.gates.now (length c.args.a.now) (λ x. pos (0 * 2 ^ 0)) c.in_ok-zeros.zeros.items c.in_ok-zeros.ensures) in
    Builds-more c.args.gates.now c.difference.new.gates (3 * length c.deref.result.now) _ c.difference.ensures.builds (omega arith)

pub returns-in_err-turned-clause-too_many : goal.returns-in_err-turned-clause-too_many
returns-in_err-turned-clause-too_many c =
    let n : length c.deref.result.now ≡ length c.args.a.now = rw c.deref.ensures.value (fit_long c.args.gates.now (length c.args.a.now) (λ x. pos (0 * 2 ^ 0)) c.in_ok-zeros.zeros.items c.in_ok-zeros.ensures) in
    search rules

pub mux-requires-clause-width : goal.mux-requires-clause-width
mux-requires-clause-width c =
    let n : length c.in_ok-zeros.zeros.items ≡ length c.args.a.now = fit_long c.args.gates.now (length c.args.a.now) (λ x. pos (0 * 2 ^ 0)) c.in_ok-zeros.zeros.items c.in_ok-zeros.ensures in
    let row = rw c.deref.ensures.value at c.in_ok-turned.ensures.row in
    rw c.deref-2.ensures.value (sym (fit_long c.difference.new.gates (length c.in_ok-zeros.zeros.items) (λ x. pos (num (row_of x c.in_ok-zeros.zeros.items)) -ℤ pos (num (row_of x c.args.a.now))) c.in_ok-turned.turned.items row ∙ n))

pub returns-in_err-word-clause-builds : goal.returns-in_err-word-clause-builds
returns-in_err-word-clause-builds c =
    let n : length c.deref.result.now ≡ length c.args.a.now = rw c.deref.ensures.value (fit_long c.args.gates.now (length c.args.a.now) (λ x. pos (0 * 2 ^ 0)) c.in_ok-zeros.zeros.items c.in_ok-zeros.ensures) in
    Builds-trans c.args.gates.now c.difference.new.gates c.mux.new.gates (3 * length c.deref.result.now) (length c.args.a.now) _ c.difference.ensures.builds c.mux.ensures.builds (omega arith)

pub returns-in_err-word-clause-too_many : goal.returns-in_err-word-clause-too_many
returns-in_err-word-clause-too_many c =
    let n : length c.deref.result.now ≡ length c.args.a.now = rw c.deref.ensures.value (fit_long c.args.gates.now (length c.args.a.now) (λ x. pos (0 * 2 ^ 0)) c.in_ok-zeros.zeros.items c.in_ok-zeros.ensures) in
    let p = c.difference.ensures.builds.most in
    let q = c.difference.ensures.builds.continues.limit in
    search rules

pub returns-clause-row : goal.returns-clause-row
returns-clause-row c =
    let turned = rw c.deref.ensures.value at c.in_ok-turned.ensures.row in
    let row = rw c.deref-2.ensures.value at c.in_ok-word.ensures.row in
    turned_means c.args.gates.now c.difference.new.gates c.mux.new.gates c.args.a.now c.in_ok-zeros.zeros.items c.in_ok-turned.turned.items c.in_ok-word.word.items c.args.sign c.difference.ensures.builds.continues c.mux.ensures.builds.continues c.in_ok-zeros.ensures turned row

pub returns-clause-builds : goal.returns-clause-builds
returns-clause-builds c =
    let n : length c.deref.result.now ≡ length c.args.a.now = rw c.deref.ensures.value (fit_long c.args.gates.now (length c.args.a.now) (λ x. pos (0 * 2 ^ 0)) c.in_ok-zeros.zeros.items c.in_ok-zeros.ensures) in
    Builds-trans c.args.gates.now c.difference.new.gates c.mux.new.gates (3 * length c.deref.result.now) (length c.args.a.now) _ c.difference.ensures.builds c.mux.ensures.builds (omega arith)
