use Rattle.std.proofs.Common.{rules, ◌≡◌, ◌∙◌, ◌+◌, ◌*◌, ◌^◌, length, refl, sym, arith}
use Rattle.std.specs.Prelude.{pos}
use Rattle.sby_bits.specs.Rows.{num}
use Rattle.gate_rows.specs.Literals.{row_of}
use Rattle.gate_rows.proofs.Building.{fit_long, Builds-more, Builds-trans}
use Rattle.gate_words.specs.declared.shifts.Way.TheVariants.{Up, Down}
use Rattle.gate_words.proofs.Modulo.{turned_many}
use Rattle.gate_words.proofs.Moving.{moved_many, signed_means}
use Rattle.gate_words.proofs.shifts.moved_signed.Goals as goal

pub returns-in_err-up-clause-builds : goal.returns-in_err-up-clause-builds
returns-in_err-up-clause-builds c =
    let n : length c.in_ok-once.once.items ≡ length c.args.a.now = fit_long c.args.gates.now (length c.args.a.now) (λ x. pos (num (row_of x c.args.a.now) * 2 ^ 1)) c.in_ok-once.once.items c.in_ok-once.ensures in
    let m : length c.in_ok-turned.turned.items ≡ length c.args.b.now = turned_many c.args.gates.now c.args.b.now c.in_ok-turned.turned.items c.in_ok-turned.ensures in
    let b = rw (c.deref.ensures.value, c.deref-2.ensures.value, n, m) at c.moved_by.ensures.builds in
    Builds-more c.args.gates.now c.moved_by.new.gates (length c.args.a.now * length c.args.b.now + length c.args.b.now + length c.args.a.now) _ b (omega arith)

pub returns-in_err-up-clause-too_many : goal.returns-in_err-up-clause-too_many
returns-in_err-up-clause-too_many c =
    let n : length c.in_ok-once.once.items ≡ length c.args.a.now = fit_long c.args.gates.now (length c.args.a.now) (λ x. pos (num (row_of x c.args.a.now) * 2 ^ 1)) c.in_ok-once.once.items c.in_ok-once.ensures in
    let m : length c.in_ok-turned.turned.items ≡ length c.args.b.now = turned_many c.args.gates.now c.args.b.now c.in_ok-turned.turned.items c.in_ok-turned.ensures in
    let few : length c.deref.result.now * length c.deref-2.result.now + length c.deref-2.result.now + length c.deref.result.now ≡ length c.args.a.now * length c.args.b.now + length c.args.b.now + length c.args.a.now = rw (c.deref.ensures.value, c.deref-2.ensures.value, n, m) refl in
    search rules

pub returns-in_err-down-clause-builds : goal.returns-in_err-down-clause-builds
returns-in_err-down-clause-builds c =
    let n : length c.in_ok-once.once.items ≡ length c.args.a.now = fit_long c.args.gates.now (length c.args.a.now) (λ x. pos (num (row_of x c.args.a.now) * 2 ^ 1)) c.in_ok-once.once.items c.in_ok-once.ensures in
    let m : length c.in_ok-turned.turned.items ≡ length c.args.b.now = turned_many c.args.gates.now c.args.b.now c.in_ok-turned.turned.items c.in_ok-turned.ensures in
    let b = rw (c.deref.ensures.value, c.deref-2.ensures.value, n, m) at c.moved_by.ensures.builds in
    Builds-trans c.args.gates.now c.moved_by.new.gates c.moved_by-2.new.gates (length c.args.a.now * length c.args.b.now + length c.args.b.now + length c.args.a.now) (length c.args.a.now * length c.args.b.now + length c.args.b.now + length c.args.a.now) _ b c.moved_by-2.ensures.builds (omega arith)

pub returns-in_err-down-clause-too_many : goal.returns-in_err-down-clause-too_many
returns-in_err-down-clause-too_many c =
    let n : length c.in_ok-once.once.items ≡ length c.args.a.now = fit_long c.args.gates.now (length c.args.a.now) (λ x. pos (num (row_of x c.args.a.now) * 2 ^ 1)) c.in_ok-once.once.items c.in_ok-once.ensures in
    let m : length c.in_ok-turned.turned.items ≡ length c.args.b.now = turned_many c.args.gates.now c.args.b.now c.in_ok-turned.turned.items c.in_ok-turned.ensures in
    let b = rw (c.deref.ensures.value, c.deref-2.ensures.value, n, m) at c.moved_by.ensures.builds in
    let p = b.most in
    let q = b.continues.limit in
    search rules

pub mux-requires-clause-width : goal.mux-requires-clause-width
mux-requires-clause-width c =
    let n : length c.in_ok-once.once.items ≡ length c.args.a.now = fit_long c.args.gates.now (length c.args.a.now) (λ x. pos (num (row_of x c.args.a.now) * 2 ^ 1)) c.in_ok-once.once.items c.in_ok-once.ensures in
    let up = rw (c.deref.ensures.value, c.deref-2.ensures.value) at c.in_ok-up.ensures.row in
    rw (c.deref-3.ensures.value, c.deref-4.ensures.value)
    (moved_many c.moved_by-2.new.gates (Down c.constant.result) c.args.a.now c.in_ok-down.down.items (λ x. num (row_of x c.args.b.now)) c.in_ok-down.ensures.row
    ∙ sym (moved_many c.moved_by.new.gates Up c.in_ok-once.once.items c.in_ok-up.up.items (λ x. num (row_of x c.in_ok-turned.turned.items)) up ∙ n))

pub returns-in_err-word-clause-builds : goal.returns-in_err-word-clause-builds
returns-in_err-word-clause-builds c =
    let n : length c.in_ok-once.once.items ≡ length c.args.a.now = fit_long c.args.gates.now (length c.args.a.now) (λ x. pos (num (row_of x c.args.a.now) * 2 ^ 1)) c.in_ok-once.once.items c.in_ok-once.ensures in
    let m : length c.in_ok-turned.turned.items ≡ length c.args.b.now = turned_many c.args.gates.now c.args.b.now c.in_ok-turned.turned.items c.in_ok-turned.ensures in
    let b = rw (c.deref.ensures.value, c.deref-2.ensures.value, n, m) at c.moved_by.ensures.builds in
    let l : length c.deref-3.result.now ≡ length c.args.a.now = rw c.deref-3.ensures.value (moved_many c.moved_by-2.new.gates (Down c.constant.result) c.args.a.now c.in_ok-down.down.items (λ x. num (row_of x c.args.b.now)) c.in_ok-down.ensures.row) in
    Builds-trans c.args.gates.now c.moved_by-2.new.gates c.mux.new.gates (2 * (length c.args.a.now * length c.args.b.now + length c.args.b.now + length c.args.a.now)) (length c.deref-3.result.now) _
    (Builds-trans c.args.gates.now c.moved_by.new.gates c.moved_by-2.new.gates (length c.args.a.now * length c.args.b.now + length c.args.b.now + length c.args.a.now) (length c.args.a.now * length c.args.b.now + length c.args.b.now + length c.args.a.now) _ b c.moved_by-2.ensures.builds (omega arith)) c.mux.ensures.builds (omega arith)

pub returns-in_err-word-clause-too_many : goal.returns-in_err-word-clause-too_many
returns-in_err-word-clause-too_many c =
    let n : length c.in_ok-once.once.items ≡ length c.args.a.now = fit_long c.args.gates.now (length c.args.a.now) (λ x. pos (num (row_of x c.args.a.now) * 2 ^ 1)) c.in_ok-once.once.items c.in_ok-once.ensures in
    let m : length c.in_ok-turned.turned.items ≡ length c.args.b.now = turned_many c.args.gates.now c.args.b.now c.in_ok-turned.turned.items c.in_ok-turned.ensures in
    let b = rw (c.deref.ensures.value, c.deref-2.ensures.value, n, m) at c.moved_by.ensures.builds in
    let l : length c.deref-3.result.now ≡ length c.args.a.now = rw c.deref-3.ensures.value (moved_many c.moved_by-2.new.gates (Down c.constant.result) c.args.a.now c.in_ok-down.down.items (λ x. num (row_of x c.args.b.now)) c.in_ok-down.ensures.row) in
    let all = Builds-trans c.args.gates.now c.moved_by.new.gates c.moved_by-2.new.gates (length c.args.a.now * length c.args.b.now + length c.args.b.now + length c.args.a.now) (length c.args.a.now * length c.args.b.now + length c.args.b.now + length c.args.a.now) (2 * (length c.args.a.now * length c.args.b.now + length c.args.b.now + length c.args.a.now)) b c.moved_by-2.ensures.builds (omega arith) in
    let p = all.most in
    let q = all.continues.limit in
    search rules

pub returns-clause-row : goal.returns-clause-row
returns-clause-row c =
    let up = rw (c.deref.ensures.value, c.deref-2.ensures.value) at c.in_ok-up.ensures.row in
    let row = rw (c.deref-3.ensures.value, c.deref-4.ensures.value) at c.in_ok-word.ensures.row in
    signed_means c.args.gates.now c.moved_by.new.gates c.moved_by-2.new.gates c.mux.new.gates c.args.a.now c.args.b.now c.in_ok-turned.turned.items c.in_ok-once.once.items c.in_ok-up.up.items c.in_ok-down.down.items c.in_ok-word.word.items c.constant.result c.fill_of-sign.result
    c.moved_by.ensures.builds.continues c.moved_by-2.ensures.builds.continues c.mux.ensures.builds.continues c.constant.ensures.means c.fill_of-sign.ensures.means c.in_ok-turned.ensures c.in_ok-once.ensures up c.in_ok-down.ensures.row row

pub returns-clause-builds : goal.returns-clause-builds
returns-clause-builds c =
    let n : length c.in_ok-once.once.items ≡ length c.args.a.now = fit_long c.args.gates.now (length c.args.a.now) (λ x. pos (num (row_of x c.args.a.now) * 2 ^ 1)) c.in_ok-once.once.items c.in_ok-once.ensures in
    let m : length c.in_ok-turned.turned.items ≡ length c.args.b.now = turned_many c.args.gates.now c.args.b.now c.in_ok-turned.turned.items c.in_ok-turned.ensures in
    let b = rw (c.deref.ensures.value, c.deref-2.ensures.value, n, m) at c.moved_by.ensures.builds in
    let l : length c.deref-3.result.now ≡ length c.args.a.now = rw c.deref-3.ensures.value (moved_many c.moved_by-2.new.gates (Down c.constant.result) c.args.a.now c.in_ok-down.down.items (λ x. num (row_of x c.args.b.now)) c.in_ok-down.ensures.row) in
    Builds-trans c.args.gates.now c.moved_by-2.new.gates c.mux.new.gates (2 * (length c.args.a.now * length c.args.b.now + length c.args.b.now + length c.args.a.now)) (length c.deref-3.result.now) _
    (Builds-trans c.args.gates.now c.moved_by.new.gates c.moved_by-2.new.gates (length c.args.a.now * length c.args.b.now + length c.args.b.now + length c.args.a.now) (length c.args.a.now * length c.args.b.now + length c.args.b.now + length c.args.a.now) _ b c.moved_by-2.ensures.builds (omega arith)) c.mux.ensures.builds (omega arith)
