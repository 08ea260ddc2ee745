use Rattle.std.proofs.Common.{rules, ◌≡◌, ◌∙◌, ◌*◌, length, sym, arith}
use Rattle.std.specs.Prelude.{pos}
use Rattle.sby_bits.specs.Rows.{value}
use Rattle.gate_rows.specs.Literals.{row_of}
use Rattle.gate_rows.proofs.Building.{fit_long, Builds-more}
use Rattle.gate_words.proofs.Modulo.{opposite_means}
use Rattle.gate_words.proofs.bitwise.opposite.Goals as goal

pub difference-requires-clause-as_many : goal.difference-requires-clause-as_many
difference-requires-clause-as_many c = rw (c.deref.ensures.value, c.deref-2.ensures.value)
    (fit_long c.args.gates.now c.args.y (λ x. pos 0) c.in_ok-zeros.zeros.items c.in_ok-zeros.ensures ∙ sym (fit_long c.args.gates.now c.args.y (λ x. value c.args.signed (row_of x c.args.a.now)) c.in_ok-wide.wide.items c.in_ok-wide.ensures))

pub returns-clause-row : goal.returns-clause-row
returns-clause-row c =
    let row = rw (c.deref.ensures.value, c.deref-2.ensures.value) at c.in_ok-word.ensures.row in
    opposite_means c.args.gates.now c.difference.new.gates c.args.y (λ x. value c.args.signed (row_of x c.args.a.now)) c.in_ok-zeros.zeros.items c.in_ok-wide.wide.items c.in_ok-word.word.items c.difference.ensures.builds.continues c.in_ok-zeros.ensures c.in_ok-wide.ensures row

pub returns-clause-builds : goal.returns-clause-builds
returns-clause-builds c =
    let n : length c.deref.result.now ≡ c.args.y = rw c.deref.ensures.value (fit_long c.args.gates.now c.args.y (λ x. pos 0) c.in_ok-zeros.zeros.items c.in_ok-zeros.ensures) in
    Builds-more c.args.gates.now c.difference.new.gates (3 * length c.deref.result.now) _ c.difference.ensures.builds (omega arith)

pub returns-in_err-word-clause-builds : goal.returns-in_err-word-clause-builds
returns-in_err-word-clause-builds c =
    let n : length c.deref.result.now ≡ c.args.y = rw c.deref.ensures.value (fit_long c.args.gates.now c.args.y (λ x. pos 0) c.in_ok-zeros.zeros.items c.in_ok-zeros.ensures) in
    Builds-more c.args.gates.now c.difference.new.gates (3 * length c.deref.result.now) _ c.difference.ensures.builds (omega arith)

pub returns-in_err-word-clause-too_many : goal.returns-in_err-word-clause-too_many
returns-in_err-word-clause-too_many c =
    let n : length c.deref.result.now ≡ c.args.y = rw c.deref.ensures.value (fit_long c.args.gates.now c.args.y (λ x. pos 0) c.in_ok-zeros.zeros.items c.in_ok-zeros.ensures) in
    search rules
