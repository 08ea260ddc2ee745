use Rattle.std.proofs.Common.{rules, ◌≡◌, ◌∙◌, ◌+◌, length, sym, arith}
use Rattle.sby_bits.specs.Rows.{value}
use Rattle.gate_rows.specs.Literals.{row_of}
use Rattle.gate_rows.proofs.Building.{fit_long, Builds-more}
use Rattle.gate_words.specs.Words.{made_gates}
use Rattle.gate_words.proofs.Modulo.{binary_means, made_few}
use Rattle.gate_words.proofs.bitwise.binary.Goals as goal

pub of_width-requires-clause-as_many : goal.of_width-requires-clause-as_many
of_width-requires-clause-as_many c = rw (c.deref.ensures.value, c.deref-2.ensures.value)
    (fit_long c.args.gates.now c.args.y (λ x. value c.args.signed (row_of x c.args.a.now)) c.in_ok-wide_a.wide_a.items c.in_ok-wide_a.ensures ∙ sym (fit_long c.args.gates.now c.args.y (λ x. value c.args.signed (row_of x c.args.b.now)) c.in_ok-wide_b.wide_b.items c.in_ok-wide_b.ensures))

pub returns-clause-row : goal.returns-clause-row
returns-clause-row c =
    let row = rw (c.deref.ensures.value, c.deref-2.ensures.value) at c.in_ok-word.ensures.row in
    binary_means c.args.gates.now c.of_width.new.gates c.args.kind c.args.y (λ x. value c.args.signed (row_of x c.args.a.now)) (λ x. value c.args.signed (row_of x c.args.b.now)) c.in_ok-wide_a.wide_a.items c.in_ok-wide_b.wide_b.items c.in_ok-word.word.items
    c.of_width.ensures.builds.continues c.in_ok-wide_a.ensures c.in_ok-wide_b.ensures row

pub returns-clause-builds : goal.returns-clause-builds
returns-clause-builds c =
    let n : length c.deref.result.now ≡ c.args.y = rw c.deref.ensures.value (fit_long c.args.gates.now c.args.y (λ x. value c.args.signed (row_of x c.args.a.now)) c.in_ok-wide_a.wide_a.items c.in_ok-wide_a.ensures) in
    Builds-more c.args.gates.now c.of_width.new.gates (made_gates c.args.kind (length c.deref.result.now)) _ c.of_width.ensures.builds (made_few c.args.kind _ _ (omega arith))

pub returns-in_err-word-clause-builds : goal.returns-in_err-word-clause-builds
returns-in_err-word-clause-builds c =
    let n : length c.deref.result.now ≡ c.args.y = rw c.deref.ensures.value (fit_long c.args.gates.now c.args.y (λ x. value c.args.signed (row_of x c.args.a.now)) c.in_ok-wide_a.wide_a.items c.in_ok-wide_a.ensures) in
    Builds-more c.args.gates.now c.of_width.new.gates (made_gates c.args.kind (length c.deref.result.now)) _ c.of_width.ensures.builds (made_few c.args.kind _ _ (omega arith))

pub returns-in_err-word-clause-too_many : goal.returns-in_err-word-clause-too_many
returns-in_err-word-clause-too_many c =
    let n : length c.deref.result.now ≡ c.args.y = rw c.deref.ensures.value (fit_long c.args.gates.now c.args.y (λ x. value c.args.signed (row_of x c.args.a.now)) c.in_ok-wide_a.wide_a.items c.in_ok-wide_a.ensures) in
    let few = made_few c.args.kind (length c.deref.result.now) (length c.args.a.now + length c.args.b.now + c.args.y) (omega arith) in
    search rules

pub of_width-requires-clause-long : goal.of_width-requires-clause-long
of_width-requires-clause-long c = rw c.deref.ensures.value (fit_long c.args.gates.now c.args.y (λ x. value c.args.signed (row_of x c.args.a.now)) c.in_ok-wide_a.wide_a.items c.in_ok-wide_a.ensures)
