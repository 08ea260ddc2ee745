use Rattle.std.proofs.Common.{rules, ◌≡◌, ◌∙◌, ℕ, ◌*◌, length, sym, subst, arith}
use Rattle.sby_bits.specs.Rows.{value}
use Rattle.cell_table.specs.Cells.{is_compared}
use Rattle.gate_rows.specs.Literals.{row_of, MeansBit}
use Rattle.gate_rows.proofs.Building.{fit_long, Builds-more}
use Rattle.gate_words.proofs.Folding.{compare_means}
use Rattle.gate_words.proofs.predicates.wide_compared.Goals as goal

pub compared-requires-clause-as_many : goal.compared-requires-clause-as_many
compared-requires-clause-as_many c = rw (c.deref.ensures.value, c.deref-2.ensures.value)
    (fit_long c.args.gates.now c.args.width (λ x. value c.args.signed (row_of x c.args.a.now)) c.in_ok-wide_a.wide_a.items c.in_ok-wide_a.ensures ∙ sym (fit_long c.args.gates.now c.args.width (λ x. value c.args.signed (row_of x c.args.b.now)) c.in_ok-wide_b.wide_b.items c.in_ok-wide_b.ensures))

pub returns-clause-bit : goal.returns-clause-bit
returns-clause-bit c =
    let e = c.requires.width in
    let bit = rw (c.deref.ensures.value, c.deref-2.ensures.value) at c.in_ok-lit.ensures.bit in
    subst (λ (n : ℕ). MeansBit c.compared.new.gates (λ x. is_compared c.args.kind n (value c.args.signed (row_of x c.args.a.now)) (value c.args.signed (row_of x c.args.b.now))) c.in_ok-lit.lit) e
    (compare_means c.args.gates.now c.compared.new.gates c.args.kind c.args.width c.args.signed c.args.a.now c.args.b.now c.in_ok-wide_a.wide_a.items c.in_ok-wide_b.wide_b.items c.in_ok-lit.lit c.compared.ensures.builds.continues (omega arith) (omega arith) c.in_ok-wide_a.ensures c.in_ok-wide_b.ensures bit)

pub returns-clause-builds : goal.returns-clause-builds
returns-clause-builds c =
    let n : length c.deref.result.now ≡ c.args.width = rw c.deref.ensures.value (fit_long c.args.gates.now c.args.width (λ x. value c.args.signed (row_of x c.args.a.now)) c.in_ok-wide_a.wide_a.items c.in_ok-wide_a.ensures) in
    let e = c.requires.width in
    Builds-more c.args.gates.now c.compared.new.gates (2 * length c.deref.result.now) _ c.compared.ensures.builds (omega arith)

pub returns-in_err-lit-clause-builds : goal.returns-in_err-lit-clause-builds
returns-in_err-lit-clause-builds c =
    let n : length c.deref.result.now ≡ c.args.width = rw c.deref.ensures.value (fit_long c.args.gates.now c.args.width (λ x. value c.args.signed (row_of x c.args.a.now)) c.in_ok-wide_a.wide_a.items c.in_ok-wide_a.ensures) in
    let e = c.requires.width in
    Builds-more c.args.gates.now c.compared.new.gates (2 * length c.deref.result.now) _ c.compared.ensures.builds (omega arith)

pub returns-in_err-lit-clause-too_many : goal.returns-in_err-lit-clause-too_many
returns-in_err-lit-clause-too_many c =
    let n : length c.deref.result.now ≡ c.args.width = rw c.deref.ensures.value (fit_long c.args.gates.now c.args.width (λ x. value c.args.signed (row_of x c.args.a.now)) c.in_ok-wide_a.wide_a.items c.in_ok-wide_a.ensures) in
    let e = c.requires.width in
    search rules
