use Rattle.std.proofs.Common.{rules, ◌≡◌, ◌∙◌, ◌*◌, length, sym, refl, arith}
use Rattle.std.specs.Prelude.{pos, unsigned_abs}
use Rattle.sby_bits.specs.Rows.{value}
use Rattle.sby_bits.specs.Words.{quotient, remainder}
use Rattle.gate_rows.specs.Literals.{row_of}
use Rattle.gate_rows.proofs.Building.{fit_long, Builds-trans}
use Rattle.gate_words.specs.Division.{divided_gates}
use Rattle.gate_words.proofs.Quotients.{sizes_divided}
use Rattle.gate_words.proofs.division.sizes_divided.Goals as goal

pub divided-requires-clause-as_many : goal.divided-requires-clause-as_many
divided-requires-clause-as_many c = rw (c.deref.ensures.value, c.deref-2.ensures.value)
    (fit_long c.size.new.gates c.args.n (λ x. pos (unsigned_abs (value c.args.signed (row_of x c.args.a.now)))) c.in_ok-size_a.size_a.items c.in_ok-size_a.ensures.row
    ∙ sym (fit_long c.size-2.new.gates c.args.n (λ x. pos (unsigned_abs (value c.args.signed (row_of x c.args.b.now)))) c.in_ok-size_b.size_b.items c.in_ok-size_b.ensures.row))

pub returns-clause-quotient : goal.returns-clause-quotient
returns-clause-quotient c = sizes_divided c.size.new.gates c.size-2.new.gates c.divided.new.gates c.args.a.now c.args.b.now c.in_ok-size_a.size_a.items c.in_ok-size_b.size_b.items c.deref.result.now c.deref-2.result.now c.in_ok-bits.bits.items c.args.signed c.args.n quotient
    c.divided.ensures.builds.continues c.size-2.ensures.builds.continues c.requires.a_wide c.requires.b_wide c.deref.ensures.value c.deref-2.ensures.value c.in_ok-size_a.ensures.row c.in_ok-size_b.ensures.row c.in_ok-bits.ensures.quotient

pub returns-clause-rest : goal.returns-clause-rest
returns-clause-rest c = sizes_divided c.size.new.gates c.size-2.new.gates c.divided.new.gates c.args.a.now c.args.b.now c.in_ok-size_a.size_a.items c.in_ok-size_b.size_b.items c.deref.result.now c.deref-2.result.now c.in_ok-bits.rest.items c.args.signed c.args.n remainder
    c.divided.ensures.builds.continues c.size-2.ensures.builds.continues c.requires.a_wide c.requires.b_wide c.deref.ensures.value c.deref-2.ensures.value c.in_ok-size_a.ensures.row c.in_ok-size_b.ensures.row c.in_ok-bits.ensures.rest

pub returns-clause-builds : goal.returns-clause-builds
returns-clause-builds c =
    let n : length c.in_ok-size_a.size_a.items ≡ c.args.n = fit_long c.size.new.gates c.args.n (λ x. pos (unsigned_abs (value c.args.signed (row_of x c.args.a.now)))) c.in_ok-size_a.size_a.items c.in_ok-size_a.ensures.row in
    let b = rw (c.deref.ensures.value, n) at c.divided.ensures.builds in
    Builds-trans c.args.gates.now c.size-2.new.gates c.divided.new.gates (8 * c.args.n) (divided_gates c.args.n) _
    (Builds-trans c.args.gates.now c.size.new.gates c.size-2.new.gates (4 * c.args.n) (4 * c.args.n) (8 * c.args.n) c.size.ensures.builds c.size-2.ensures.builds (omega arith)) b (omega arith)

pub returns-in_err-bits-clause-builds : goal.returns-in_err-bits-clause-builds
returns-in_err-bits-clause-builds c =
    let n : length c.in_ok-size_a.size_a.items ≡ c.args.n = fit_long c.size.new.gates c.args.n (λ x. pos (unsigned_abs (value c.args.signed (row_of x c.args.a.now)))) c.in_ok-size_a.size_a.items c.in_ok-size_a.ensures.row in
    let b = rw (c.deref.ensures.value, n) at c.divided.ensures.builds in
    Builds-trans c.args.gates.now c.size-2.new.gates c.divided.new.gates (8 * c.args.n) (divided_gates c.args.n) _
    (Builds-trans c.args.gates.now c.size.new.gates c.size-2.new.gates (4 * c.args.n) (4 * c.args.n) (8 * c.args.n) c.size.ensures.builds c.size-2.ensures.builds (omega arith)) b (omega arith)

pub returns-in_err-bits-clause-too_many : goal.returns-in_err-bits-clause-too_many
returns-in_err-bits-clause-too_many c =
    let n : length c.in_ok-size_a.size_a.items ≡ c.args.n = fit_long c.size.new.gates c.args.n (λ x. pos (unsigned_abs (value c.args.signed (row_of x c.args.a.now)))) c.in_ok-size_a.size_a.items c.in_ok-size_a.ensures.row in
    let few : divided_gates (length c.deref.result.now) ≡ divided_gates c.args.n = rw (c.deref.ensures.value, n) refl in
    let p = c.size.ensures.builds.most in
    let q = c.size.ensures.builds.continues.limit in
    let r = c.size-2.ensures.builds.most in
    let s = c.size-2.ensures.builds.continues.limit in
    search rules
