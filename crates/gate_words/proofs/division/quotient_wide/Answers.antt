use Rattle.std.proofs.Common.{rules, ◌≡◌, ◌+◌, ◌*◌, length, arith}
use Rattle.std.specs.Prelude.{pos, unsigned_abs}
use Rattle.sby_bits.specs.Rows.{value}
use Rattle.sby_bits.specs.Words.{quotient}
use Rattle.gate_rows.specs.Literals.{row_of}
use Rattle.gate_rows.proofs.Building.{fit_long, Builds-trans}
use Rattle.gate_words.specs.Division.{divided_gates}
use Rattle.gate_words.proofs.Quotients.{div_means}
use Rattle.gate_words.proofs.division.quotient_wide.Goals as goal

pub returns-clause-row : goal.returns-clause-row
returns-clause-row c =
    let row = rw c.deref.ensures.value at c.in_ok-word.ensures.row in
    div_means c.args.gates.now c.sizes_divided.new.gates c.quotient_signed.new.gates c.args.a.now c.args.b.now c.in_ok-bits.bits.items c.in_ok-word.word.items c.fill_of-sign_a.result c.fill_of-sign_b.result c.args.signed c.args.n
    c.sizes_divided.ensures.builds.continues c.quotient_signed.ensures.builds.continues c.fill_of-sign_a.ensures.means c.fill_of-sign_b.ensures.means c.in_ok-bits.ensures.quotient row

pub returns-clause-builds : goal.returns-clause-builds
returns-clause-builds c =
    let n : length c.deref.result.now ≡ c.args.n = rw c.deref.ensures.value (fit_long c.sizes_divided.new.gates c.args.n (λ x. quotient (pos (unsigned_abs (value c.args.signed (row_of x c.args.a.now)))) (pos (unsigned_abs (value c.args.signed (row_of x c.args.b.now))))) c.in_ok-bits.bits.items c.in_ok-bits.ensures.quotient) in
    Builds-trans c.args.gates.now c.sizes_divided.new.gates c.quotient_signed.new.gates (8 * c.args.n + divided_gates c.args.n) (4 * length c.deref.result.now + 1) _ c.sizes_divided.ensures.builds c.quotient_signed.ensures.builds (omega arith)

pub returns-in_err-word-clause-builds : goal.returns-in_err-word-clause-builds
returns-in_err-word-clause-builds c =
    let n : length c.deref.result.now ≡ c.args.n = rw c.deref.ensures.value (fit_long c.sizes_divided.new.gates c.args.n (λ x. quotient (pos (unsigned_abs (value c.args.signed (row_of x c.args.a.now)))) (pos (unsigned_abs (value c.args.signed (row_of x c.args.b.now))))) c.in_ok-bits.bits.items c.in_ok-bits.ensures.quotient) in
    Builds-trans c.args.gates.now c.sizes_divided.new.gates c.quotient_signed.new.gates (8 * c.args.n + divided_gates c.args.n) (4 * length c.deref.result.now + 1) _ c.sizes_divided.ensures.builds c.quotient_signed.ensures.builds (omega arith)

pub returns-in_err-word-clause-too_many : goal.returns-in_err-word-clause-too_many
returns-in_err-word-clause-too_many c =
    let n : length c.deref.result.now ≡ c.args.n = rw c.deref.ensures.value (fit_long c.sizes_divided.new.gates c.args.n (λ x. quotient (pos (unsigned_abs (value c.args.signed (row_of x c.args.a.now)))) (pos (unsigned_abs (value c.args.signed (row_of x c.args.b.now))))) c.in_ok-bits.bits.items c.in_ok-bits.ensures.quotient) in
    let p = c.sizes_divided.ensures.builds.most in
    let q = c.sizes_divided.ensures.builds.continues.limit in
    search rules
