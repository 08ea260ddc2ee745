use Rattle.std.proofs.Common.{rules, ◌≡◌, ◌+◌, ◌*◌, length, arith}
use Rattle.std.specs.Prelude.{pos, unsigned_abs}
use Rattle.sby_bits.specs.Rows.{value}
use Rattle.sby_bits.specs.Words.{remainder}
use Rattle.gate_rows.specs.Literals.{row_of}
use Rattle.gate_rows.proofs.Building.{fit_long, Builds-trans}
use Rattle.gate_words.specs.Division.{divided_gates}
use Rattle.gate_words.proofs.Quotients.{mod_means}
use Rattle.gate_words.proofs.division.remainder_wide.Goals as goal

pub returns-clause-row : goal.returns-clause-row
returns-clause-row c =
    let row = rw c.deref.ensures.value at c.in_ok-word.ensures.row in
    mod_means c.args.gates.now c.sizes_divided.new.gates c.turned_where.new.gates c.args.a.now c.args.b.now c.in_ok-rest.rest.items c.in_ok-word.word.items c.fill_of-sign.result c.args.signed c.args.n
    c.sizes_divided.ensures.builds.continues c.turned_where.ensures.builds.continues c.fill_of-sign.ensures.means c.in_ok-rest.ensures.rest row

pub returns-clause-builds : goal.returns-clause-builds
returns-clause-builds c =
    let n : length c.deref.result.now ≡ c.args.n = rw c.deref.ensures.value (fit_long c.sizes_divided.new.gates c.args.n (λ x. remainder (pos (unsigned_abs (value c.args.signed (row_of x c.args.a.now)))) (pos (unsigned_abs (value c.args.signed (row_of x c.args.b.now))))) c.in_ok-rest.rest.items c.in_ok-rest.ensures.rest) in
    Builds-trans c.args.gates.now c.sizes_divided.new.gates c.turned_where.new.gates (8 * c.args.n + divided_gates c.args.n) (4 * length c.deref.result.now) _ c.sizes_divided.ensures.builds c.turned_where.ensures.builds (omega arith)

pub returns-in_err-word-clause-builds : goal.returns-in_err-word-clause-builds
returns-in_err-word-clause-builds c =
    let n : length c.deref.result.now ≡ c.args.n = rw c.deref.ensures.value (fit_long c.sizes_divided.new.gates c.args.n (λ x. remainder (pos (unsigned_abs (value c.args.signed (row_of x c.args.a.now)))) (pos (unsigned_abs (value c.args.signed (row_of x c.args.b.now))))) c.in_ok-rest.rest.items c.in_ok-rest.ensures.rest) in
    Builds-trans c.args.gates.now c.sizes_divided.new.gates c.turned_where.new.gates (8 * c.args.n + divided_gates c.args.n) (4 * length c.deref.result.now) _ c.sizes_divided.ensures.builds c.turned_where.ensures.builds (omega arith)

pub returns-in_err-word-clause-too_many : goal.returns-in_err-word-clause-too_many
returns-in_err-word-clause-too_many c =
    let n : length c.deref.result.now ≡ c.args.n = rw c.deref.ensures.value (fit_long c.sizes_divided.new.gates c.args.n (λ x. remainder (pos (unsigned_abs (value c.args.signed (row_of x c.args.a.now)))) (pos (unsigned_abs (value c.args.signed (row_of x c.args.b.now))))) c.in_ok-rest.rest.items c.in_ok-rest.ensures.rest) in
    let p = c.sizes_divided.ensures.builds.most in
    let q = c.sizes_divided.ensures.builds.continues.limit in
    search rules
