use Rattle.std.proofs.Common.{rules, ◌≡◌, ◌*◌, length, arith}
use Rattle.sby_bits.specs.Rows.{value}
use Rattle.gate_rows.specs.Literals.{row_of}
use Rattle.gate_rows.proofs.Building.{fit_long, Builds-more}
use Rattle.gate_words.proofs.Quotients.{size_means}
use Rattle.gate_words.proofs.division.size.Goals as goal

pub returns-in_err-word-clause-builds : goal.returns-in_err-word-clause-builds
returns-in_err-word-clause-builds c =
    let n : length c.deref.result.now ≡ c.args.n = rw c.deref.ensures.value (fit_long c.args.gates.now c.args.n (λ x. value c.args.signed (row_of x c.args.a.now)) c.in_ok-wide.wide.items c.in_ok-wide.ensures) in
    Builds-more c.args.gates.now c.turned_where.new.gates (4 * length c.deref.result.now) _ c.turned_where.ensures.builds (omega arith)

pub returns-in_err-word-clause-too_many : goal.returns-in_err-word-clause-too_many
returns-in_err-word-clause-too_many c =
    let n : length c.deref.result.now ≡ c.args.n = rw c.deref.ensures.value (fit_long c.args.gates.now c.args.n (λ x. value c.args.signed (row_of x c.args.a.now)) c.in_ok-wide.wide.items c.in_ok-wide.ensures) in
    search rules

pub returns-clause-row : goal.returns-clause-row
returns-clause-row c =
    let row = rw c.deref.ensures.value at c.in_ok-word.ensures.row in
    size_means c.args.gates.now c.turned_where.new.gates c.args.a.now c.in_ok-wide.wide.items c.in_ok-word.word.items c.args.signed c.args.n c.fill_of-sign.result c.turned_where.ensures.builds.continues c.fill_of-sign.ensures.means c.in_ok-wide.ensures row

pub returns-clause-builds : goal.returns-clause-builds
returns-clause-builds c =
    let n : length c.deref.result.now ≡ c.args.n = rw c.deref.ensures.value (fit_long c.args.gates.now c.args.n (λ x. value c.args.signed (row_of x c.args.a.now)) c.in_ok-wide.wide.items c.in_ok-wide.ensures) in
    Builds-more c.args.gates.now c.turned_where.new.gates (4 * length c.deref.result.now) _ c.turned_where.ensures.builds (omega arith)
