use Rattle.std.proofs.Common.{rules, ◌≡◌, ◌∙◌, ◌*◌, length, sym, arith}
use Rattle.std.specs.Prelude.{pos}
use Rattle.cnf_form.specs.Cnf.{lit_in}
use Rattle.sby_bits.specs.Rows.{num}
use Rattle.gate_rows.specs.Literals.{row_of}
use Rattle.gate_rows.specs.Sums.{at, IsSave}
use Rattle.gate_rows.proofs.Building.{fit_long, Builds-trans}
use Rattle.gate_rows.proofs.Multiplying.{term_added}
use Rattle.gate_rows.proofs.products.add_term.Goals as goal

pub save-requires-clause-c_long : goal.save-requires-clause-c_long
save-requires-clause-c_long c = rw c.deref.ensures.value (c.requires.s_long ∙ sym (fit_long c.term.new.gates c.args.y (λ x. pos (num (row_of x c.args.a.now) * at c.args.k (lit_in x c.args.bit))) c.in_ok-p.p.items c.in_ok-p.ensures.row))

pub returns-clause-term : goal.returns-clause-term
returns-clause-term c =
    let n = c.requires.s_long in
    let sum = rw (c.deref.ensures.value, n) at c.in_ok-t.ensures.sum in
    term_added c.args.gates.now c.term.new.gates c.save.new.gates c.args.y c.args.k c.args.a.now c.args.s.now c.args.c.now c.in_ok-p.p.items _ _ c.args.bit _ n c.requires.c_long c.term.ensures.builds c.in_ok-p.ensures.row sum

pub returns-clause-builds : goal.returns-clause-builds
returns-clause-builds c = let n = c.requires.s_long in Builds-trans c.args.gates.now c.term.new.gates c.save.new.gates c.args.y (3 * length c.args.s.now) _ c.term.ensures.builds c.save.ensures.builds (omega arith)
