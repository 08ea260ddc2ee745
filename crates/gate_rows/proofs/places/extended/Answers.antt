use Rattle.std.proofs.Common.{◌^◌, ap, sym, ◌∙◌}
use Rattle.std.specs.Prelude.{pos}
use Rattle.std.specs.Int.{int_div_euclid}
use Rattle.cnf_form.specs.Cnf.{lit_in}
use Rattle.sby_bits.specs.Rows.{fit, value}
use Rattle.sby_bits.specs.Words.{filled_number}
use Rattle.sby_bits.proofs.Numbers.{extended, length-fit}
use Rattle.gate_rows.specs.Literals.{row_of}
use Rattle.gate_rows.proofs.Building.{Row-same}
use Rattle.gate_rows.proofs.places.extended.Goals as goal

pub returns : goal.returns
returns c =
    Row-same c.args.gates.now (λ x. fit c.args.y (int_div_euclid (filled_number (row_of x c.args.a.now) (lit_in x c.fill_of-fill.result)) (pos (2 ^ 0)))) (λ x. fit c.args.y (value c.args.signed (row_of x c.args.a.now))) c.in_ok-word.word.items c.in_ok-word.ensures
    (λ x. length-fit c.args.y (int_div_euclid (filled_number (row_of x c.args.a.now) (lit_in x c.fill_of-fill.result)) (pos (2 ^ 0))) ∙ sym (length-fit c.args.y (value c.args.signed (row_of x c.args.a.now))))
    (λ x s. ap (fit c.args.y) (extended (row_of x c.args.a.now) c.args.signed (lit_in x c.fill_of-fill.result) (c.fill_of-fill.ensures.means x s)))
