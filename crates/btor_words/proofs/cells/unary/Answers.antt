use Rattle.std.proofs.Common.{arith, ◌∙◌, ap}
use Rattle.std.specs.Prelude.{map, not, pos, ◌-ℤ◌}
use Rattle.sby_bits.specs.Rows.{Row, fit, num, value}
use Rattle.cell_table.specs.Cells.{unary_fn}
use Rattle.btor_words.proofs.Emitting.{last}
use Rattle.btor_words.proofs.Rows.{neg_row, not_row}
use Rattle.btor_words.proofs.cells.unary.Goals as goal

pub returns-in_ok-turned-in-Not-clause-row : goal.returns-in_ok-turned-in-Not-clause-row
returns-in_ok-turned-in-Not-clause-row c =
    last 4 (λ vs. unary_fn c.args.kind c.args.width (value c.args.signed (vs c.args.a.nid))) c.requires.a.btor c.in_ok-own.ensures.row.adds c.in_ok-turned-in-Not.ensures.row (omega arith)
    (λ vs h p. rw c.in-Not.is (ap (λ (r : Row). map not r) p ∙ not_row c.args.width (value c.args.signed (vs c.args.a.nid))))

pub returns-in_ok-opposite-in-Neg-clause-row : goal.returns-in_ok-opposite-in-Neg-clause-row
returns-in_ok-opposite-in-Neg-clause-row c =
    last 4 (λ vs. unary_fn c.args.kind c.args.width (value c.args.signed (vs c.args.a.nid))) c.requires.a.btor c.in_ok-own.ensures.row.adds c.in_ok-opposite-in-Neg.ensures.row (omega arith)
    (λ vs h p. rw c.in-Neg.is (ap (λ (r : Row). fit c.args.width (pos 0 -ℤ pos (num r))) p ∙ neg_row c.args.width (value c.args.signed (vs c.args.a.nid))))
