use Rattle.std.proofs.Common.{◌∙◌, ◌*◌, ◌^◌, [], ◌∷◌, sym, cond}
use Rattle.std.specs.Prelude.{pos}
use Rattle.cnf_form.specs.Cnf.{lit_in}
use Rattle.sby_bits.specs.Rows.{num, fit}
use Rattle.sby_bits.proofs.Numbers.{length-fit}
use Rattle.cell_table.specs.Cells.{bit_row}
use Rattle.gate_rows.proofs.Building.{Row-same}
use Rattle.gate_words.proofs.Folding.{flag_row}
use Rattle.gate_words.proofs.predicates.flag_word.Goals as goal

pub returns : goal.returns
returns c = Row-same c.args.gates.now (λ x. fit c.args.y (pos (num (lit_in x c.args.flag ∷ []) * 2 ^ 0))) (λ x. bit_row c.args.y (lit_in x c.args.flag)) c.in_ok-word.word.items c.in_ok-word.ensures
    (λ x. length-fit c.args.y (pos (num (lit_in x c.args.flag ∷ []) * 2 ^ 0)) ∙ sym (length-fit c.args.y (pos (cond (lit_in x c.args.flag) 1 0))))
    (λ x s. flag_row c.args.y (lit_in x c.args.flag))
