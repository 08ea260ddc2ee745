use Rattle.std.proofs.Common.{List, Option, Bool, sym, subst}
use Rattle.std.proofs.lemmas.Result.{on_ok_weaker}
use Rattle.word_model.specs.Registers.{AreDigits}
use Rattle.word_model.proofs.registers.push_held.Goals as goal

pub returns : goal.returns
returns c =
    let made = rw c.design.ensures.design at c.push_table_register.ensures in
    on_ok_weaker c.push_table_register.result
    (λ e i cell.
    (c.deref.result.now, subst (λ (l : List (Option Bool)). AreDigits c.args.flat.now i c.args.cell.now l) (sym c.deref.ensures.value) (c.in_ok-fill_starts.ensures i cell c.requires.register), e))
    made
