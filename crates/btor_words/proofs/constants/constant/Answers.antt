use Rattle.std.proofs.Common.{◌∙◌, sym, true, false}
use Rattle.btor_words.proofs.Emitting.{same_as}
use Rattle.btor_words.proofs.Rows.{all_same}
use Rattle.btor_words.proofs.constants.constant.Goals as goal

pub returns-then-is_filled-clause-row : goal.returns-then-is_filled-clause-row
returns-then-is_filled-clause-row c = same_as (λ vs. c.args.bits.now) c.in_ok-word.ensures.row (λ vs. sym (all_same false c.args.bits.now (sym c.is_filled.ensures ∙ c.if-is_filled.true)))

pub returns-then-is_filled-2-clause-row : goal.returns-then-is_filled-2-clause-row
returns-then-is_filled-2-clause-row c = same_as (λ vs. c.args.bits.now) c.in_ok-word-2.ensures.row (λ vs. sym (all_same true c.args.bits.now (sym c.is_filled-2.ensures ∙ c.if-is_filled-2.true)))
