use Rattle.std.proofs.Common.{◌∙◌, refl}
use Rattle.std.specs.Prelude.{replicate}
use Rattle.btor_words.proofs.Emitting.{lined}
use Rattle.btor_words.proofs.Rows.{all_ones, all_zero}
use Rattle.btor_words.proofs.constants.filled.Goals as goal

pub returns-in_ok-word-clause-row : goal.returns-in_ok-word-clause-row
returns-in_ok-word-clause-row c = lined (λ vs. replicate c.args.width c.args.digit) c.promise.ensures.btor c.in_ok-word.ensures.ok refl (λ vs h e. rw c.if-digit.true (e ∙ all_ones c.args.width))

pub returns-in_ok-word-2-clause-row : goal.returns-in_ok-word-2-clause-row
returns-in_ok-word-2-clause-row c = lined (λ vs. replicate c.args.width c.args.digit) c.promise.ensures.btor c.in_ok-word-2.ensures.ok refl (λ vs h e. rw c.if-digit.false (e ∙ all_zero c.args.width))
