use Rattle.std.proofs.Common.{not, ap, length, sym, arith}
use Rattle.std.proofs.lemmas.List.Sums.{position_or_len_is}
use Rattle.btor_text.specs.Grammar.{is_blank}
use Rattle.btor_text.proofs.scan.to_visible.Goals as goal

pub returns-then-not-is_blank-clause-place : goal.returns-then-not-is_blank-clause-place
returns-then-not-is_blank-clause-place c = sym (position_or_len_is (λ b. not (is_blank b)) c.args.text.now c.loop-i.i 0 (omega arith) c.loop-i.invariant (λ h. ap not (sym c.if-not-is_blank.ensures)))

pub returns-clause-place : goal.returns-clause-place
returns-clause-place c = sym (position_or_len_is (λ b. not (is_blank b)) c.args.text.now (length c.args.text.now) 0 (omega arith) (λ k h. c.loop-i.invariant k (omega arith)) (λ h. absurd (omega arith)))
