use Rattle.std.proofs.Common.{eq-eqb, get_or, length, sym, arith}
use Rattle.std.proofs.lemmas.List.Sums.{position_or_len_is}
use Rattle.btor_text.specs.Grammar.{is_feed}
use Rattle.btor_text.proofs.scan.to_feed.Goals as goal

pub returns-then-b-eq10-clause-place : goal.returns-then-b-eq10-clause-place
returns-then-b-eq10-clause-place c = sym (position_or_len_is is_feed c.args.text.now c.loop-i.i 0 (omega arith) c.loop-i.invariant (λ h. eq-eqb (get_or c.args.text.now c.loop-i.i 0) 10 c.if-b-eq10.true))

pub returns-clause-place : goal.returns-clause-place
returns-clause-place c = sym (position_or_len_is is_feed c.args.text.now (length c.args.text.now) 0 (omega arith) (λ k h. c.loop-i.invariant k (omega arith)) (λ h. absurd (omega arith)))
