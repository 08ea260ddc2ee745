use Rattle.std.proofs.Common.{List, ap, subst, sym, ℕ, ◌∙◌}
use Rattle.inv_judge.specs.Judging.{IsOver, JudgeOf, HasTaken, outcome_of}
use Rattle.inv_judge.proofs.Pieces.{ends_again, ends_piece, judge}
use Rattle.inv_judge.proofs.judging.InvJudge.end.Goals as goal

pub returns-in-Some-clause-ends : goal.returns-in-Some-clause-ends
returns-in-Some-clause-ends c = λ bytes s. ends_again c.args.self.now c.in-Some.outcome (ap outcome_of (sym c.self.view_is) ∙ sym c.outcome.ensures ∙ c.in-Some.is) bytes s

pub returns-clause-ends : goal.returns-clause-ends
returns-clause-ends c =
    subst (λ (j : JudgeOf). (bytes : List ℕ) → HasTaken j bytes → IsOver (judge c.take_end.new.parser c.take_end.new.claim c.self.inside.count c.self.inside.most c.self.inside.wanting) bytes c.in-Ok.outcome) c.self.view_is
    (λ bytes s. ends_piece c.self.inside.parser c.take_end.new.parser c.self.inside.claim c.take_end.new.claim c.self.inside.count c.self.inside.most c.self.inside.wanting bytes s (sym c.outcome.ensures ∙ c.in_default.is) c.in-Ok.ensures.takes
    c.in-Ok.outcome c.in-Ok.ensures.outcome)
