use Rattle.std.proofs.Common.{ℕ, List, ◌∙◌, ap, sym, subst}
use Rattle.cert_judge.specs.Judging.{IsOver, JudgeOf, HasTaken, outcome_of}
use Rattle.cert_judge.proofs.Pieces.{ends_again, ends_piece, judge}
use Rattle.cert_judge.proofs.judging.Judge.end.Goals as goal

pub returns-in-Some-clause-ends : goal.returns-in-Some-clause-ends
returns-in-Some-clause-ends g c = λ bytes s. ends_again c.args.self.now c.in-Some.outcome (ap outcome_of (sym c.self.view_is) ∙ sym c.outcome.ensures ∙ c.in-Some.is) bytes s

pub returns-clause-ends : goal.returns-clause-ends
returns-clause-ends g c =
    subst (λ (j : JudgeOf _). (bytes : List ℕ) → HasTaken j bytes → IsOver (judge c.take_end.new.lines c.self.inside.most c.self.inside.wanting) bytes c.in-Ok.outcome) c.self.view_is
    (λ bytes s. ends_piece c.self.inside.most c.self.inside.lines c.self.inside.wanting (sym c.outcome.ensures ∙ c.in_default.is) bytes s c.take_end.new.lines c.in-Ok.outcome c.in-Ok.ensures.takes c.in-Ok.ensures.outcome)
