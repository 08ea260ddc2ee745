use Rattle.std.proofs.Common.{ℕ, List, ◌++◌, ◌-◌, ◌∙◌, ap, sym, subst}
use Rattle.cert_judge.specs.Judging.{Feeds, JudgeOf, HasTaken, outcome_of}
use Rattle.cert_judge.proofs.Pieces.{feeds_again, feeds_piece, judge}
use Rattle.cert_judge.proofs.judging.Judge.feed.Goals as goal

pub returns-in-Some-clause-feeds : goal.returns-in-Some-clause-feeds
returns-in-Some-clause-feeds g c = λ bytes s. feeds_again c.args.self.now c.in-Some.outcome (ap outcome_of (sym c.self.view_is) ∙ sym c.outcome.ensures ∙ c.in-Some.is) bytes s c.args.piece.now

pub returns-clause-feeds : goal.returns-clause-feeds
returns-clause-feeds g c =
    subst (λ (j : JudgeOf _). (bytes : List ℕ) → HasTaken j bytes → Feeds j (judge c.take_piece.new.lines c.self.inside.most c.self.inside.wanting) (bytes ++ c.args.piece.now) c.outcome-2.result) c.self.view_is
    (λ bytes s. subst (λ o. Feeds (judge c.self.inside.lines c.self.inside.most c.self.inside.wanting) (judge c.take_piece.new.lines c.self.inside.most c.self.inside.wanting) (bytes ++ c.args.piece.now) o) (sym c.outcome-2.ensures)
    (feeds_piece c.self.inside.most c.self.inside.lines c.self.inside.wanting (sym c.outcome.ensures ∙ c.in_default.is) bytes s c.take_piece.new.lines c.args.piece.now _ (c.self.invariant.2 c.if-self.false (sym c.outcome.ensures ∙ c.in_default.is)) (ap (λ n. c.self.inside.most - n) c.taken.ensures) c.in-Ok.ensures.takes))
