use Rattle.std.proofs.Common.{List, ap, arith, refl, subst, sym, ℕ, ◌++◌, ◌+◌, ◌-◌, ◌≤◌, ◌∙◌}
use Rattle.inv_stream.specs.Machine.{taken}
use Rattle.inv_judge.specs.Judging.{Feeds, JudgeOf, HasTaken, outcome_of}
use Rattle.inv_judge.proofs.Pieces.{counted, feeds_again, feeds_piece, judge}
use Rattle.inv_judge.proofs.judging.InvJudge.feed.Goals as goal

pub returns-in-Some-clause-feeds : goal.returns-in-Some-clause-feeds
returns-in-Some-clause-feeds c = λ bytes s. feeds_again c.args.self.now c.in-Some.outcome (ap outcome_of (sym c.self.view_is) ∙ sym c.outcome.ensures ∙ c.in-Some.is) bytes c.args.piece.now s

pub invariant_of-self-2 : goal.invariant_of-self-2
invariant_of-self-2 c = (
  c.self.invariant.0,
  (λ live n.
      let j = c.self.inside in
      let i = c.self.invariant.1 c.if-self.false (sym c.outcome.ensures ∙ c.in_default.is) in
      let room = i.2 in
      let space : j.count + (j.most - j.count) ≤ j.most = omega arith in
      let k = counted j.parser c.take_piece.new.parser j.claim c.take_piece.new.claim j.count j.most (j.most - j.count) c.args.piece.now c.in-Ok.ensures.takes i.1 space n in (
        c.in-Ok.ensures.vars,
        subst (λ (x : ℕ). taken c.take_piece.new.parser ≤ j.count + x) (sym c.min.ensures) k.0,
        subst (λ (x : ℕ). j.count + x ≤ j.most) (sym c.min.ensures) k.1,
      )),
)

pub returns-clause-feeds : goal.returns-clause-feeds
returns-clause-feeds c =
    let j = c.self.inside in
    let v = c.take_piece.new.parser in
    let d = c.take_piece.new.claim in
    subst (λ (old : JudgeOf). (bytes : List ℕ) → HasTaken old bytes → Feeds old (judge v d (j.count + c.min.result) j.most j.wanting) (bytes ++ c.args.piece.now) c.outcome-2.result) c.self.view_is
    (λ bytes s. subst (λ o. Feeds (judge j.parser j.claim j.count j.most j.wanting) (judge v d (j.count + c.min.result) j.most j.wanting) (bytes ++ c.args.piece.now) o) (sym c.outcome-2.ensures)
    (subst (λ (x : ℕ). Feeds (judge j.parser j.claim j.count j.most j.wanting) (judge v d (j.count + x) j.most j.wanting) (bytes ++ c.args.piece.now) d.outcome) (sym c.min.ensures)
    (feeds_piece j.parser v j.claim d j.count j.most (j.most - j.count) j.wanting bytes c.args.piece.now s (sym c.outcome.ensures ∙ c.in_default.is) refl c.in-Ok.ensures.takes)))
