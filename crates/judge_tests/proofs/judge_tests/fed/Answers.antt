use Rattle.std.proofs.Common.{◌≡◌, ◌++◌, List, ℕ, Result, subst}
use Rattle.std.specs.Prelude.{IfOk}
use Rattle.judge.specs.Judging.{Feeds}
use Rattle.judge_tests.proofs.judge_tests.fed.Goals as goal

pub returns : goal.returns
returns c = λ none.
    let bytes = c.requires.0 ++ c.args.piece.now in
    let fed = subst (λ r. IfOk r (λ p. Feeds c.args.judge.now c.feed.new.self bytes p)) (c.told.ensures none) (c.feed.ensures.feeds c.requires.0 c.requires.1) in
    (bytes, fed.stands fed.state)
