use Rattle.std.proofs.Common.{[], ◌∙◌}
use Rattle.pdr_run.proofs.Certificates.{judged_stream}
use Rattle.pdr_run.proofs.deciding.is_certificate.Goals as goal
use Rattle.pdr_run.proofs.deciding.is_certificate.Goals.{in-Found, in_default}

pub returns : goal.returns
returns c = λ t.
    let fresh = c.new-judge.ensures in
    let fed = c.in_ok-feed.ensures in
    let ended = c.in_ok-outcome.ensures in
    let stream = c.args.stream.now in
    elim c.match-matches.branch [
      | in-Found w ↦ judged_stream c.args.pair.now stream c.end.new.self c.in_ok-outcome.outcome (ended.same.pair ∙ fed.same.pair ∙ fresh.pair ∙ c.in_ok-copy.ensures) (ended.same.most ∙ fed.same.most ∙ fresh.most)
          (ended.ends stream (fed.feeds [] fresh.stands).stands) w.in-Found.is
      | in_default w ↦ absurd (let e = w.matches-is in cc)
    ]
