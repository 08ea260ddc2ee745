use Rattle.std.proofs.Common.{subst, sym}
use Rattle.inv_judge.specs.Claim.{ClaimOf}
use Rattle.inv_judge.specs.Judging.{Heard}
use Rattle.inv_judge.proofs.Leading.{heard}
use Rattle.inv_judge.proofs.judging.read.Goals as goal

pub returns-clause-heard : goal.returns-clause-heard
returns-clause-heard c =
    subst (λ (d : ClaimOf). Heard c.args.parser.now c.args.claim.now c.args.bytes.now c.feed.new.self d) (sym c.conclude.ensures)
    (heard c.args.parser.now c.feed.new.self c.args.claim.now c.feed.new.receiver c.args.bytes.now c.in_ok-fed.fed c.requires.open c.in_ok-fed.ensures.told c.in_ok-fed.ensures.kept c.in_ok-fed.ensures.answer)
