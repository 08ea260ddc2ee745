use Rattle.std.proofs.Common.{subst, sym, ◌++◌}
use Rattle.inv_stream.specs.Machine.{fault}
use Rattle.inv_stream.specs.Telling.{at_end_says, fault_said}
use Rattle.inv_judge.specs.Claim.{ClaimOf, Leads}
use Rattle.inv_judge.proofs.Leading.{ended}
use Rattle.inv_judge.proofs.judging.take_end.Goals as goal

pub returns-clause-takes : goal.returns-clause-takes
returns-clause-takes c = (
  c.conclude.new.self,
  subst (λ (d : ClaimOf). Leads c.args.claim.now (at_end_says c.args.parser.now ++ fault_said (fault c.args.parser.now)) d) (sym c.conclude.ensures)
      (ended c.args.parser.now c.args.claim.now c.end.new.receiver c.in_ok-fed.fed c.requires.open c.in_ok-fed.ensures.told c.in_ok-fed.ensures.answer),
  c.outcome_or.ensures.new,
)
