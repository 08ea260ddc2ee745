use Rattle.std.proofs.Common.{IfOk, subst}
use Rattle.std.specs.Prelude.{IsTrue, ◌↔◌}
use Rattle.pair_form.specs.Pair.{clauses_over}
use Rattle.inv_fate.specs.Fate.{AreAdmitted}
use Rattle.inv_judge.specs.Claim.{ClaimOf}
use Rattle.inv_judge.proofs.claim.Claim.is_shown.Goals as goal

pub returns-clause-exact : goal.returns-clause-exact
returns-clause-exact c =
    subst (λ (a : ClaimOf). IfOk c.all_admitted.result (λ b. IsTrue b ↔ AreAdmitted c.args.checker.clauses (clauses_over a.pair c.args.frame a.invariant))) c.self.view_is c.all_admitted.ensures
