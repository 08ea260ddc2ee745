use Rattle.std.proofs.Common.{◌≡◌, Bool, true, false, map, refl, subst}
use Rattle.std.specs.Prelude.{MatchBool, IfOk, ◌↔◌, IsTrue}
use Rattle.lrat_check.specs.Table.{held}
use Rattle.cnf_form.specs.Cnf.{negate}
use Rattle.lrat_check.specs.Hints.{Live, contradiction, Refutes}
use Rattle.lrat_check.proofs.propagation.leads_to_conflict.Goals as goal

pub consistent_from : (b : Bool) (P Q : Type 0) → b ≡ true → MatchBool b P Q → P
consistent_from true P Q e h = h
consistent_from false P Q e h = cc

contrary_from : (b : Bool) (P Q : Type 0) → b ≡ false → MatchBool b P Q → Q
contrary_from true P Q e h = cc
contrary_from false P Q e h = h

pub returns-then-not-consistent-clause-exact : goal.returns-then-not-consistent-clause-exact
returns-then-not-consistent-clause-exact c =
    (λ _. contradiction (map negate c.args.clause.now) c.args.hints.now (contrary_from c.in_ok-consistent.consistent _ _ (cc) c.in_ok-consistent.ensures.cases), λ _. refl)

pub returns-clause-exact : goal.returns-clause-exact
returns-clause-exact c =
    let live : Live = held c.args.clauses.now in
    let w = consistent_from c.in_ok-consistent.consistent _ _ (cc) c.in_ok-consistent.ensures.cases in
    subst (λ L. IfOk c.follow.result (λ b. IsTrue b ↔ Refutes live L c.args.hints.now)) w.0 c.follow.ensures.exact
