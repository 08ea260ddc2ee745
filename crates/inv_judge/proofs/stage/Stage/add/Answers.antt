use Rattle.std.proofs.Common.{Ok, Some, ap, subst, sym}
use Rattle.drup_check.specs.Checking.{CheckerOf}
use Rattle.inv_judge.specs.Claim.{Adds, part_of, present_of}
use Rattle.inv_judge.specs.declared.stage.Stage.{Stage}
use Rattle.inv_judge.proofs.Staging.{adds_by}
use Rattle.inv_judge.proofs.stage.Stage.add.Goals as goal

pub returns-in_ok-added-in-Proves-clause-adds : goal.returns-in_ok-added-in-Proves-clause-adds
returns-in_ok-added-in-Proves-clause-adds c =
    subst (λ (s : Stage). Adds (part_of s) (present_of s) c.args.lits.now c.add.new.self.clauses (Some c.in_ok-added-in-Proves.added)) (sym c.in-Proves.is)
    (adds_by c.in-Proves.field-0 c.in-Proves.checker.clauses c.add.new.self.clauses c.args.lits.now c.in_ok-added-in-Proves.added c.in_ok-added-in-Proves.ensures.exact
    (λ e. ap (λ (k : CheckerOf). k.clauses) (c.in_ok-added-in-Proves.ensures.admitted (ap (λ z. Ok z) e)))
    (λ e. ap (λ (k : CheckerOf). k.clauses) (c.in_ok-added-in-Proves.ensures.not_rup (ap (λ z. Ok z) e))))
