use Rattle.std.proofs.Common.{subst, sym}
use Rattle.cnf_form.specs.Cnf.{Deletes}
use Rattle.inv_judge.specs.Claim.{present_of}
use Rattle.inv_judge.specs.declared.stage.Stage.{Stage}
use Rattle.inv_judge.proofs.stage.Stage.delete.Goals as goal

pub returns-in-Proves-clause-deletes : goal.returns-in-Proves-clause-deletes
returns-in-Proves-clause-deletes c = subst (λ (s : Stage). Deletes (present_of s) c.args.lits.now c.delete.new.self.clauses) (sym c.in-Proves.is) c.delete.ensures.deleted
