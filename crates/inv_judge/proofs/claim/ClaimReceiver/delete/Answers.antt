use Rattle.std.proofs.Common.{[], ◌∷◌, ap, subst, sym, ◌∙◌}
use Rattle.cert_stream.specs.Telling.{IsDelete}
use Rattle.cnf_form.specs.Cnf.{ClauseWithin}
use Rattle.inv_stream.specs.Machine.{Says}
use Rattle.inv_judge.specs.Claim.{ClaimOf, Leads}
use Rattle.inv_judge.proofs.Staging.{claim, heard_delete}
use Rattle.inv_judge.proofs.claim.ClaimReceiver.delete.Goals as goal

pub delete-requires : goal.delete-requires
delete-requires c = (c.self.inside.pair.formula.vars, c.self.invariant.1, subst (λ (a : ClaimOf). ClauseWithin a.pair.formula.vars c.args.lits.now) (sym c.self.view_is) c.requires)

pub invariant_of-self : goal.invariant_of-self
invariant_of-self c = (c.self.invariant.0, c.delete.ensures.stage c.self.inside.pair.formula.vars c.self.invariant.1)

pub returns-clause-gets : goal.returns-clause-gets
returns-clause-gets c = λ n.
    subst (λ (a : ClaimOf). Leads a (Says (IsDelete c.args.lits.now) ∷ []) (claim c.self.inside.pair c.self.inside.invariant.clauses c.self.inside.outcome c.delete.new.self)) c.self.view_is
    (heard_delete c.self.inside.pair c.self.inside.invariant.clauses c.self.inside.outcome c.self.inside.stage c.delete.new.self (ap (λ (a : ClaimOf). a.outcome) c.self.view_is ∙ n) c.delete.ensures.part
    c.args.lits.now c.delete.ensures.deletes)
