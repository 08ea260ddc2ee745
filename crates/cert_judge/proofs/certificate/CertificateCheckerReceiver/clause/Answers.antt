use Rattle.std.proofs.Common.{[], ◌∷◌, Ok, ap, sym, subst, ◌∙◌}
use Rattle.cert_stream.specs.Telling.{IsClause}
use Rattle.drup_check.specs.Checking.{CheckerOf}
use Rattle.cert_judge.specs.Leading.{Leads}
use Rattle.cert_judge.specs.Reading.{drup_meaning}
use Rattle.cert_judge.proofs.DrupHearing.{heard_not_rup, heard_empty, heard_admitted, none_in, some_in}
use Rattle.cert_judge.proofs.certificate.CertificateCheckerReceiver.clause.Goals as goal
use Rattle.cert_judge.proofs.certificate.CertificateCheckerReceiver.clause.Goals.{in-NotRup, in-Admitted, in-Admitted+else-is_empty}

pub returns-clause-gets : goal.returns-clause-gets
returns-clause-gets g c = λ n. elim c.match-branch-2.branch [
  | in-NotRup w ↦ subst (Leads drup_meaning c.args.self.now (IsClause c.args.lits.now c.args.place ∷ [])) (sym (w.self-is ∙ w.refuse.ensures))
      (heard_not_rup _ _ _ _ _ c.self.view_is n c.add.new.self c.args.lits.now c.args.place (λ a. let k = c.in_ok-add.ensures.exact.1 a in let q = w.in-NotRup.is in cc))
  | in-Admitted w ↦ subst (Leads drup_meaning c.args.self.now (IsClause c.args.lits.now c.args.place ∷ [])) (sym (w.self-is ∙ w.settle.ensures))
      (heard_empty _ _ _ _ _ c.self.view_is n c.add.new.self c.args.lits.now c.args.place (c.in_ok-add.ensures.exact.0 w.in-Admitted.is) (none_in _ (sym w.is_empty.ensures ∙ w.if-is_empty.true)))
  | in-Admitted+else-is_empty w ↦ subst (Leads drup_meaning c.args.self.now (IsClause c.args.lits.now c.args.place ∷ [])) (sym w.self-is)
      (heard_admitted _ _ _ _ _ c.self.view_is n c.add.new.self c.args.lits.now c.args.place (c.in_ok-add.ensures.exact.0 w.in-Admitted.is) (some_in _ (sym w.is_empty.ensures ∙ w.if-is_empty.false))
      (ap (λ (k : CheckerOf). k.clauses) (c.in_ok-add.ensures.admitted (ap (λ z. Ok z) w.in-Admitted.is))))
]
