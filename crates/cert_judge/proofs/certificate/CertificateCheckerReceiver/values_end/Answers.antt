use Rattle.std.proofs.Common.{◌≡◌, [], ◌∷◌, sym, ◌∙◌, subst}
use Rattle.cert_stream.specs.Telling.{IsValuesEnd}
use Rattle.drup_check.specs.Checking.{CheckerOf}
use Rattle.cert_judge.specs.Certificate.{CertificateOf, with_outcome}
use Rattle.cert_judge.specs.Leading.{Leads}
use Rattle.cert_judge.specs.Reading.{drup_meaning}
use Rattle.cert_judge.specs.declared.stream.Outcome.TheVariants.{Satisfied, Bad}
use Rattle.cert_judge.specs.declared.stream.CertKind.TheVariants.{NotSatisfying}
use Rattle.cert_judge.proofs.DrupHearing.{heard_satisfied, heard_not_satisfying}
use Rattle.cert_judge.proofs.certificate.CertificateCheckerReceiver.values_end.Goals as goal
use Rattle.cert_judge.proofs.certificate.CertificateCheckerReceiver.values_end.Goals.{in-None, in-Some}

pub returns-clause-gets : goal.returns-clause-gets
returns-clause-gets g c = λ n. elim c.match-first_unsatisfied.branch [
  | in-None w ↦ subst (Leads drup_meaning c.args.self.now (IsValuesEnd ∷ []))
      (sym (subst (λ (x : CertificateOf CheckerOf). c.match-first_unsatisfied.self ≡ with_outcome x Satisfied) (sym c.self.view_is) (w.self-is ∙ w.settle.ensures)))
      (heard_satisfied _ _ _ _ _ c.self.view_is n w.in-None.ensures.none)
  | in-Some w ↦ subst (Leads drup_meaning c.args.self.now (IsValuesEnd ∷ []))
      (sym (subst (λ (x : CertificateOf CheckerOf). c.match-first_unsatisfied.self ≡ with_outcome x (Bad (record { kind = NotSatisfying; at = w.in-Some.clause }))) (sym c.self.view_is) (w.self-is ∙ w.refuse.ensures)))
      (heard_not_satisfying _ _ _ _ _ c.self.view_is n w.in-Some.clause w.in-Some.ensures.some)
]
