use Rattle.std.proofs.Common.{◌≡◌, None, [], ap, refl, sym, ◌∙◌}
use Rattle.drup_check.specs.Checking.{CheckerOf}
use Rattle.cert_judge.specs.Certificate.{CertificateOf}
use Rattle.cert_judge.specs.declared.stream.CertKind.TheVariants.{NotRup}
use Rattle.cert_judge.specs.declared.stream.Outcome.TheVariants.{Refuted, Bad}
use Rattle.cert_judge.proofs.DrupHearing.{heard_not_rup, heard_empty, tries_open}
use Rattle.cert_judge.proofs.Leading.{certificate, no_outcome}
use Rattle.cert_judge.proofs.certificate.Certificate+Checker+S.try_empty.Goals as goal

pub returns-in-NotRup-clause-tries : goal.returns-in-NotRup-clause-tries
returns-in-NotRup-clause-tries g c =
    let n : c.args.self.now.outcome ≡ None = ap (λ (z : CertificateOf CheckerOf). z.outcome) (sym c.self.view_is) ∙ no_outcome _ (sym c.is_some.ensures ∙ c.if-is_some.false) in
    tries_open c.args.self.now c.refuse.new.self c.args.place n (Bad (record { kind = NotRup; at = c.args.place })) (certificate (g.S.ClauseSource.formula c.self.inside.source) c.add.new.self c.self.inside.values c.self.inside.outcome) c.refuse.ensures
    (heard_not_rup _ _ _ _ _ c.self.view_is n c.add.new.self [] c.args.place (λ a. let k = c.in_ok-add.ensures.exact.1 a in let q = c.in-NotRup.is in cc))

pub returns-in-Admitted-clause-tries : goal.returns-in-Admitted-clause-tries
returns-in-Admitted-clause-tries g c =
    let n : c.args.self.now.outcome ≡ None = ap (λ (z : CertificateOf CheckerOf). z.outcome) (sym c.self.view_is) ∙ no_outcome _ (sym c.is_some.ensures ∙ c.if-is_some.false) in
    tries_open c.args.self.now c.settle.new.self c.args.place n Refuted (certificate (g.S.ClauseSource.formula c.self.inside.source) c.add.new.self c.self.inside.values c.self.inside.outcome) c.settle.ensures
    (heard_empty _ _ _ _ _ c.self.view_is n c.add.new.self [] c.args.place (c.in_ok-add.ensures.exact.0 c.in-Admitted.is) refl)
