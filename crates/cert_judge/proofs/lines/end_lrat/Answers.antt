use Rattle.std.proofs.Common.{ap, refl, subst, ◌∙◌}
use Rattle.cert_stream.specs.LratMachine.{LratOf}
use Rattle.lrat_check.specs.Checking.{HintedOf}
use Rattle.cert_judge.specs.Certificate.{LineOf}
use Rattle.cert_judge.specs.Leading.{Leads, lrat_ending}
use Rattle.cert_judge.specs.Reading.{lrat_meaning}
use Rattle.cert_judge.proofs.Leading.{heard_end}
use Rattle.cert_judge.proofs.lines.end_lrat.Goals as goal

pub returns-clause-leads : goal.returns-clause-leads
returns-clause-leads g c =
    subst (λ (l : LineOf LratOf HintedOf). Leads lrat_meaning l.certificate (lrat_ending l.parser) c.conclude.new.self) c.line.view_is
    (heard_end lrat_meaning refl (λ f c x w rest fate h. h) c.line.inside.certificate c.end.new.receiver c.conclude.new.self _ _ c.in_ok-fed.fed
    (ap (λ (l : LineOf LratOf HintedOf). l.certificate.outcome) c.line.view_is ∙ c.requires.open) c.in_ok-fed.ensures.told c.in_ok-fed.ensures.answer c.conclude.ensures)
