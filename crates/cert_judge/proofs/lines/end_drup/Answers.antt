use Rattle.std.proofs.Common.{ap, refl, subst, ◌∙◌}
use Rattle.cert_stream.specs.Machine.{DrupOf}
use Rattle.drup_check.specs.Checking.{CheckerOf}
use Rattle.cert_judge.specs.Certificate.{LineOf}
use Rattle.cert_judge.specs.Leading.{Leads, drup_ending}
use Rattle.cert_judge.specs.Reading.{drup_meaning}
use Rattle.cert_judge.proofs.Leading.{heard_end}
use Rattle.cert_judge.proofs.lines.end_drup.Goals as goal

pub returns-clause-leads : goal.returns-clause-leads
returns-clause-leads g c =
    subst (λ (l : LineOf DrupOf CheckerOf). Leads drup_meaning l.certificate (drup_ending l.parser) c.conclude.new.self) c.line.view_is
    (heard_end drup_meaning refl (λ f c x w rest fate h. h) c.line.inside.certificate c.end.new.receiver c.conclude.new.self _ _ c.in_ok-fed.fed
    (ap (λ (l : LineOf DrupOf CheckerOf). l.certificate.outcome) c.line.view_is ∙ c.requires.open) c.in_ok-fed.ensures.told c.in_ok-fed.ensures.answer c.conclude.ensures)
