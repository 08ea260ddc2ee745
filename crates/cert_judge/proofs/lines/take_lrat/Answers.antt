use Rattle.std.proofs.Common.{ap, refl, subst, ◌∙◌}
use Rattle.cert_stream.specs.LratMachine.{LratOf}
use Rattle.lrat_check.specs.Checking.{HintedOf}
use Rattle.cert_judge.specs.Certificate.{LineOf}
use Rattle.cert_judge.specs.Leading.{Heard}
use Rattle.cert_judge.specs.Reading.{lrat_meaning, lrat_parsing}
use Rattle.cert_judge.proofs.Leading.{heard_piece}
use Rattle.cert_judge.proofs.lines.take_lrat.Goals as goal

pub returns-clause-heard : goal.returns-clause-heard
returns-clause-heard g c =
    subst (λ (l : LineOf LratOf HintedOf). Heard lrat_parsing lrat_meaning l.parser l.certificate c.args.piece.now c.feed.new.self c.conclude.new.self) c.line.view_is
    (heard_piece lrat_meaning refl (λ f c x w rest fate h. h) lrat_parsing c.line.inside.parser c.feed.new.self c.line.inside.certificate c.feed.new.receiver c.conclude.new.self c.args.piece.now c.in_ok-fed.fed
    (ap (λ (l : LineOf LratOf HintedOf). l.certificate.outcome) c.line.view_is ∙ c.requires.open) c.in_ok-fed.ensures.told c.in_ok-fed.ensures.kept c.in_ok-fed.ensures.answer c.conclude.ensures)
