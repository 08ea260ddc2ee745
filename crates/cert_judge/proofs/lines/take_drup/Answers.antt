use Rattle.std.proofs.Common.{ap, refl, subst, ◌∙◌}
use Rattle.cert_stream.specs.Machine.{DrupOf}
use Rattle.drup_check.specs.Checking.{CheckerOf}
use Rattle.cert_judge.specs.Certificate.{LineOf}
use Rattle.cert_judge.specs.Leading.{Heard}
use Rattle.cert_judge.specs.Reading.{drup_meaning, drup_parsing}
use Rattle.cert_judge.proofs.Leading.{heard_piece}
use Rattle.cert_judge.proofs.lines.take_drup.Goals as goal

pub returns-clause-heard : goal.returns-clause-heard
returns-clause-heard g c =
    subst (λ (l : LineOf DrupOf CheckerOf). Heard drup_parsing drup_meaning l.parser l.certificate c.args.piece.now c.feed.new.self c.conclude.new.self) c.line.view_is
    (heard_piece drup_meaning refl (λ f c x w rest fate h. h) drup_parsing c.line.inside.parser c.feed.new.self c.line.inside.certificate c.feed.new.receiver c.conclude.new.self c.args.piece.now c.in_ok-fed.fed
    (ap (λ (l : LineOf DrupOf CheckerOf). l.certificate.outcome) c.line.view_is ∙ c.requires.open) c.in_ok-fed.ensures.told c.in_ok-fed.ensures.kept c.in_ok-fed.ensures.answer c.conclude.ensures)
