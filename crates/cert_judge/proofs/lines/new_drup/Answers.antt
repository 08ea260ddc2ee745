use Rattle.cert_judge.proofs.Starting.{drup_starts}
use Rattle.cert_judge.proofs.lines.new_drup.Goals as goal

pub returns : goal.returns
returns g c =
    let e = c.in_ok-certificate.ensures in
    drup_starts _ (g.S.ClauseSource.formula c.args.source) c.vars.result c.vars.ensures.vars c.new-parser.result c.in_ok-certificate.certificate c.new-parser.ensures e.formula e.checker e.size e.unnamed e.undecided
