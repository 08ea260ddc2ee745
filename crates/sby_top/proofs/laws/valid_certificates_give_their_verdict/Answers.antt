use Rattle.sby_top.proofs.CertificateLemmas.{certificates_give}
use Rattle.sby_top.proofs.laws.valid_certificates_give_their_verdict.Goals as goal

pub returns : goal.returns
returns g c = λ before after moments words done j end now fates verdict is judged apart are whole decides.
    certificates_give c.one_fate.ensures c.one_file.ensures.file (g.C.Clock.may_read c.args.clock.now) is.place moments j end is.exit now fates verdict is.ran judged apart are whole decides
