use Rattle.cert_judge.specs.declared.stream.Kind.TheVariants.{Certificate}
use Rattle.sby_top.specs.Served.{most_stream}
use Rattle.sby_top.proofs.LawLemmas.{certificate_gives}
use Rattle.sby_top.proofs.laws.stored_certificate_gives_its_verdict.Goals as goal

pub returns : goal.returns
returns g c = λ before after moments words done j end now path stream file kind answer is judged bmc apart streams named has stands holds.
    certificate_gives c.one_fate.ensures c.one_file.ensures.file (g.C.Clock.may_read c.args.clock.now) is.place moments j end is.exit now path (Certificate kind) stream file answer is.ran judged bmc apart streams named has stands
    (tt, c.certificates_are_found.ensures.found kind file stream most_stream answer holds)
