use Rattle.sby_top.proofs.LawLemmas.{certificate_gives}
use Rattle.sby_top.proofs.laws.valid_certificate_gives_its_verdict.Goals as goal

pub returns : goal.returns
returns g c = λ before after moments words done j end now path stream file kind answer is judged bmc apart streams named has stands valid.
    certificate_gives c.one_fate.ensures c.one_file.ensures.file (g.C.Clock.may_read c.args.clock.now) is.place moments j end is.exit now path kind stream file answer is.ran judged bmc apart streams named has stands valid
