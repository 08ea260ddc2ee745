use Rattle.sby_top.proofs.PlainLawLemmas.{plain_once}
use Rattle.sby_top.proofs.laws.one_plain_status.Goals as goal

pub returns : goal.returns
returns g c = λ before after moments words done task end engines now is judged some ungated s t is_one too. plain_once (g.C.Clock.may_read c.args.clock.now) is.place moments task end engines now judged c.one_fate.ensures some ungated s t is_one too
