use Rattle.sby_top.proofs.PlainLawLemmas.{plain_exists}
use Rattle.sby_top.proofs.laws.some_plain_status.Goals as goal

pub returns : goal.returns
returns g c = λ before after moments words done task end engines now is judged some none. plain_exists (g.C.Clock.may_read c.args.clock.now) is.place moments task end engines now judged c.some_fate.ensures c.one_file.ensures.file some none
