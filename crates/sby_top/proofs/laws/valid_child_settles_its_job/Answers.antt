use Rattle.sby_top.proofs.SettleLemmas.{child_settles}
use Rattle.sby_top.proofs.laws.valid_child_settles_its_job.Goals as goal

pub returns : goal.returns
returns g c = λ before after moments words done task end engines lane place script now file answer is judged service lt serving script_is no_gate own_file valid.
    child_settles (g.C.Clock.may_read c.args.clock.now) is.place moments task end engines lane place script now file answer judged service lt serving script_is no_gate own_file valid
