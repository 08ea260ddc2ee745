use Rattle.sby_top.specs.Run.{name_lines}
use Rattle.sby_top.proofs.TopLemmas.{lines_alone}
use Rattle.sby_top.proofs.top.tell_names.Goals as goal

pub returns : goal.returns
returns g c = λ told faults blamed yard. lines_alone told faults blamed _ _ _ _ _ _ yard (name_lines c.args.config.now.tasks) _ c.offer_names-told.result c.told_code.ensures c.new.ensures.items (rw (← c.tasks.ensures) c.offer_names-told.ensures)
