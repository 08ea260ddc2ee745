use Rattle.std.proofs.Common.{[]}
use Rattle.std.specs.Prelude.{option_map}
use Rattle.sby_words.specs.Folders.{task_folder}
use Rattle.sby_top.specs.Turns.{Refused}
use Rattle.sby_top.proofs.TurnLemmas.{no_ends}
use Rattle.sby_top.proofs.host.Host.run_fault.Goals as goal

pub returns-in-Err-clause-ran : goal.returns-in-Err-clause-ran
returns-in-Err-clause-ran g c = no_ends c.args.jobs (g.C.Clock.may_read c.args.self.now.clock.now) _ (Refused (task_folder c.args.stem.now (option_map (λ s. s.now) c.args.directory) []) c.args.early) [] c.out_of_memory.result c.out_of_memory.ensures.rc c.out_of_memory.ensures.ends
