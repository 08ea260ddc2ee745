use Rattle.std.proofs.Common.{[], ◌∷◌, arith}
use Rattle.std.specs.Prelude.{None, option_map}
use Rattle.sby_top.proofs.TurnLemmas.{none_asked}
use Rattle.sby_top.proofs.host.Host.run_nameless.Goals as goal

pub returns-in-Err-clause-ran : goal.returns-in-Err-clause-ran
returns-in-Err-clause-ran g c = none_asked c.args.jobs (g.C.Clock.may_read c.args.self.now.clock.now) _ c.args.book.now.stem.now (option_map (λ s. s.now) c.args.book.now.directory) c.args.book.now.config.now (None ∷ []) c.out_of_memory.result (omega arith) c.out_of_memory.ensures.rc c.out_of_memory.ensures.ends
