use Rattle.std.proofs.Common.{◌∙◌}
use Rattle.std.specs.Prelude.{option_map, string_bytes}
use Rattle.sby_top.proofs.TopLemmas.{gen_done, gen_none}
use Rattle.sby_top.proofs.host.Host.run_gen.Goals as goal

pub returns-in-Ok-clause-done : goal.returns-in-Ok-clause-done
returns-in-Ok-clause-done g c = gen_done (g.C.Clock.may_read c.args.self.now.clock.now) _ _ c.run_text.result c.args.words.now c.words.inside.size c.as_str.result.now c.deref.result.now (option_map string_bytes c.words.inside.directory) c.words.view_is
    (c.as_str.ensures.value ∙ c.in-Ok.ensures.0) (c.deref.ensures.value ∙ c.in-Ok.ensures.1) (rw (← c.text_in-directory.ensures) c.run_text.ensures.ran)

pub returns-in-Err-clause-done : goal.returns-in-Err-clause-done
returns-in-Err-clause-done g c = gen_none (g.C.Clock.may_read c.args.self.now.clock.now) _ c.out_of_memory.result c.args.words.now c.out_of_memory.ensures.rc c.out_of_memory.ensures.ends
