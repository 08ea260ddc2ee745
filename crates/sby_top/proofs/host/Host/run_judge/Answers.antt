use Rattle.std.proofs.Common.{[], ◌∷◌, ap, refl}
use Rattle.std.specs.Prelude.{None}
use Rattle.sby_words.specs.Requests.{AskJudge}
use Rattle.sby_top.specs.Task.{task_seen}
use Rattle.sby_top.specs.Turns.{Run, judge_task}
use Rattle.sby_top.proofs.TopLemmas.{turns_done}
use Rattle.sby_top.proofs.TurnLemmas.{no_ends}
use Rattle.sby_top.proofs.host.Host.run_judge.Goals as goal

pub returns-in-Ok-clause-done : goal.returns-in-Ok-clause-done
returns-in-Ok-clause-done g c = turns_done (g.C.Clock.may_read c.args.self.now.clock.now) _ _ _ c.run_only.result (AskJudge c.args.words) (Run (task_seen c.in-Ok.task) ∷ []) refl (refl, ap (λ t. Run t ∷ []) c.in-Ok.ensures) c.run_only.ensures.ran

pub returns-in-Err-clause-done : goal.returns-in-Err-clause-done
returns-in-Err-clause-done g c = turns_done (g.C.Clock.may_read c.args.self.now.clock.now) _ _ _ c.out_of_memory.result (AskJudge c.args.words) (Run (judge_task c.args.words) ∷ []) refl (refl, refl) (no_ends None (g.C.Clock.may_read c.args.self.now.clock.now) _ (Run (judge_task c.args.words)) [] c.out_of_memory.result c.out_of_memory.ensures.rc c.out_of_memory.ensures.ends)
