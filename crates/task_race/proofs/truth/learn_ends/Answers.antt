use Rattle.std.proofs.Common.{arith}
use Rattle.judge.specs.Finding.{FindingOf, IsTrueFinding}
use Rattle.race_core.specs.Carrying.{Carries}
use Rattle.race_core.specs.declared.end.JobEnd.{JobEnd}
use Rattle.task_race.proofs.LearnLemmas.{learned_all, learned_more}
use Rattle.task_race.proofs.truth.learn_ends.Goals as goal

pub loop-end-preserved : goal.loop-end-preserved
loop-end-preserved c =
    learned_more (λ (e : JobEnd FindingOf). (f : FindingOf) → Carries e f → IsTrueFinding f) c.args.ends.now c.loop-end.end-index c.end-item.result c.end-item.is c.loop-end.invariant c.learn_end.ensures

pub returns : goal.returns
returns c = λ f carried.
    learned_all (λ (e : JobEnd FindingOf). (f : FindingOf) → Carries e f → IsTrueFinding f) c.args.ends.now c.loop-end.end-index (omega arith) c.loop-end.invariant carried.0 carried.1 f carried.2
