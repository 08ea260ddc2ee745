use Rattle.std.proofs.Common.{refl}
use Rattle.judge.proofs.Truth.{runs-apart, shown_claim, step_claim}
use Rattle.judge.proofs.finding.shown.Goals as goal

pub returns-in-Step-clause-claim : goal.returns-in-Step-clause-claim
returns-in-Step-clause-claim c = let w = c.requires in step_claim c.args.problem.now c.args.job w.0 _ c.in-Step.is c.flat-flat.ensures.problem w.1 w.2

pub returns-in_ok-run-in-Base : goal.returns-in_ok-run-in-Base
returns-in_ok-run-in-Base c =
    let w = c.in_ok-run-in-Base.ensures in
    record {
      claim = shown_claim c.args.problem.now c.flat-flat.ensures.problem w.0 _ c.in_ok-run-in-Base.run' w.2 c.args.job (runs-apart c.args.job c.in-Base.is) w.1;
      played = λ _. (w.0, c.in_ok-run-in-Base.run', refl, w.1, w.2);
    }

pub unreachable-requires : goal.unreachable-requires
unreachable-requires c = c.requires.1.0.1 c.in-Inv.is
