use Rattle.std.proofs.Common.{subst}
use Rattle.design_core.specs.Shape.{DesignOf}
use Rattle.design_reader.specs.Grammar.{Reads}
use Rattle.judge.specs.Finding.{Claim, FindingOf}
use Rattle.judge.specs.Jobs.{span_of}
use Rattle.judge.proofs.finding.Finding.answer.Goals as goal

pub returns-clause-claim : goal.returns-clause-claim
returns-clause-claim c =
    subst (λ (f : FindingOf). (d : DesignOf) → Reads f.problem.text d → Claim d (span_of f.problem) f.job c.self.inside.answer f.run) c.self.view_is c.self.invariant.claims
