use Rattle.std.proofs.Common.{◌≡◌, ◌∙◌, ℕ, List, Some, ap, subst}
use Rattle.std.specs.Prelude.{IfOk}
use Rattle.witness_judge.specs.Judging.{Ends, JudgeOf, Took, is_reading}
use Rattle.witness_judge.proofs.Feeding.{end_chosen, end_settled}
use Rattle.witness_judge.proofs.judging.WitnessJudge.end.Goals as goal

pub settle-requires : goal.settle-requires
settle-requires c =
    let i = c.self.inside in
    let j : JudgeOf = record { asked = i.asked; most = i.most; taken = i.taken; reader = i.reader } in
    let took = c.self.invariant.took (ap is_reading c.self.view_is ∙ c.requires) in
    let is : j.reader ≡ Some c.in-Some.reader = cc (c.take.ensures.value, c.in-Some.is) in
    end_chosen j took.0 took.1 c.in-Some.reader is c.end-seen.result c.end-seen.ensures.exact c.end-seen.ensures.found

pub returns-clause-ends : goal.returns-clause-ends
returns-clause-ends c =
    let i = c.self.inside in
    let j : JudgeOf = record { asked = i.asked; most = i.most; taken = i.taken; reader = i.reader } in
    let is : j.reader ≡ Some c.in-Some.reader = cc (c.take.ensures.value, c.in-Some.is) in
    subst (λ (z : JudgeOf). (bytes : List ℕ) → Took z bytes → IfOk c.settle.result (Ends z bytes)) c.self.view_is
    (λ bytes t. end_settled j bytes t c.in-Some.reader is c.end-seen.result c.end-seen.ensures.exact c.end-seen.ensures.found c.settle.result c.settle.ensures)
