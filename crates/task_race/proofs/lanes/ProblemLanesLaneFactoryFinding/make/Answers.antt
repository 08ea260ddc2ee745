use Rattle.std.proofs.Common.{◌≡◌, ◌∙◌, ap, subst, sym}
use Rattle.std.specs.Prelude.{Option, Some, slice_get}
use Rattle.std.proofs.lemmas.Option.{slice_get-get_or}
use Rattle.sby_terms.specs.declared.engine.Engine.{Engine}
use Rattle.lane_run.specs.Judging.{Within}
use Rattle.task_race.specs.Fates.{Ends, Proves, Stands}
use Rattle.task_race.specs.Serving.{IsJudgeable, IsServing, evidence_at}
use Rattle.task_race.specs.declared.evidence.Evidence.{Evidence}
use Rattle.task_race.proofs.lanes.ProblemLanesLaneFactoryFinding.make.Goals as goal

pub watch-requires-clause-judgeable : goal.watch-requires-clause-judgeable
watch-requires-clause-judgeable c =
    let engines = c.args.self.now.engines.now in
    let lookup = c.in-Some.ensures.lookup in
    let at : slice_get engines c.args.lane ≡ Some c.in-Some.engine.now = slice_get-get_or engines c.args.lane c.in-Some.engine.now lookup.3.0 ∙ ap Some (sym lookup.1) in
    subst (λ (by : Evidence). IsJudgeable by c.args.job) (sym c.evidence_of-evidence.ensures) (subst (λ (o : Option Engine). IsServing o c.args.job) at c.requires.0)

pub returns-clause-judges : goal.returns-clause-judges
returns-clause-judges c =
    let engines = c.args.self.now.engines.now in
    let lookup = c.in-Some.ensures.lookup in
    let at : slice_get engines c.args.lane ≡ Some c.in-Some.engine.now = slice_get-get_or engines c.args.lane c.in-Some.engine.now lookup.3.0 ∙ ap Some (sym lookup.1) in
    let own = c.evidence_of-evidence.result in
    let same : own ≡ evidence_at (slice_get engines c.args.lane) = c.evidence_of-evidence.ensures ∙ sym (ap evidence_at at) in
    let p = c.args.self.now.problem.now in
    let job = c.args.job in
    subst (λ (by : Evidence). Within (Stands p job own) (Stands p job by) × Within (Ends p job own) (Ends p job by) × Within (Proves p job own) (Proves p job by)) same
    ((λ bytes said h. h), (λ bytes said h. h), (λ bytes said h. h))
