use Rattle.std.proofs.Common.{◌∙◌, subst, sym}
use Rattle.race_core.specs.Asking.{terms_of}
use Rattle.race_core.specs.Ends.{EndIs}
use Rattle.race_core.specs.Parts.{RightReader, keeper_from}
use Rattle.race_core.specs.declared.part.Keeper.{Keeper}
use Rattle.race_core.specs.declared.part.Keeper.TheVariants as keeper
use Rattle.lane_run.specs.Keeping.{IsOfCell}
use Rattle.race_core.specs.declared.part.Reader.{Reader}
use Rattle.lane_run.specs.Reading.{IsOver, Settles}
use Rattle.lane_run.specs.Sides.{kept_by}
use Rattle.lane_run.proofs.Endings.{ends_kept, over_right, right_kept, settled_over}
use Rattle.lane_run.proofs.Keepers.{keeps_remember, keeps_then}
use Rattle.lane_run.proofs.job.conclude.Goals as goal

pub job_end-requires-clause-over : goal.job_end-requires-clause-over
job_end-requires-clause-over g c =
    let asked = c.ask_proof-part.ensures in
    subst (λ (k : Keeper g.row.T.Denot). IsOver c.settle-part.result k) (sym c.kept.ensures)
    (settled_over c.ask_proof-part.result.part c.settle-part.result (kept_by c.ask_proof-part.result.why) asked.over c.settle-part.ensures.settles)

pub returns-clause-end : goal.returns-clause-end
returns-clause-end g c =
    let a = terms_of g.T.Settled.job g.T.Settled.answer c.args.watch.now.terms.now in
    let asked = c.ask_proof-part.ensures in
    let why = c.ask_proof-part.result.why in
    let k = keeper_from a keeper.Fresh c.ask_proof-part.new.keeper_events.events in
    ends_kept a why _ k c.job_end.result asked.kept
    (subst (λ r. EndIs a (λ _. ⊥) r (kept_by why) c.job_end.result) c.settle-part.ensures.part
    (subst (λ (kept : Keeper g.row.T.Denot). EndIs a (λ _. ⊥) c.settle-part.result kept c.job_end.result) c.kept.ensures (c.job_end.ensures.end a)))

pub returns-clause-right : goal.returns-clause-right
returns-clause-right g c =
    let a = terms_of g.T.Settled.job g.T.Settled.answer c.args.watch.now.terms.now in
    let asked = c.ask_proof-part.ensures in (
      subst (λ (r : Reader g.row.T.Denot). RightReader r) c.settle-part.ensures.part
          (over_right c.settle-part.result (kept_by c.ask_proof-part.result.why)
          (settled_over c.ask_proof-part.result.part c.settle-part.result (kept_by c.ask_proof-part.result.why) asked.over c.settle-part.ensures.settles)),
      right_kept c.ask_proof-part.result.why (keeper_from a keeper.Fresh c.ask_proof-part.new.keeper_events.events) asked.kept,
    )

pub returns-clause-keeps : goal.returns-clause-keeps
returns-clause-keeps g c =
    let of_cell = IsOfCell g.T.Settled.problem g.T.Settled.job (g.J.ForJob.problem c.args.watch.now.problem.now) c.args.watch.now.terms.now c.args.watch.now.other in
    let may = g.C.Clock.may_read c.args.watch.now.clock.now in
    let asked = c.ask_proof-part in
    keeps_then of_cell may c.args.notes.now asked.new.notes c.settle-part.new.notes c.args.keeper_events.now.events asked.new.keeper_events.events asked.new.keeper_events.events asked.ensures.keeps
    (keeps_remember of_cell may asked.new.notes c.settle-part.new.notes asked.new.keeper_events.events c.settle-part.ensures.remember)

pub returns-clause-finishes : goal.returns-clause-finishes
returns-clause-finishes g c =
    let asks = c.ask_proof-part.ensures.asks in
    (c.ask_proof-part.result.why, (c.ask_proof-part.result.part, (asks.0, c.settle-part.ensures.filed ∙ asks.1, asks.2), subst (λ (r : Reader g.row.T.Denot). Settles c.ask_proof-part.result.part r) c.settle-part.ensures.part c.settle-part.ensures.settles))
