use Rattle.std.proofs.Common.{◌≡◌, ◌++◌, ◌≤◌}
use Rattle.race_cells.specs.Notes.{AreNotesOf}
use Rattle.race_core.specs.Asking.{terms_of}
use Rattle.race_core.specs.Parts.{keeper_from, place_from}
use Rattle.race_core.specs.declared.part.Keeper.TheVariants as keeper
use Rattle.race_core.specs.declared.part.Place.TheVariants.{Away}
use Rattle.lane_run.specs.Judging.{Within}
use Rattle.lane_run.specs.Keeping.{IsOfCell, Keeps, TakesTurns}
use Rattle.lane_run.proofs.proof.judge_beside.Given as goal

abbrev pub invariant-loop : goal.invariant-loop
invariant-loop g l = record {
  proving : g.S.ChildJudge.proving l.on;
  whole : g.S.ChildJudge.proved l.on ++ l.rest ≡ l.fn.proof;
  same : Within (g.S.ChildJudge.proves l.on) (g.S.ChildJudge.proves l.fn.judge);
  so_far : Keeps (IsOfCell g.T.Settled.problem g.T.Settled.job (g.J.ForJob.problem l.watch.problem.now) l.watch.terms.now l.watch.other) (g.C.Clock.may_read l.watch.clock.now) l.fn.notes l.notes l.fn.keeper_events.events l.keeper_events.events;
  of : AreNotesOf l.watch.cells.now l.notes;
  part : TakesTurns (keeper_from (terms_of g.T.Settled.job g.T.Settled.answer l.watch.terms.now) keeper.Fresh l.keeper_events.events);
  same_place : place_from Away l.keeper_events.events ≡ place_from Away l.fn.keeper_events.events;
  some : 2 ≤ l.keeper_events.room;
}
