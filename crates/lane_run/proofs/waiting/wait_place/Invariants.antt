use Rattle.std.proofs.Common.{◌≡◌, IfNone, false}
use Rattle.race_cells.specs.Notes.{AreNotesOf}
use Rattle.race_core.specs.Asking.{terms_of}
use Rattle.race_core.specs.Parts.{keeper_from, place_from}
use Rattle.race_core.specs.declared.part.Keeper.TheVariants as keeper
use Rattle.race_core.specs.declared.part.Place.TheVariants.{Away}
use Rattle.lane_berth.specs.Berths.{IsIdle}
use Rattle.lane_run.specs.Keeping.{IsOfCell, Keeps, TakesTurns}
use Rattle.lane_run.proofs.Waits.{AtWait}
use Rattle.lane_run.proofs.waiting.wait_place.Given as goal

abbrev pub invariant-loop : goal.invariant-loop
invariant-loop g l = AtWait
    (Keeps (IsOfCell g.T.Settled.problem g.T.Settled.job (g.J.ForJob.problem l.watch.problem.now) l.watch.terms.now l.watch.other) (g.C.Clock.may_read l.watch.clock.now) l.fn.notes l.notes l.fn.events.events l.events.events)
    (AreNotesOf l.watch.cells.now l.notes)
    (TakesTurns (keeper_from (terms_of g.T.Settled.job g.T.Settled.answer l.watch.terms.now) keeper.Fresh l.events.events))
    (place_from Away l.events.events ≡ Away)
    (IsIdle l.berth)
    l.events.room
    (l.berth ≡ record l.fn.berth { holds = l.berth.holds })
    (IfNone l.fn.berth.pool (l.berth.holds ≡ false))
