use Rattle.std.proofs.Common.{◌≡◌, ◌≤◌}
use Rattle.race_cells.specs.Notes.{AreNotesOf}
use Rattle.race_core.specs.Asking.{terms_of}
use Rattle.race_core.specs.Parts.{keeper_from, place_from}
use Rattle.race_core.specs.declared.part.Keeper.TheVariants as keeper
use Rattle.race_core.specs.declared.part.Place.TheVariants.{Away}
use Rattle.lane_run.specs.Keeping.{IsOfCell, Keeps, TakesTurns}
use Rattle.lane_run.proofs.Keepers.{AtTurn}
use Rattle.lane_run.proofs.keeper.keep.Given as goal

abbrev pub invariant-loop : goal.invariant-loop
invariant-loop g l = AtTurn
    (Keeps (IsOfCell g.T.Settled.problem g.T.Settled.job (g.J.ForJob.problem l.watch.problem.now) l.watch.terms.now l.watch.other) (g.C.Clock.may_read l.watch.clock.now) l.fn.notes l.notes l.fn.events.events l.events.events)
    (AreNotesOf l.watch.cells.now l.notes)
    (TakesTurns (keeper_from (terms_of g.T.Settled.job g.T.Settled.answer l.watch.terms.now) keeper.Fresh l.events.events))
    (place_from Away l.events.events ≡ place_from Away l.fn.events.events)
    l.reserved
    l.events.room
    ((g.H.Hold.killed l.hold ≡ g.H.Hold.killed l.fn.hold) × (g.H.Hold.is_reaped l.hold ≡ g.H.Hold.is_reaped l.fn.hold) × (g.H.Hold.faults l.fn.hold ≤ g.H.Hold.faults l.hold))
