use Rattle.std.proofs.Common.{◌≡◌, ℕ, List, Option, false, length, map, option_map, sym, ap, ◌∙◌, arith}
use Rattle.jobs_pool.specs.Places.{PoolOf}
use Rattle.race_cells.specs.Notes.{NoteOf}
use Rattle.race_core.specs.Report.{ReportOf}
use Rattle.lane_run.specs.Raced.{IsReady}
use Rattle.lane_run.specs.declared.prepare.PreparedLane.{PreparedLane}
use Rattle.lane_run.specs.declared.racing.Lane.{Lane}
use Rattle.lane_run.proofs.Joins.{map_length}
use Rattle.lane_run.proofs.PreparedLanes.{all_alike, each_prepared}
use Rattle.lane_run.proofs.prepare.fresh_lanes.Goals as goal

pub returns-clause-ready : goal.returns-clause-ready
returns-clause-ready g c =
    let many : length c.give_bays.new.lanes.items ≡ length c.args.bays.items =
    sym (map_length (λ (l : Lane g.row.L.Denot g.row.T.Denot). l.bay.bay) c.give_bays.new.lanes.items) ∙ ap length c.give_bays.ensures.bays in
    record {
      each = each_prepared (λ (s : PreparedLane g.row.T.Denot). s.report) (λ (s : PreparedLane g.row.T.Denot). s.notes) (λ (l : Lane g.row.L.Denot g.row.T.Denot). l.report) (λ (l : Lane g.row.L.Denot g.row.T.Denot). l.notes)
          (λ (k : ℕ) (r : ReportOf g.row.T.Denot) (n : List (NoteOf g.row.T.Denot)). IsReady c.args.cells.now r n) c.in-Ok.room.prepared.items c.give_bays.new.lanes.items
          (sym c.give_bays.ensures.reports) (sym c.give_bays.ensures.notes) c.in-Ok.ensures.ready;
      places = each_prepared (λ (s : PreparedLane g.row.T.Denot). s.report) (λ (s : PreparedLane g.row.T.Denot). s.notes) (λ (l : Lane g.row.L.Denot g.row.T.Denot). l.report) (λ (l : Lane g.row.L.Denot g.row.T.Denot). l.notes)
          (λ (k : ℕ) (r : ReportOf g.row.T.Denot) (n : List (NoteOf g.row.T.Denot)). r.lane ≡ k) c.in-Ok.room.prepared.items c.give_bays.new.lanes.items
          (sym c.give_bays.ensures.reports) (sym c.give_bays.ensures.notes) c.in-Ok.ensures.places;
      bays = (c.in-Ok.ensures.fresh.0, omega (arith, many, c.in-Ok.ensures.room.0));
      reports = (c.in-Ok.ensures.fresh.1, omega (arith, many, c.in-Ok.ensures.room.1));
      notes = c.in-Ok.ensures.notes;
      free = λ k d lt. (
        all_alike (λ (l : Lane g.row.L.Denot g.row.T.Denot). l.bay.pool) (option_map (λ p. p.now) c.pool-pool.result) c.in-Ok.room.prepared.items c.give_bays.new.lanes.items
            (c.give_bays.ensures.pools ∙ ap (λ (p : Option PoolOf). map (λ _. p) c.in-Ok.room.prepared.items) (sym c.pool-pool.ensures)) k d lt,
        (
          all_alike (λ (l : Lane g.row.L.Denot g.row.T.Denot). l.bay.holds) false c.in-Ok.room.prepared.items c.give_bays.new.lanes.items c.give_bays.ensures.away k d lt,
          all_alike (λ (l : Lane g.row.L.Denot g.row.T.Denot). l.bay.stands) false c.in-Ok.room.prepared.items c.give_bays.new.lanes.items c.give_bays.ensures.none k d lt,
        ),
      );
    }
