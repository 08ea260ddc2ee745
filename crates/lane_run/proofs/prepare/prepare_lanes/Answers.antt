use Rattle.std.proofs.Common.{◌≡◌, ◌∷◌, [], ◌<◌, ◌+◌, ℕ, All, List, length, sym, ap, subst, ◌∙◌, arith}
use Rattle.std.specs.Prelude.{slice_index_or}
use Rattle.std.proofs.lemmas.List.{length-append}
use Rattle.lane_run.specs.Raced.{IsReady}
use Rattle.lane_run.specs.declared.prepare.PreparedLane.{PreparedLane}
use Rattle.lane_run.proofs.Joins.{all_more, places_more}
use Rattle.lane_run.proofs.prepare.prepare_lanes.Goals as goal

pub loop-place-preserved : goal.loop-place-preserved
loop-place-preserved g c =
    let at = c.loop-place in
    let inv = at.invariant in
    let lane = c.in_ok-prepare_lane.field-0 in
    let now = c.push_reserved.ensures.items in
    record {
      count = ap length now ∙ (length-append at.prepared.items (lane ∷ []) ∙ ap (λ n. n + 1) inv.count);
      room = omega (arith, c.push_reserved.ensures.capacity, inv.room);
      ready = subst (λ (l : List (PreparedLane g.row.T.Denot)). All (λ y. IsReady c.args.cells.now y.report y.notes) l) (sym now)
          (all_more (λ (y : PreparedLane g.row.T.Denot). IsReady c.args.cells.now y.report y.notes) (λ (y : PreparedLane g.row.T.Denot). IsReady c.args.cells.now y.report y.notes)
          at.prepared.items lane (λ y h. h) inv.ready c.in_ok-prepare_lane.ensures.ready);
      places = subst (λ (l : List (PreparedLane g.row.T.Denot)). (i : ℕ) (d : PreparedLane g.row.T.Denot) → i < length l → (slice_index_or l i d).report.lane ≡ i) (sym now)
          (places_more (λ (y : PreparedLane g.row.T.Denot). y.report.lane) at.prepared.items lane inv.places (c.in_ok-prepare_lane.ensures.place ∙ sym inv.count));
    }
