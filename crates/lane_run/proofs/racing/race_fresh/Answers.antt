use Rattle.std.proofs.Common.{◌≡◌, ◌<◌, ℕ, zero, suc, All, List, [], ◌∷◌, ◌++◌, length, map, take, drop, refl, sym, ap, subst, ◌∙◌, arith}
use Rattle.std.specs.Prelude.{Option, slice_get, slice_index_or}
use Rattle.race_core.specs.Asking.{name_at, terms_of}
use Rattle.race_core.specs.Consistent.{Consistent}
use Rattle.race_core.specs.Report.{ReportOf}
use Rattle.jobs_pool.specs.Places.{PoolOf}
use Rattle.lane_berth.specs.Berths.{IsIdle}
use Rattle.lane_run.specs.Keeping.{Remember}
use Rattle.lane_run.specs.Asked.{IsFor, terms_at}
use Rattle.lane_run.specs.Done.{LaneFaults, LaneStops}
use Rattle.lane_run.specs.Raced.{LanesDone, pool_of}
use Rattle.lane_run.specs.Started.{LaneStarts}
use Rattle.lane_run.specs.declared.racing.Lane.{Lane}
use Rattle.std.proofs.lemmas.List.Elements.{All-map}
use Rattle.lane_run.proofs.Gathered.{lanes_gathered, picked, related}
use Rattle.lane_run.proofs.Joins.{map_length}
use Rattle.lane_run.proofs.Races.{lanes_consistent}
use Rattle.lane_run.proofs.racing.race_fresh.Goals as goal

-- as many as were lent come back
take_whole : {X : Type 0} (xs ys : List X) (n : ℕ) → n ≡ length xs → take n (xs ++ ys) ≡ xs
take_whole [] ys zero e = refl
take_whole [] ys (suc n) e = absurd (omega (e, arith))
take_whole (x ∷ xs) ys zero e = absurd (omega (e, arith))
take_whole (x ∷ xs) ys (suc n) e = ap (λ rest. x ∷ rest) (take_whole xs ys n (omega (e, arith)))

pub gather-requires-clause-cells : goal.gather-requires-clause-cells
gather-requires-clause-cells g c =
    let now = c.run_lanes.new.lanes in
    let many : c.args.fresh.lanes.len ≡ length now = omega arith in
    let whole : take c.args.fresh.lanes.len (now ++ drop (length now) c.args.fresh.lanes.items) ≡ now = take_whole now (drop (length now) c.args.fresh.lanes.items) c.args.fresh.lanes.len many in
    let cells = λ (l : Lane g.row.L.Denot g.row.T.Denot). map (λ n. n.cell) l.notes ≡ map (λ n. n.cell) c.args.fresh.raced.notes in
    subst (λ (ls : List (Lane g.row.L.Denot g.row.T.Denot)). All cells ls) (sym whole) (λ k d lt. (c.run_lanes.ensures.done k d lt).2 ∙ sym c.requires.ready.notes)

pub returns-clause-done : goal.returns-clause-done
returns-clause-done g c =
    let t = c.args.task.now in
    let for = IsFor g.T.Settled.problem g.T.Settled.job (g.M.ForJob.problem t.factory.now) t.mode in
    let serves = λ (i k : ℕ). g.M.LaneFactory.is_served t.factory.now i (name_at t.mode k) in
    let terms = λ (k : ℕ). terms_of g.T.Settled.job g.T.Settled.answer (terms_at t.mode t.limit k) in
    let may = g.C.Clock.may_read t.clock.now in
    let ran = c.run_lanes.ensures in
    let notes = c.gather.new.raced.notes in
    let now = c.run_lanes.new.lanes in
    let many : c.args.fresh.lanes.len ≡ length now = omega arith in
    let whole : take c.args.fresh.lanes.len (now ++ drop (length now) c.args.fresh.lanes.items) ≡ now = take_whole now (drop (length now) c.args.fresh.lanes.items) c.args.fresh.lanes.len many in
    subst (λ (rs : List (ReportOf g.row.T.Denot)). LanesDone for serves terms may (length t.cells.now) notes rs) (sym (c.gather.ensures.reports ∙ ap (λ (ls : List (Lane g.row.L.Denot g.row.T.Denot)). map (λ l. l.report) ls) whole))
    (lanes_gathered (λ (l : Lane g.row.L.Denot g.row.T.Denot). l.report) (λ (l : Lane g.row.L.Denot g.row.T.Denot). l.notes) for serves terms may t.cells.now notes now ran.done
    (λ i d lt.
    let less : i < length c.as_mut_slice.result.now = omega (lt, arith) in
    ran.lanes i d less
    ∙ (ap (λ (l : List (Lane g.row.L.Denot g.row.T.Denot)). (slice_index_or l i d).report.lane) c.as_mut_slice.ensures.value
    ∙ c.requires.ready.places i d (subst (λ (l : List (Lane g.row.L.Denot g.row.T.Denot)). i < length l) c.as_mut_slice.ensures.value less)))
    (subst (λ (ls : List (Lane g.row.L.Denot g.row.T.Denot)). All (λ l. Remember l.notes notes) ls) whole c.gather.ensures.notes))

pub returns-clause-consistent : goal.returns-clause-consistent
returns-clause-consistent g c =
    let t = c.args.task.now in
    let for = IsFor g.T.Settled.problem g.T.Settled.job (g.M.ForJob.problem t.factory.now) t.mode in
    let serves = λ (i k : ℕ). g.M.LaneFactory.is_served t.factory.now i (name_at t.mode k) in
    let terms = λ (k : ℕ). terms_of g.T.Settled.job g.T.Settled.answer (terms_at t.mode t.limit k) in
    let may = g.C.Clock.may_read t.clock.now in
    let reports = c.gather.new.raced.reports.items in
    let now = c.run_lanes.new.lanes in
    let many : c.args.fresh.lanes.len ≡ length now = omega arith in
    let whole : take c.args.fresh.lanes.len (now ++ drop (length now) c.args.fresh.lanes.items) ≡ now = take_whole now (drop (length now) c.args.fresh.lanes.items) c.args.fresh.lanes.len many in
    let same : length c.run_lanes.new.lanes ≡ length c.as_mut_slice.result.now = omega arith in
    let all : length reports ≡ length (map (λ (l : Lane g.row.L.Denot g.row.T.Denot). l.bay.bay) c.args.fresh.lanes.items) =
    ap length (c.gather.ensures.reports ∙ ap (λ (ls : List (Lane g.row.L.Denot g.row.T.Denot)). map (λ l. l.report) ls) whole) ∙ (map_length (λ (l : Lane g.row.L.Denot g.row.T.Denot). l.report) c.run_lanes.new.lanes
    ∙ (same ∙ (ap length c.as_mut_slice.ensures.value ∙ sym (map_length (λ (l : Lane g.row.L.Denot g.row.T.Denot). l.bay.bay) c.args.fresh.lanes.items)))) in
    subst (λ (n : ℕ). Consistent for serves terms n (length t.cells.now) reports) all
    (lanes_consistent for serves terms may (length t.cells.now) c.gather.new.raced.notes reports (returns-clause-done g c))

pub returns-clause-bays : goal.returns-clause-bays
returns-clause-bays g c =
    let now = c.run_lanes.new.lanes in
    let many : c.args.fresh.lanes.len ≡ length now = omega arith in
    let whole : take c.args.fresh.lanes.len (now ++ drop (length now) c.args.fresh.lanes.items) ≡ now = take_whole now (drop (length now) c.args.fresh.lanes.items) c.args.fresh.lanes.len many in
    let same : length now ≡ length c.as_mut_slice.result.now = omega arith in
    ap length (c.gather.ensures.bays ∙ ap (λ (ls : List (Lane g.row.L.Denot g.row.T.Denot)). map (λ l. l.bay.bay) ls) whole) ∙ (map_length (λ (l : Lane g.row.L.Denot g.row.T.Denot). l.bay.bay) now
    ∙ (same ∙ (ap length c.as_mut_slice.ensures.value ∙ sym (map_length (λ (l : Lane g.row.L.Denot g.row.T.Denot). l.bay.bay) c.args.fresh.lanes.items))))

pub returns-clause-faults : goal.returns-clause-faults
returns-clause-faults g c = λ i b d q was is told.
    let now = c.run_lanes.new.lanes in
    let many : c.args.fresh.lanes.len ≡ length now = omega arith in
    let whole : take c.args.fresh.lanes.len (now ++ drop (length now) c.args.fresh.lanes.items) ≡ now = take_whole now (drop (length now) c.args.fresh.lanes.items) c.args.fresh.lanes.len many in
    let bay = λ (l : Lane g.row.L.Denot g.row.T.Denot). l.bay.bay in
    let report = λ (l : Lane g.row.L.Denot g.row.T.Denot). l.report in
    let bays = c.gather.ensures.bays ∙ ap (λ (ls : List (Lane g.row.L.Denot g.row.T.Denot)). map bay ls) whole in
    let reports = c.gather.ensures.reports ∙ ap (λ (ls : List (Lane g.row.L.Denot g.row.T.Denot)). map report ls) whole in
    let before = ap (λ (ls : List (Lane g.row.L.Denot g.row.T.Denot)). map bay ls) c.as_mut_slice.ensures.value in
    let x = picked bay c.as_mut_slice.result.now i b (ap (λ (l : List g.row.L.Denot). slice_get l i) before ∙ was) in
    let y = picked bay now i d (ap (λ (l : List g.row.L.Denot). slice_get l i) (sym bays) ∙ is) in
    let z = picked report now i q (ap (λ (l : List (ReportOf g.row.T.Denot)). slice_get l i) (sym reports) ∙ told) in
    let faults = c.run_lanes.ensures.faults i x.0 x.1 in
    let n = length c.args.task.now.cells.now in
    subst (λ (k : g.row.L.Denot). LaneFaults (record { starts = g.L.Launch.start_faults k; reads = g.L.Launch.read_faults k; holds = g.L.Launch.hold_faults k }) (record { starts = g.L.Launch.start_faults d; reads = g.L.Launch.read_faults d; holds = g.L.Launch.hold_faults d }) n q) (ap bay (x.2 x.0) ∙ x.3)
    (subst (λ (k : g.row.L.Denot). LaneFaults (record { starts = g.L.Launch.start_faults (slice_index_or c.as_mut_slice.result.now i x.0).bay.bay; reads = g.L.Launch.read_faults (slice_index_or c.as_mut_slice.result.now i x.0).bay.bay; holds = g.L.Launch.hold_faults (slice_index_or c.as_mut_slice.result.now i x.0).bay.bay }) (record { starts = g.L.Launch.start_faults k; reads = g.L.Launch.read_faults k; holds = g.L.Launch.hold_faults k }) n q) (ap bay (y.2 x.0) ∙ y.3)
    (subst (λ (r : ReportOf g.row.T.Denot). LaneFaults (record { starts = g.L.Launch.start_faults (slice_index_or c.as_mut_slice.result.now i x.0).bay.bay; reads = g.L.Launch.read_faults (slice_index_or c.as_mut_slice.result.now i x.0).bay.bay; holds = g.L.Launch.hold_faults (slice_index_or c.as_mut_slice.result.now i x.0).bay.bay }) (record { starts = g.L.Launch.start_faults (slice_index_or now i x.0).bay.bay; reads = g.L.Launch.read_faults (slice_index_or now i x.0).bay.bay; holds = g.L.Launch.hold_faults (slice_index_or now i x.0).bay.bay }) n r) (ap report (z.2 x.0) ∙ z.3) faults))

pub returns-clause-starts : goal.returns-clause-starts
returns-clause-starts g c = λ i b d q was is told.
    let now = c.run_lanes.new.lanes in
    let many : c.args.fresh.lanes.len ≡ length now = omega arith in
    let whole : take c.args.fresh.lanes.len (now ++ drop (length now) c.args.fresh.lanes.items) ≡ now = take_whole now (drop (length now) c.args.fresh.lanes.items) c.args.fresh.lanes.len many in
    let bay = λ (l : Lane g.row.L.Denot g.row.T.Denot). l.bay.bay in
    let report = λ (l : Lane g.row.L.Denot g.row.T.Denot). l.report in
    let bays = c.gather.ensures.bays ∙ ap (λ (ls : List (Lane g.row.L.Denot g.row.T.Denot)). map bay ls) whole in
    let reports = c.gather.ensures.reports ∙ ap (λ (ls : List (Lane g.row.L.Denot g.row.T.Denot)). map report ls) whole in
    let before = ap (λ (ls : List (Lane g.row.L.Denot g.row.T.Denot)). map bay ls) c.as_mut_slice.ensures.value in
    let m = c.args.task.now.factory.now in
    let n = length c.args.task.now.cells.now in
    let told_of = g.L.Launch.told in
    let pool = pool_of c.args.fresh in
    let old = c.as_mut_slice.result.now in
    related bay report (λ (k h : g.row.L.Denot) (r : ReportOf g.row.T.Denot). LaneStarts pool (g.M.LaneFactory.words m i) (g.M.LaneFactory.file m) (g.M.LaneFactory.stands m i) (g.M.LaneFactory.ends m i) (g.M.LaneFactory.proves m i) (g.M.LaneFactory.most m) (g.M.LaneFactory.most_output m i) c.args.task.now.mode (told_of k) (told_of h) n r)
    old now i b d q (ap (λ (l : List g.row.L.Denot). slice_get l i) before ∙ was) (ap (λ (l : List g.row.L.Denot). slice_get l i) (sym bays) ∙ is) (ap (λ (l : List (ReportOf g.row.T.Denot)). slice_get l i) (sym reports) ∙ told)
    (λ x lt.
    let at : (slice_index_or old i x).report.lane ≡ i = ap (λ (l : List (Lane g.row.L.Denot g.row.T.Denot)). (slice_index_or l i x).report.lane) c.as_mut_slice.ensures.value
    ∙ c.requires.ready.places i x (subst (λ (l : List (Lane g.row.L.Denot g.row.T.Denot)). i < length l) c.as_mut_slice.ensures.value lt) in
    let under : (slice_index_or old i x).bay.pool ≡ pool = ap (λ (l : List (Lane g.row.L.Denot g.row.T.Denot)). (slice_index_or l i x).bay.pool) c.as_mut_slice.ensures.value
    ∙ (c.requires.ready.free i x (subst (λ (l : List (Lane g.row.L.Denot g.row.T.Denot)). i < length l) c.as_mut_slice.ensures.value lt)).0 in
    subst (λ (p : Option PoolOf). LaneStarts p (g.M.LaneFactory.words m i) (g.M.LaneFactory.file m) (g.M.LaneFactory.stands m i) (g.M.LaneFactory.ends m i) (g.M.LaneFactory.proves m i) (g.M.LaneFactory.most m) (g.M.LaneFactory.most_output m i) c.args.task.now.mode (told_of (slice_index_or old i x).bay.bay) (told_of (slice_index_or now i x).bay.bay) n (slice_index_or now i x).report) under
    (subst (λ (lane : ℕ). LaneStarts (slice_index_or old i x).bay.pool (g.M.LaneFactory.words m lane) (g.M.LaneFactory.file m) (g.M.LaneFactory.stands m lane) (g.M.LaneFactory.ends m lane) (g.M.LaneFactory.proves m lane) (g.M.LaneFactory.most m) (g.M.LaneFactory.most_output m lane) c.args.task.now.mode (told_of (slice_index_or old i x).bay.bay) (told_of (slice_index_or now i x).bay.bay) n (slice_index_or now i x).report) at
    (c.run_lanes.ensures.starts i x lt)))

pub returns-clause-stopped : goal.returns-clause-stopped
returns-clause-stopped g c =
    let t = c.args.task.now in
    let now = c.run_lanes.new.lanes in
    let many : c.args.fresh.lanes.len ≡ length now = omega arith in
    let whole : take c.args.fresh.lanes.len (now ++ drop (length now) c.args.fresh.lanes.items) ≡ now = take_whole now (drop (length now) c.args.fresh.lanes.items) c.args.fresh.lanes.len many in
    let report = λ (l : Lane g.row.L.Denot g.row.T.Denot). l.report in
    let reports = c.gather.ensures.reports ∙ ap (λ (ls : List (Lane g.row.L.Denot g.row.T.Denot)). map report ls) whole in
    let Stops = λ (r : ReportOf g.row.T.Denot). LaneStops (g.C.Clock.may_read t.clock.now) t.limit (length t.cells.now) r in
    subst (λ (rs : List (ReportOf g.row.T.Denot)). All Stops rs) (sym reports) (All-map Stops report now c.run_lanes.ensures.stopped)

pub run_lanes-requires-clause-idle : goal.run_lanes-requires-clause-idle
run_lanes-requires-clause-idle g c κs within =
    subst (λ (ls : List (Lane g.row.L.Denot g.row.T.Denot)). All (λ l. IsIdle l.bay) ls) (sym c.as_mut_slice.ensures.value) (λ k d lt. (c.requires.ready.free k d lt).1)

pub gather-requires-clause-idle : goal.gather-requires-clause-idle
gather-requires-clause-idle g c =
    let now = c.run_lanes.new.lanes in
    let many : c.args.fresh.lanes.len ≡ length now = omega arith in
    let whole : take c.args.fresh.lanes.len (now ++ drop (length now) c.args.fresh.lanes.items) ≡ now = take_whole now (drop (length now) c.args.fresh.lanes.items) c.args.fresh.lanes.len many in
    subst (λ (ls : List (Lane g.row.L.Denot g.row.T.Denot)). All (λ l. IsIdle l.bay) ls) (sym whole) c.run_lanes.ensures.idle
