use Rattle.std.proofs.Common.{List, sym, subst, refl}
use Rattle.sby_edge.specs.Cause.{CountsOf}
use Rattle.sby_top.specs.Judged.{AreReports}
use Rattle.sby_top.specs.Ready.{HasCome, back_by}
use Rattle.sby_top.specs.Task.{Service}
use Rattle.task_race.specs.Bays.{BackOf, CameBack, counts_at, yard_at}
use Rattle.task_race.specs.declared.racing.RanLanes.{RanLanes}
use Rattle.task_race.proofs.BackLemmas.{counts_left}
use Rattle.sby_top.proofs.host.Host.come_back.Goals as goal

pub returns-in-Judged-clause-reports : goal.returns-in-Judged-clause-reports
returns-in-Judged-clause-reports g c = λ task p number pool told has.
    let view : g.row.Y-Bay.Denot → BackOf = back_by g.Y.Bay.Launch.told g.Y.Bay.Launch.start_faults g.Y.Bay.Launch.read_faults g.Y.Bay.Launch.hold_faults in
    let came = subst (HasCome view task p number pool (g.C.Clock.may_read c.args.self.now.clock.now) told (g.Y.Yard.told c.args.self.now.yard.now)) c.in-Judged.is has in
    rw came.1 (came.2, refl, refl)

pub returns-in-Raced-clause-reports : goal.returns-in-Raced-clause-reports
returns-in-Raced-clause-reports g c = λ task p number pool told has.
    let count = λ (b : g.row.Y-Bay.Denot). counts_at (g.Y.Bay.Launch.start_faults b) (g.Y.Bay.Launch.read_faults b) (g.Y.Bay.Launch.hold_faults b) in
    let view : g.row.Y-Bay.Denot → BackOf = back_by g.Y.Bay.Launch.told g.Y.Bay.Launch.start_faults g.Y.Bay.Launch.read_faults g.Y.Bay.Launch.hold_faults in
    let may_read = g.C.Clock.may_read c.args.self.now.clock.now in
    let raced = c.in-Raced.raced in
    let back = c.finish_race.ensures in
    let scripts = g.Y.Yard.told c.args.self.now.yard.now in
    let before = yard_at scripts (g.Y.Yard.started c.args.self.now.yard.now) (counts_at (g.Y.Yard.start_faults c.args.self.now.yard.now) (g.Y.Yard.read_faults c.args.self.now.yard.now) (g.Y.Yard.hold_faults c.args.self.now.yard.now)) in
    let now = yard_at (g.Y.Yard.told c.finish_race.new.yard) (g.Y.Yard.started c.finish_race.new.yard) (counts_at (g.Y.Yard.start_faults c.finish_race.new.yard) (g.Y.Yard.read_faults c.finish_race.new.yard) (g.Y.Yard.hold_faults c.finish_race.new.yard)) in
    let came = subst (HasCome view task p number pool may_read told scripts) c.in-Raced.is has in
    let ran = came.2 before now refl (subst (λ (parts : List CountsOf). CameBack parts before.counts now.counts) (sym (counts_left view count raced.bays.items (λ b. refl))) back.counts) back.started in
    subst (λ (r : RanLanes). AreReports task.service may_read task p told (record { task = number; pool = pool; before = before; after = now; start = r.start }) r.reports.items) (sym back.ran)
    (subst (λ (s : Service). AreReports s may_read task p told (record { task = number; pool = pool; before = before; after = now; start = raced.ran.start }) raced.ran.reports.items) (sym came.1) ran)
