use Rattle.std.proofs.Common.{refl, sym, subst, arith}
use Rattle.task_race.specs.Bays.{counts_at, yard_at}
use Rattle.sby_top.specs.End.{exit_seen}
use Rattle.sby_top.specs.Headline.{TaskRan}
use Rattle.sby_top.specs.Task.{task_seen}
use Rattle.sby_top.specs.World.{World, world_at}
use Rattle.sby_top.proofs.RunLemmas.{fault_named, fault_printed, task_ran}
use Rattle.sby_top.proofs.TruthLemmas.{Laws}
use Rattle.sby_top.proofs.host.Host.finish_early.Goals as goal

pub returns-clause-ran : goal.returns-clause-ran
returns-clause-ran g c = λ got put pool before reason less same spared scripts children.
    let laws : Laws = record {
      induction = c.base_and_step_show_that_nothing_breaks.ensures;
      slices = c.slices_show_that_nothing_breaks.ensures.slices;
      within = c.slices_show_that_nothing_breaks.ensures.within;
      break = c.fail_shows_its_run.ensures;
      exist = c.job_lines_exist.ensures;
      statement = c.settled_statement_is_shown.ensures;
    } in
    let h = c.finish_fault.ensures in
    let may_read = g.C.Clock.may_read c.args.self.now.clock.now in
    let task = task_seen c.args.task in
    let old = c.args.self.now in
    let world : g.row.S.Denot → World = λ out. world_at (g.F.Files.told old.files.now) (g.F.Files.faults old.files.now) (g.F.Files.blamed old.files.now) (g.S.Sink.taken out) (g.S.Sink.faults out) (g.S.Sink.ended out)
    (yard_at (g.Y.Yard.told old.yard.now) (g.Y.Yard.started old.yard.now) (counts_at (g.Y.Yard.start_faults old.yard.now) (g.Y.Yard.read_faults old.yard.now) (g.Y.Yard.hold_faults old.yard.now))) in
    let told = h.told task.request refl (sym c.slices-slices.ensures.slices) refl in
    subst (λ (b : World). TaskRan may_read c.args.number (record { got = got; put = put; pool = pool; before = b; after = world c.finish_fault.new.out }) task c.finish_fault.result.0 (exit_seen c.finish_fault.result.1)) (sym same)
    (task_ran laws may_read c.args.number _ task c.finish_fault.result.0 _ c.requires.askable
    (fault_named may_read c.args.number _ task c.finish_fault.result.0 c.args.early _ _ _ _ _ _ h.end h.unput told reason refl spared)
    (fault_printed task c.finish_fault.result.0 c.args.early _ _ _ _ _ _ h.end h.unput told)
    (record { prepared = less; files = omega arith; sink = h.later; children = children; scripts = scripts }))
