use Rattle.std.proofs.Common.{◌<◌, length, rules, sym, subst, arith}
use Rattle.std.specs.Prelude.{slice_index_or}
use Rattle.sby_top.specs.Ready.{back_by}
use Rattle.sby_top.specs.Waiting.{Holds, IsOver}
use Rattle.sby_top.specs.declared.slot.Slot.{Slot}
use Rattle.task_race.specs.Bays.{BackOf}
use Rattle.sby_top.proofs.SlotLemmas.{HoldsTurn, KeepsTurn, each_turn, waiting_kept}
use Rattle.sby_top.proofs.slot.race_slots.Goals as goal

pub for_each_mut-requires-clause-accepts : goal.for_each_mut-requires-clause-accepts
for_each_mut-requires-clause-accepts g c = λ lifetimes lives i p lt at.
    let view : g.row.L.Denot → BackOf = back_by g.L.Launch.told g.L.Launch.start_faults g.L.Launch.read_faults g.L.Launch.hold_faults in
    let may_read = g.C.Clock.may_read c.args.clock.now in
    let q = c.requires in
    (subst (λ (s : Slot g.row.L.Denot). HoldsTurn view may_read s) (sym at) (each_turn view may_read q.0 q.1 q.2 q.3 q.4 q.5 c.args.slots.now q.6 i p.now lt), search rules)

pub returns-clause-waiting : goal.returns-clause-waiting
returns-clause-waiting g c = λ pool scripts number first last turns waiting.
    let view : g.row.L.Denot → BackOf = back_by g.L.Launch.told g.L.Launch.start_faults g.L.Launch.read_faults g.L.Launch.hold_faults in
    let may_read = g.C.Clock.may_read c.args.clock.now in
    waiting_kept view may_read pool scripts number first last turns c.args.slots.now c.for_each_mut.new.s waiting (omega arith) (λ i d lt.
    let at = (c.for_each_mut.ensures i d lt).1 in
    subst (λ (s : Slot g.row.L.Denot). KeepsTurn view may_read s (slice_index_or c.for_each_mut.new.s i d)) at.argument_is (subst (λ (s : Slot g.row.L.Denot). KeepsTurn view may_read at.argument.now s) at.left (at.call.0, at.call.1.0)))

pub returns-clause-over : goal.returns-clause-over
returns-clause-over g c = λ k d lt.
    let less : k < length c.args.slots.now = omega (lt, arith) in
    let at = (c.for_each_mut.ensures k d less).1 in
    subst (λ (s : Slot g.row.L.Denot). Holds s IsOver) at.left at.call.1.1
