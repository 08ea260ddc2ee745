use Rattle.std.proofs.Common.{◌≡◌, ◌++◌, ◌∷◌, [], ◌∙◌, List, ap, drop, length, refl, sym, subst, arith, rules, take}
use Rattle.std.specs.Prelude.{Some}
use Rattle.std.specs.Vec.Iter.{into_iter_items}
use Rattle.std.proofs.lemmas.List.{take-append-drop}
use Rattle.std.proofs.lemmas.List.Elements.{All-head, All-rest, All-same}
use Rattle.lane_run.proofs.Joins.{nothing_left}
use Rattle.sby_top.specs.End.{exit_seen}
use Rattle.sby_top.specs.Headline.{Code, Cut}
use Rattle.sby_top.specs.Ready.{back_by}
use Rattle.sby_top.specs.Run.{RanUnder}
use Rattle.sby_top.specs.Waiting.{AreWaiting, Holds, IsAt, IsOver}
use Rattle.sby_top.specs.World.{files_of, world_at}
use Rattle.sby_top.specs.declared.run.Exit.{Exit as KeptExit}
use Rattle.sby_top.specs.declared.slot.Slot.{Slot}
use Rattle.task_race.specs.Bays.{counts_at, yard_at}
use Rattle.sby_top.proofs.TogetherLemmas.{LeavesAll, ShowsAt, code_of_all, code_of_few, last_code, ran_together, showing_all, showing_cut, showing_first, showing_next, showing_none}
use Rattle.sby_top.proofs.host.Host.show_slots.Goals as goal

pub loop-slot-init : goal.loop-slot-init
loop-slot-init g c =
    let items : into_iter_items c.into_iter-left.result ≡ c.args.slots.items = c.into_iter-left.ensures.rest in
    let same = ap length items in
    record {
      len = search rules;
      over = All-same (λ (s : Slot g.row.Y-Bay.Denot). Holds s IsOver) (into_iter_items c.into_iter-left.result) c.args.slots.items items c.requires.over;
      room = let none = ap length c.requires.none in let room = c.requires.room in omega (arith, same, none, room);
      showing = λ pool start turns slotted.
          showing_none (back_by g.Y.Bay.Launch.told g.Y.Bay.Launch.start_faults g.Y.Bay.Launch.read_faults g.Y.Bay.Launch.hold_faults) (g.C.Clock.may_read c.args.self.now.clock.now) pool (files_of start) (files_of (world_at (g.F.Files.told c.args.self.now.files.now) (g.F.Files.faults c.args.self.now.files.now) (g.F.Files.blamed c.args.self.now.files.now) (g.S.Sink.taken c.args.self.now.out.now) (g.S.Sink.faults c.args.self.now.out.now) (g.S.Sink.ended c.args.self.now.out.now) (yard_at (g.Y.Yard.told c.args.self.now.yard.now) (g.Y.Yard.started c.args.self.now.yard.now) (counts_at (g.Y.Yard.start_faults c.args.self.now.yard.now) (g.Y.Yard.read_faults c.args.self.now.yard.now) (g.Y.Yard.hold_faults c.args.self.now.yard.now))))) turns (take (length c.args.slots.items) turns) (drop (length c.args.slots.items) turns) (world_at (g.F.Files.told c.args.self.now.files.now) (g.F.Files.faults c.args.self.now.files.now) (g.F.Files.blamed c.args.self.now.files.now) (g.S.Sink.taken c.args.self.now.out.now) (g.S.Sink.faults c.args.self.now.out.now) (g.S.Sink.ended c.args.self.now.out.now) (yard_at (g.Y.Yard.told c.args.self.now.yard.now) (g.Y.Yard.started c.args.self.now.yard.now) (counts_at (g.Y.Yard.start_faults c.args.self.now.yard.now) (g.Y.Yard.read_faults c.args.self.now.yard.now) (g.Y.Yard.hold_faults c.args.self.now.yard.now)))) (into_iter_items c.into_iter-left.result) _
          (take-append-drop (length c.args.slots.items) turns) refl c.requires.none
          (subst (λ (ss : List (Slot g.row.Y-Bay.Denot)). AreWaiting (back_by g.Y.Bay.Launch.told g.Y.Bay.Launch.start_faults g.Y.Bay.Launch.read_faults g.Y.Bay.Launch.hold_faults) (g.C.Clock.may_read c.args.self.now.clock.now) pool (g.Y.Yard.told c.args.self.now.yard.now) 0 (files_of start) (take (length c.args.slots.items) turns) (files_of (world_at (g.F.Files.told c.args.self.now.files.now) (g.F.Files.faults c.args.self.now.files.now) (g.F.Files.blamed c.args.self.now.files.now) (g.S.Sink.taken c.args.self.now.out.now) (g.S.Sink.faults c.args.self.now.out.now) (g.S.Sink.ended c.args.self.now.out.now) (yard_at (g.Y.Yard.told c.args.self.now.yard.now) (g.Y.Yard.started c.args.self.now.yard.now) (counts_at (g.Y.Yard.start_faults c.args.self.now.yard.now) (g.Y.Yard.read_faults c.args.self.now.yard.now) (g.Y.Yard.hold_faults c.args.self.now.yard.now))))) ss) (sym items)
          (subst (λ s. AreWaiting (back_by g.Y.Bay.Launch.told g.Y.Bay.Launch.start_faults g.Y.Bay.Launch.read_faults g.Y.Bay.Launch.hold_faults) (g.C.Clock.may_read c.args.self.now.clock.now) pool s 0 (files_of start) (take (length c.args.slots.items) turns) (files_of (world_at (g.F.Files.told c.args.self.now.files.now) (g.F.Files.faults c.args.self.now.files.now) (g.F.Files.blamed c.args.self.now.files.now) (g.S.Sink.taken c.args.self.now.out.now) (g.S.Sink.faults c.args.self.now.out.now) (g.S.Sink.ended c.args.self.now.out.now) (yard_at (g.Y.Yard.told c.args.self.now.yard.now) (g.Y.Yard.started c.args.self.now.yard.now) (counts_at (g.Y.Yard.start_faults c.args.self.now.yard.now) (g.Y.Yard.read_faults c.args.self.now.yard.now) (g.Y.Yard.hold_faults c.args.self.now.yard.now))))) c.args.slots.items) (sym slotted.spared.scripts) slotted.waiting));
      files = refl;
      out = refl;
      yard = refl;
      clock = refl;
    }

pub show_slot-end-requires-after_bounds : goal.show_slot-end-requires-after_bounds
show_slot-end-requires-after_bounds g c = λ lifetimes lives.
    let inv = c.loop-slot.invariant in
    let steps : into_iter_items c.loop-slot.left ≡ c.in-Some.slot ∷ into_iter_items c.next.new.self = c.in-Some.ensures.cases.0 in
    let w = c.requires.waiting in
    let held = showing_first (back_by g.Y.Bay.Launch.told g.Y.Bay.Launch.start_faults g.Y.Bay.Launch.read_faults g.Y.Bay.Launch.hold_faults) (g.C.Clock.may_read c.args.self.now.clock.now) w.0 (files_of w.1) (files_of (world_at (g.F.Files.told c.args.self.now.files.now) (g.F.Files.faults c.args.self.now.files.now) (g.F.Files.blamed c.args.self.now.files.now) (g.S.Sink.taken c.args.self.now.out.now) (g.S.Sink.faults c.args.self.now.out.now) (g.S.Sink.ended c.args.self.now.out.now) (yard_at (g.Y.Yard.told c.args.self.now.yard.now) (g.Y.Yard.started c.args.self.now.yard.now) (counts_at (g.Y.Yard.start_faults c.args.self.now.yard.now) (g.Y.Yard.read_faults c.args.self.now.yard.now) (g.Y.Yard.hold_faults c.args.self.now.yard.now))))) w.2 (drop (length c.args.slots.items) w.2) (world_at (g.F.Files.told c.args.self.now.files.now) (g.F.Files.faults c.args.self.now.files.now) (g.F.Files.blamed c.args.self.now.files.now) (g.S.Sink.taken c.args.self.now.out.now) (g.S.Sink.faults c.args.self.now.out.now) (g.S.Sink.ended c.args.self.now.out.now) (yard_at (g.Y.Yard.told c.args.self.now.yard.now) (g.Y.Yard.started c.args.self.now.yard.now) (counts_at (g.Y.Yard.start_faults c.args.self.now.yard.now) (g.Y.Yard.read_faults c.args.self.now.yard.now) (g.Y.Yard.hold_faults c.args.self.now.yard.now)))) (world_at (g.F.Files.told c.loop-slot.self.files.now) (g.F.Files.faults c.loop-slot.self.files.now) (g.F.Files.blamed c.loop-slot.self.files.now) (g.S.Sink.taken c.loop-slot.self.out.now) (g.S.Sink.faults c.loop-slot.self.out.now) (g.S.Sink.ended c.loop-slot.self.out.now) (yard_at (g.Y.Yard.told c.loop-slot.self.yard.now) (g.Y.Yard.started c.loop-slot.self.yard.now) (counts_at (g.Y.Yard.start_faults c.loop-slot.self.yard.now) (g.Y.Yard.read_faults c.loop-slot.self.yard.now) (g.Y.Yard.hold_faults c.loop-slot.self.yard.now)))) (into_iter_items c.loop-slot.left) c.in-Some.slot (into_iter_items c.next.new.self) c.loop-slot.done
    (inv.showing w.0 w.1 w.2 w.3) steps in (
      w.0,
      held.0,
      held.1,
      held.2,
      subst (λ (k : g.row.C.Denot). Holds c.in-Some.slot (IsAt (back_by g.Y.Bay.Launch.told g.Y.Bay.Launch.start_faults g.Y.Bay.Launch.read_faults g.Y.Bay.Launch.hold_faults) (g.C.Clock.may_read k) w.0 (g.Y.Yard.told c.loop-slot.self.yard.now) c.in-Some.slot.number held.0 held.1 held.2)) (sym inv.clock) held.3,
      All-head (λ (s : Slot g.row.Y-Bay.Denot). Holds s IsOver) c.in-Some.slot (into_iter_items c.next.new.self) (All-same (λ (s : Slot g.row.Y-Bay.Denot). Holds s IsOver) _ _ (sym steps) inv.over),
    )

pub push_reserved-requires : goal.push_reserved-requires
push_reserved-requires g c =
    let steps : into_iter_items c.loop-slot.left ≡ c.in-Some.slot ∷ into_iter_items c.next.new.self = c.in-Some.ensures.cases.0 in
    let short = ap length steps in
    let room = c.loop-slot.invariant.room in
    omega (arith, short, room, c.loop-slot.done.ends.ok)

pub loop-slot-preserved : goal.loop-slot-preserved
loop-slot-preserved g c =
    let inv = c.loop-slot.invariant in
    let slot = c.in-Some.slot in
    let rest = into_iter_items c.next.new.self in
    let steps : into_iter_items c.loop-slot.left ≡ slot ∷ rest = c.in-Some.ensures.cases.0 in
    let e = c.show_slot-end.ensures in
    let pushed : c.push_reserved.new.self.items ≡ c.loop-slot.done.ends.items ++ c.show_slot-end.result.0 ∷ [] = c.push_reserved.ensures.items in
    record {
      len = let was = inv.len in let gone = c.in-Some.ensures.cases.1 in let short = ap length steps in omega arith;
      over = All-rest (λ (s : Slot g.row.Y-Bay.Denot). Holds s IsOver) slot rest (into_iter_items c.loop-slot.left) steps inv.over;
      room = let was = inv.room in let short = ap length steps in let more = c.push_reserved.ensures.len in let same = c.push_reserved.ensures.capacity in omega (arith, c.push_reserved.new.self.ok, c.loop-slot.done.ends.ok);
      showing = λ pool start turns slotted.
          showing_next (back_by g.Y.Bay.Launch.told g.Y.Bay.Launch.start_faults g.Y.Bay.Launch.read_faults g.Y.Bay.Launch.hold_faults) (g.C.Clock.may_read c.args.self.now.clock.now) pool (files_of start) (files_of (world_at (g.F.Files.told c.args.self.now.files.now) (g.F.Files.faults c.args.self.now.files.now) (g.F.Files.blamed c.args.self.now.files.now) (g.S.Sink.taken c.args.self.now.out.now) (g.S.Sink.faults c.args.self.now.out.now) (g.S.Sink.ended c.args.self.now.out.now) (yard_at (g.Y.Yard.told c.args.self.now.yard.now) (g.Y.Yard.started c.args.self.now.yard.now) (counts_at (g.Y.Yard.start_faults c.args.self.now.yard.now) (g.Y.Yard.read_faults c.args.self.now.yard.now) (g.Y.Yard.hold_faults c.args.self.now.yard.now))))) turns (drop (length c.args.slots.items) turns) (world_at (g.F.Files.told c.args.self.now.files.now) (g.F.Files.faults c.args.self.now.files.now) (g.F.Files.blamed c.args.self.now.files.now) (g.S.Sink.taken c.args.self.now.out.now) (g.S.Sink.faults c.args.self.now.out.now) (g.S.Sink.ended c.args.self.now.out.now) (yard_at (g.Y.Yard.told c.args.self.now.yard.now) (g.Y.Yard.started c.args.self.now.yard.now) (counts_at (g.Y.Yard.start_faults c.args.self.now.yard.now) (g.Y.Yard.read_faults c.args.self.now.yard.now) (g.Y.Yard.hold_faults c.args.self.now.yard.now)))) (world_at (g.F.Files.told c.loop-slot.self.files.now) (g.F.Files.faults c.loop-slot.self.files.now) (g.F.Files.blamed c.loop-slot.self.files.now) (g.S.Sink.taken c.loop-slot.self.out.now) (g.S.Sink.faults c.loop-slot.self.out.now) (g.S.Sink.ended c.loop-slot.self.out.now) (yard_at (g.Y.Yard.told c.loop-slot.self.yard.now) (g.Y.Yard.started c.loop-slot.self.yard.now) (counts_at (g.Y.Yard.start_faults c.loop-slot.self.yard.now) (g.Y.Yard.read_faults c.loop-slot.self.yard.now) (g.Y.Yard.hold_faults c.loop-slot.self.yard.now)))) (world_at (g.F.Files.told c.show_slot-end.new.self.files.now) (g.F.Files.faults c.show_slot-end.new.self.files.now) (g.F.Files.blamed c.show_slot-end.new.self.files.now) (g.S.Sink.taken c.show_slot-end.new.self.out.now) (g.S.Sink.faults c.show_slot-end.new.self.out.now) (g.S.Sink.ended c.show_slot-end.new.self.out.now) (yard_at (g.Y.Yard.told c.show_slot-end.new.self.yard.now) (g.Y.Yard.started c.show_slot-end.new.self.yard.now) (counts_at (g.Y.Yard.start_faults c.show_slot-end.new.self.yard.now) (g.Y.Yard.read_faults c.show_slot-end.new.self.yard.now) (g.Y.Yard.hold_faults c.show_slot-end.new.self.yard.now))))
          (into_iter_items c.loop-slot.left) slot rest c.loop-slot.done _ c.show_slot-end.result.0 c.in-Code.rc (inv.showing pool start turns slotted) steps
          (subst (λ (k : g.row.C.Denot). ShowsAt (back_by g.Y.Bay.Launch.told g.Y.Bay.Launch.start_faults g.Y.Bay.Launch.read_faults g.Y.Bay.Launch.hold_faults) (g.C.Clock.may_read k) pool (world_at (g.F.Files.told c.loop-slot.self.files.now) (g.F.Files.faults c.loop-slot.self.files.now) (g.F.Files.blamed c.loop-slot.self.files.now) (g.S.Sink.taken c.loop-slot.self.out.now) (g.S.Sink.faults c.loop-slot.self.out.now) (g.S.Sink.ended c.loop-slot.self.out.now) (yard_at (g.Y.Yard.told c.loop-slot.self.yard.now) (g.Y.Yard.started c.loop-slot.self.yard.now) (counts_at (g.Y.Yard.start_faults c.loop-slot.self.yard.now) (g.Y.Yard.read_faults c.loop-slot.self.yard.now) (g.Y.Yard.hold_faults c.loop-slot.self.yard.now)))) (world_at (g.F.Files.told c.show_slot-end.new.self.files.now) (g.F.Files.faults c.show_slot-end.new.self.files.now) (g.F.Files.blamed c.show_slot-end.new.self.files.now) (g.S.Sink.taken c.show_slot-end.new.self.out.now) (g.S.Sink.faults c.show_slot-end.new.self.out.now) (g.S.Sink.ended c.show_slot-end.new.self.out.now) (yard_at (g.Y.Yard.told c.show_slot-end.new.self.yard.now) (g.Y.Yard.started c.show_slot-end.new.self.yard.now) (counts_at (g.Y.Yard.start_faults c.show_slot-end.new.self.yard.now) (g.Y.Yard.read_faults c.show_slot-end.new.self.yard.now) (g.Y.Yard.hold_faults c.show_slot-end.new.self.yard.now)))) slot c.show_slot-end.result.0 (Code c.in-Code.rc)) inv.clock
          (subst (λ (x : KeptExit). ShowsAt (back_by g.Y.Bay.Launch.told g.Y.Bay.Launch.start_faults g.Y.Bay.Launch.read_faults g.Y.Bay.Launch.hold_faults) (g.C.Clock.may_read c.loop-slot.self.clock.now) pool (world_at (g.F.Files.told c.loop-slot.self.files.now) (g.F.Files.faults c.loop-slot.self.files.now) (g.F.Files.blamed c.loop-slot.self.files.now) (g.S.Sink.taken c.loop-slot.self.out.now) (g.S.Sink.faults c.loop-slot.self.out.now) (g.S.Sink.ended c.loop-slot.self.out.now) (yard_at (g.Y.Yard.told c.loop-slot.self.yard.now) (g.Y.Yard.started c.loop-slot.self.yard.now) (counts_at (g.Y.Yard.start_faults c.loop-slot.self.yard.now) (g.Y.Yard.read_faults c.loop-slot.self.yard.now) (g.Y.Yard.hold_faults c.loop-slot.self.yard.now)))) (world_at (g.F.Files.told c.show_slot-end.new.self.files.now) (g.F.Files.faults c.show_slot-end.new.self.files.now) (g.F.Files.blamed c.show_slot-end.new.self.files.now) (g.S.Sink.taken c.show_slot-end.new.self.out.now) (g.S.Sink.faults c.show_slot-end.new.self.out.now) (g.S.Sink.ended c.show_slot-end.new.self.out.now) (yard_at (g.Y.Yard.told c.show_slot-end.new.self.yard.now) (g.Y.Yard.started c.show_slot-end.new.self.yard.now) (counts_at (g.Y.Yard.start_faults c.show_slot-end.new.self.yard.now) (g.Y.Yard.read_faults c.show_slot-end.new.self.yard.now) (g.Y.Yard.hold_faults c.show_slot-end.new.self.yard.now)))) slot c.show_slot-end.result.0 (exit_seen x)) c.in-Code.is (e.ran pool)))
          e.scripts refl pushed;
      files = e.keeps.0 ∙ inv.files;
      out = e.keeps.1 ∙ inv.out;
      yard = e.keeps.2 ∙ inv.yard;
      clock = e.keeps.3 ∙ inv.clock;
    }

pub leave_slots-requires-clause-len : goal.leave_slots-requires-clause-len
leave_slots-requires-clause-len g c = λ lifetimes lives.
    let steps : into_iter_items c.loop-slot.left ≡ c.in-Some.slot ∷ into_iter_items c.next.new.self = c.in-Some.ensures.cases.0 in
    let was = c.loop-slot.invariant.len in let gone = c.in-Some.ensures.cases.1 in let short = ap length steps in omega arith

pub leave_slots-requires-clause-over : goal.leave_slots-requires-clause-over
leave_slots-requires-clause-over g c = λ lifetimes lives.
    let steps : into_iter_items c.loop-slot.left ≡ c.in-Some.slot ∷ into_iter_items c.next.new.self = c.in-Some.ensures.cases.0 in
    All-rest (λ (s : Slot g.row.Y-Bay.Denot). Holds s IsOver) c.in-Some.slot (into_iter_items c.next.new.self) (into_iter_items c.loop-slot.left) steps c.loop-slot.invariant.over

pub returns-in-Cut-clause-ran : goal.returns-in-Cut-clause-ran
returns-in-Cut-clause-ran g c = λ pool start turns slotted.
    let inv = c.loop-slot.invariant in
    let slot = c.in-Some.slot in
    let rest = into_iter_items c.next.new.self in
    let steps : into_iter_items c.loop-slot.left ≡ slot ∷ rest = c.in-Some.ensures.cases.0 in
    let e = c.show_slot-end.ensures in
    let pushed : c.push_reserved.new.self.items ≡ c.loop-slot.done.ends.items ++ c.show_slot-end.result.0 ∷ [] = c.push_reserved.ensures.items in
    let shows = subst (λ (k : g.row.C.Denot). ShowsAt (back_by g.Y.Bay.Launch.told g.Y.Bay.Launch.start_faults g.Y.Bay.Launch.read_faults g.Y.Bay.Launch.hold_faults) (g.C.Clock.may_read k) pool (world_at (g.F.Files.told c.loop-slot.self.files.now) (g.F.Files.faults c.loop-slot.self.files.now) (g.F.Files.blamed c.loop-slot.self.files.now) (g.S.Sink.taken c.loop-slot.self.out.now) (g.S.Sink.faults c.loop-slot.self.out.now) (g.S.Sink.ended c.loop-slot.self.out.now) (yard_at (g.Y.Yard.told c.loop-slot.self.yard.now) (g.Y.Yard.started c.loop-slot.self.yard.now) (counts_at (g.Y.Yard.start_faults c.loop-slot.self.yard.now) (g.Y.Yard.read_faults c.loop-slot.self.yard.now) (g.Y.Yard.hold_faults c.loop-slot.self.yard.now)))) (world_at (g.F.Files.told c.show_slot-end.new.self.files.now) (g.F.Files.faults c.show_slot-end.new.self.files.now) (g.F.Files.blamed c.show_slot-end.new.self.files.now) (g.S.Sink.taken c.show_slot-end.new.self.out.now) (g.S.Sink.faults c.show_slot-end.new.self.out.now) (g.S.Sink.ended c.show_slot-end.new.self.out.now) (yard_at (g.Y.Yard.told c.show_slot-end.new.self.yard.now) (g.Y.Yard.started c.show_slot-end.new.self.yard.now) (counts_at (g.Y.Yard.start_faults c.show_slot-end.new.self.yard.now) (g.Y.Yard.read_faults c.show_slot-end.new.self.yard.now) (g.Y.Yard.hold_faults c.show_slot-end.new.self.yard.now)))) slot c.show_slot-end.result.0 Cut) inv.clock
    (subst (λ (x : KeptExit). ShowsAt (back_by g.Y.Bay.Launch.told g.Y.Bay.Launch.start_faults g.Y.Bay.Launch.read_faults g.Y.Bay.Launch.hold_faults) (g.C.Clock.may_read c.loop-slot.self.clock.now) pool (world_at (g.F.Files.told c.loop-slot.self.files.now) (g.F.Files.faults c.loop-slot.self.files.now) (g.F.Files.blamed c.loop-slot.self.files.now) (g.S.Sink.taken c.loop-slot.self.out.now) (g.S.Sink.faults c.loop-slot.self.out.now) (g.S.Sink.ended c.loop-slot.self.out.now) (yard_at (g.Y.Yard.told c.loop-slot.self.yard.now) (g.Y.Yard.started c.loop-slot.self.yard.now) (counts_at (g.Y.Yard.start_faults c.loop-slot.self.yard.now) (g.Y.Yard.read_faults c.loop-slot.self.yard.now) (g.Y.Yard.hold_faults c.loop-slot.self.yard.now)))) (world_at (g.F.Files.told c.show_slot-end.new.self.files.now) (g.F.Files.faults c.show_slot-end.new.self.files.now) (g.F.Files.blamed c.show_slot-end.new.self.files.now) (g.S.Sink.taken c.show_slot-end.new.self.out.now) (g.S.Sink.faults c.show_slot-end.new.self.out.now) (g.S.Sink.ended c.show_slot-end.new.self.out.now) (yard_at (g.Y.Yard.told c.show_slot-end.new.self.yard.now) (g.Y.Yard.started c.show_slot-end.new.self.yard.now) (counts_at (g.Y.Yard.start_faults c.show_slot-end.new.self.yard.now) (g.Y.Yard.read_faults c.show_slot-end.new.self.yard.now) (g.Y.Yard.hold_faults c.show_slot-end.new.self.yard.now)))) slot c.show_slot-end.result.0 (exit_seen x)) c.in-Cut.is (e.ran pool)) in
    let leaves = subst (λ (k : g.row.C.Denot). LeavesAll (back_by g.Y.Bay.Launch.told g.Y.Bay.Launch.start_faults g.Y.Bay.Launch.read_faults g.Y.Bay.Launch.hold_faults) (g.C.Clock.may_read k) pool (world_at (g.F.Files.told c.show_slot-end.new.self.files.now) (g.F.Files.faults c.show_slot-end.new.self.files.now) (g.F.Files.blamed c.show_slot-end.new.self.files.now) (g.S.Sink.taken c.show_slot-end.new.self.out.now) (g.S.Sink.faults c.show_slot-end.new.self.out.now) (g.S.Sink.ended c.show_slot-end.new.self.out.now) (yard_at (g.Y.Yard.told c.show_slot-end.new.self.yard.now) (g.Y.Yard.started c.show_slot-end.new.self.yard.now) (counts_at (g.Y.Yard.start_faults c.show_slot-end.new.self.yard.now) (g.Y.Yard.read_faults c.show_slot-end.new.self.yard.now) (g.Y.Yard.hold_faults c.show_slot-end.new.self.yard.now)))) (world_at (g.F.Files.told c.leave_slots.new.self.files.now) (g.F.Files.faults c.leave_slots.new.self.files.now) (g.F.Files.blamed c.leave_slots.new.self.files.now) (g.S.Sink.taken c.leave_slots.new.self.out.now) (g.S.Sink.faults c.leave_slots.new.self.out.now) (g.S.Sink.ended c.leave_slots.new.self.out.now) (yard_at (g.Y.Yard.told c.leave_slots.new.self.yard.now) (g.Y.Yard.started c.leave_slots.new.self.yard.now) (counts_at (g.Y.Yard.start_faults c.leave_slots.new.self.yard.now) (g.Y.Yard.read_faults c.leave_slots.new.self.yard.now) (g.Y.Yard.hold_faults c.leave_slots.new.self.yard.now)))) rest) (e.keeps.3 ∙ inv.clock) (c.leave_slots.ensures.untold pool) in
    let go = showing_cut (back_by g.Y.Bay.Launch.told g.Y.Bay.Launch.start_faults g.Y.Bay.Launch.read_faults g.Y.Bay.Launch.hold_faults) (g.C.Clock.may_read c.args.self.now.clock.now) pool (files_of start) (files_of (world_at (g.F.Files.told c.args.self.now.files.now) (g.F.Files.faults c.args.self.now.files.now) (g.F.Files.blamed c.args.self.now.files.now) (g.S.Sink.taken c.args.self.now.out.now) (g.S.Sink.faults c.args.self.now.out.now) (g.S.Sink.ended c.args.self.now.out.now) (yard_at (g.Y.Yard.told c.args.self.now.yard.now) (g.Y.Yard.started c.args.self.now.yard.now) (counts_at (g.Y.Yard.start_faults c.args.self.now.yard.now) (g.Y.Yard.read_faults c.args.self.now.yard.now) (g.Y.Yard.hold_faults c.args.self.now.yard.now))))) turns (drop (length c.args.slots.items) turns) (world_at (g.F.Files.told c.args.self.now.files.now) (g.F.Files.faults c.args.self.now.files.now) (g.F.Files.blamed c.args.self.now.files.now) (g.S.Sink.taken c.args.self.now.out.now) (g.S.Sink.faults c.args.self.now.out.now) (g.S.Sink.ended c.args.self.now.out.now) (yard_at (g.Y.Yard.told c.args.self.now.yard.now) (g.Y.Yard.started c.args.self.now.yard.now) (counts_at (g.Y.Yard.start_faults c.args.self.now.yard.now) (g.Y.Yard.read_faults c.args.self.now.yard.now) (g.Y.Yard.hold_faults c.args.self.now.yard.now)))) (world_at (g.F.Files.told c.loop-slot.self.files.now) (g.F.Files.faults c.loop-slot.self.files.now) (g.F.Files.blamed c.loop-slot.self.files.now) (g.S.Sink.taken c.loop-slot.self.out.now) (g.S.Sink.faults c.loop-slot.self.out.now) (g.S.Sink.ended c.loop-slot.self.out.now) (yard_at (g.Y.Yard.told c.loop-slot.self.yard.now) (g.Y.Yard.started c.loop-slot.self.yard.now) (counts_at (g.Y.Yard.start_faults c.loop-slot.self.yard.now) (g.Y.Yard.read_faults c.loop-slot.self.yard.now) (g.Y.Yard.hold_faults c.loop-slot.self.yard.now)))) (world_at (g.F.Files.told c.show_slot-end.new.self.files.now) (g.F.Files.faults c.show_slot-end.new.self.files.now) (g.F.Files.blamed c.show_slot-end.new.self.files.now) (g.S.Sink.taken c.show_slot-end.new.self.out.now) (g.S.Sink.faults c.show_slot-end.new.self.out.now) (g.S.Sink.ended c.show_slot-end.new.self.out.now) (yard_at (g.Y.Yard.told c.show_slot-end.new.self.yard.now) (g.Y.Yard.started c.show_slot-end.new.self.yard.now) (counts_at (g.Y.Yard.start_faults c.show_slot-end.new.self.yard.now) (g.Y.Yard.read_faults c.show_slot-end.new.self.yard.now) (g.Y.Yard.hold_faults c.show_slot-end.new.self.yard.now)))) (world_at (g.F.Files.told c.leave_slots.new.self.files.now) (g.F.Files.faults c.leave_slots.new.self.files.now) (g.F.Files.blamed c.leave_slots.new.self.files.now) (g.S.Sink.taken c.leave_slots.new.self.out.now) (g.S.Sink.faults c.leave_slots.new.self.out.now) (g.S.Sink.ended c.leave_slots.new.self.out.now) (yard_at (g.Y.Yard.told c.leave_slots.new.self.yard.now) (g.Y.Yard.started c.leave_slots.new.self.yard.now) (counts_at (g.Y.Yard.start_faults c.leave_slots.new.self.yard.now) (g.Y.Yard.read_faults c.leave_slots.new.self.yard.now) (g.Y.Yard.hold_faults c.leave_slots.new.self.yard.now))))
    (into_iter_items c.loop-slot.left) slot rest c.loop-slot.done c.show_slot-end.result.0 (inv.showing pool start turns slotted) steps shows e.scripts leaves in (
      Cut,
      subst (λ es. RanUnder (Some pool.most) (g.C.Clock.may_read c.args.self.now.clock.now) start turns es (world_at (g.F.Files.told c.leave_slots.new.self.files.now) (g.F.Files.faults c.leave_slots.new.self.files.now) (g.F.Files.blamed c.leave_slots.new.self.files.now) (g.S.Sink.taken c.leave_slots.new.self.out.now) (g.S.Sink.faults c.leave_slots.new.self.out.now) (g.S.Sink.ended c.leave_slots.new.self.out.now) (yard_at (g.Y.Yard.told c.leave_slots.new.self.yard.now) (g.Y.Yard.started c.leave_slots.new.self.yard.now) (counts_at (g.Y.Yard.start_faults c.leave_slots.new.self.yard.now) (g.Y.Yard.read_faults c.leave_slots.new.self.yard.now) (g.Y.Yard.hold_faults c.leave_slots.new.self.yard.now)))) Cut) (sym pushed)
          (ran_together (back_by g.Y.Bay.Launch.told g.Y.Bay.Launch.start_faults g.Y.Bay.Launch.read_faults g.Y.Bay.Launch.hold_faults) (g.C.Clock.may_read c.args.self.now.clock.now) pool start (world_at (g.F.Files.told c.args.self.now.files.now) (g.F.Files.faults c.args.self.now.files.now) (g.F.Files.blamed c.args.self.now.files.now) (g.S.Sink.taken c.args.self.now.out.now) (g.S.Sink.faults c.args.self.now.out.now) (g.S.Sink.ended c.args.self.now.out.now) (yard_at (g.Y.Yard.told c.args.self.now.yard.now) (g.Y.Yard.started c.args.self.now.yard.now) (counts_at (g.Y.Yard.start_faults c.args.self.now.yard.now) (g.Y.Yard.read_faults c.args.self.now.yard.now) (g.Y.Yard.hold_faults c.args.self.now.yard.now)))) turns c.args.is_all c.args.slots.items _ Cut (world_at (g.F.Files.told c.leave_slots.new.self.files.now) (g.F.Files.faults c.leave_slots.new.self.files.now) (g.F.Files.blamed c.leave_slots.new.self.files.now) (g.S.Sink.taken c.leave_slots.new.self.out.now) (g.S.Sink.faults c.leave_slots.new.self.out.now) (g.S.Sink.ended c.leave_slots.new.self.out.now) (yard_at (g.Y.Yard.told c.leave_slots.new.self.yard.now) (g.Y.Yard.started c.leave_slots.new.self.yard.now) (counts_at (g.Y.Yard.start_faults c.leave_slots.new.self.yard.now) (g.Y.Yard.read_faults c.leave_slots.new.self.yard.now) (g.Y.Yard.hold_faults c.leave_slots.new.self.yard.now)))) slotted go),
      refl,
    )

pub returns-in-Cut-clause-keeps : goal.returns-in-Cut-clause-keeps
returns-in-Cut-clause-keeps g c =
    let inv = c.loop-slot.invariant in let e = c.show_slot-end.ensures.keeps in let l = c.leave_slots.ensures.keeps in
    (l.0 ∙ e.0 ∙ inv.files, l.1 ∙ e.1 ∙ inv.out, l.2 ∙ e.2 ∙ inv.yard, l.3 ∙ e.3 ∙ inv.clock)

pub returns-then-is_all-clause-ran : goal.returns-then-is_all-clause-ran
returns-then-is_all-clause-ran g c = λ pool start turns slotted.
    let inv = c.loop-slot.invariant in
    let none : length (into_iter_items c.loop-slot.left) ≡ 0 = grind (arith, inv.len, c.in_default.ensures.variant, c.in_default.not-Some) in
    let go = showing_all (back_by g.Y.Bay.Launch.told g.Y.Bay.Launch.start_faults g.Y.Bay.Launch.read_faults g.Y.Bay.Launch.hold_faults) (g.C.Clock.may_read c.args.self.now.clock.now) pool (files_of start) (files_of (world_at (g.F.Files.told c.args.self.now.files.now) (g.F.Files.faults c.args.self.now.files.now) (g.F.Files.blamed c.args.self.now.files.now) (g.S.Sink.taken c.args.self.now.out.now) (g.S.Sink.faults c.args.self.now.out.now) (g.S.Sink.ended c.args.self.now.out.now) (yard_at (g.Y.Yard.told c.args.self.now.yard.now) (g.Y.Yard.started c.args.self.now.yard.now) (counts_at (g.Y.Yard.start_faults c.args.self.now.yard.now) (g.Y.Yard.read_faults c.args.self.now.yard.now) (g.Y.Yard.hold_faults c.args.self.now.yard.now))))) turns (drop (length c.args.slots.items) turns) (world_at (g.F.Files.told c.args.self.now.files.now) (g.F.Files.faults c.args.self.now.files.now) (g.F.Files.blamed c.args.self.now.files.now) (g.S.Sink.taken c.args.self.now.out.now) (g.S.Sink.faults c.args.self.now.out.now) (g.S.Sink.ended c.args.self.now.out.now) (yard_at (g.Y.Yard.told c.args.self.now.yard.now) (g.Y.Yard.started c.args.self.now.yard.now) (counts_at (g.Y.Yard.start_faults c.args.self.now.yard.now) (g.Y.Yard.read_faults c.args.self.now.yard.now) (g.Y.Yard.hold_faults c.args.self.now.yard.now)))) (world_at (g.F.Files.told c.loop-slot.self.files.now) (g.F.Files.faults c.loop-slot.self.files.now) (g.F.Files.blamed c.loop-slot.self.files.now) (g.S.Sink.taken c.loop-slot.self.out.now) (g.S.Sink.faults c.loop-slot.self.out.now) (g.S.Sink.ended c.loop-slot.self.out.now) (yard_at (g.Y.Yard.told c.loop-slot.self.yard.now) (g.Y.Yard.started c.loop-slot.self.yard.now) (counts_at (g.Y.Yard.start_faults c.loop-slot.self.yard.now) (g.Y.Yard.read_faults c.loop-slot.self.yard.now) (g.Y.Yard.hold_faults c.loop-slot.self.yard.now))))
    (into_iter_items c.loop-slot.left) c.loop-slot.done (inv.showing pool start turns slotted) (nothing_left _ none) in
    let code = code_of_all c.loop-slot.done.rc (length c.args.slots.items) turns (slotted.all c.if-is_all.true) in (
      Code (last_code c.loop-slot.done.rc (drop (length c.args.slots.items) turns)),
      ran_together (back_by g.Y.Bay.Launch.told g.Y.Bay.Launch.start_faults g.Y.Bay.Launch.read_faults g.Y.Bay.Launch.hold_faults) (g.C.Clock.may_read c.args.self.now.clock.now) pool start (world_at (g.F.Files.told c.args.self.now.files.now) (g.F.Files.faults c.args.self.now.files.now) (g.F.Files.blamed c.args.self.now.files.now) (g.S.Sink.taken c.args.self.now.out.now) (g.S.Sink.faults c.args.self.now.out.now) (g.S.Sink.ended c.args.self.now.out.now) (yard_at (g.Y.Yard.told c.args.self.now.yard.now) (g.Y.Yard.started c.args.self.now.yard.now) (counts_at (g.Y.Yard.start_faults c.args.self.now.yard.now) (g.Y.Yard.read_faults c.args.self.now.yard.now) (g.Y.Yard.hold_faults c.args.self.now.yard.now)))) turns c.args.is_all c.args.slots.items c.loop-slot.done.ends.items _ (world_at (g.F.Files.told c.loop-slot.self.files.now) (g.F.Files.faults c.loop-slot.self.files.now) (g.F.Files.blamed c.loop-slot.self.files.now) (g.S.Sink.taken c.loop-slot.self.out.now) (g.S.Sink.faults c.loop-slot.self.out.now) (g.S.Sink.ended c.loop-slot.self.out.now) (yard_at (g.Y.Yard.told c.loop-slot.self.yard.now) (g.Y.Yard.started c.loop-slot.self.yard.now) (counts_at (g.Y.Yard.start_faults c.loop-slot.self.yard.now) (g.Y.Yard.read_faults c.loop-slot.self.yard.now) (g.Y.Yard.hold_faults c.loop-slot.self.yard.now)))) slotted go,
      sym code,
    )

pub returns-clause-ran : goal.returns-clause-ran
returns-clause-ran g c = λ pool start turns slotted.
    let inv = c.loop-slot.invariant in
    let none : length (into_iter_items c.loop-slot.left) ≡ 0 = grind (arith, inv.len, c.in_default.ensures.variant, c.in_default.not-Some) in
    let go = showing_all (back_by g.Y.Bay.Launch.told g.Y.Bay.Launch.start_faults g.Y.Bay.Launch.read_faults g.Y.Bay.Launch.hold_faults) (g.C.Clock.may_read c.args.self.now.clock.now) pool (files_of start) (files_of (world_at (g.F.Files.told c.args.self.now.files.now) (g.F.Files.faults c.args.self.now.files.now) (g.F.Files.blamed c.args.self.now.files.now) (g.S.Sink.taken c.args.self.now.out.now) (g.S.Sink.faults c.args.self.now.out.now) (g.S.Sink.ended c.args.self.now.out.now) (yard_at (g.Y.Yard.told c.args.self.now.yard.now) (g.Y.Yard.started c.args.self.now.yard.now) (counts_at (g.Y.Yard.start_faults c.args.self.now.yard.now) (g.Y.Yard.read_faults c.args.self.now.yard.now) (g.Y.Yard.hold_faults c.args.self.now.yard.now))))) turns (drop (length c.args.slots.items) turns) (world_at (g.F.Files.told c.args.self.now.files.now) (g.F.Files.faults c.args.self.now.files.now) (g.F.Files.blamed c.args.self.now.files.now) (g.S.Sink.taken c.args.self.now.out.now) (g.S.Sink.faults c.args.self.now.out.now) (g.S.Sink.ended c.args.self.now.out.now) (yard_at (g.Y.Yard.told c.args.self.now.yard.now) (g.Y.Yard.started c.args.self.now.yard.now) (counts_at (g.Y.Yard.start_faults c.args.self.now.yard.now) (g.Y.Yard.read_faults c.args.self.now.yard.now) (g.Y.Yard.hold_faults c.args.self.now.yard.now)))) (world_at (g.F.Files.told c.loop-slot.self.files.now) (g.F.Files.faults c.loop-slot.self.files.now) (g.F.Files.blamed c.loop-slot.self.files.now) (g.S.Sink.taken c.loop-slot.self.out.now) (g.S.Sink.faults c.loop-slot.self.out.now) (g.S.Sink.ended c.loop-slot.self.out.now) (yard_at (g.Y.Yard.told c.loop-slot.self.yard.now) (g.Y.Yard.started c.loop-slot.self.yard.now) (counts_at (g.Y.Yard.start_faults c.loop-slot.self.yard.now) (g.Y.Yard.read_faults c.loop-slot.self.yard.now) (g.Y.Yard.hold_faults c.loop-slot.self.yard.now))))
    (into_iter_items c.loop-slot.left) c.loop-slot.done (inv.showing pool start turns slotted) (nothing_left _ none) in
    let code = code_of_few c.loop-slot.done.rc (length c.args.slots.items) turns (slotted.few c.if-is_all.false) in (
      Code (last_code c.loop-slot.done.rc (drop (length c.args.slots.items) turns)),
      ran_together (back_by g.Y.Bay.Launch.told g.Y.Bay.Launch.start_faults g.Y.Bay.Launch.read_faults g.Y.Bay.Launch.hold_faults) (g.C.Clock.may_read c.args.self.now.clock.now) pool start (world_at (g.F.Files.told c.args.self.now.files.now) (g.F.Files.faults c.args.self.now.files.now) (g.F.Files.blamed c.args.self.now.files.now) (g.S.Sink.taken c.args.self.now.out.now) (g.S.Sink.faults c.args.self.now.out.now) (g.S.Sink.ended c.args.self.now.out.now) (yard_at (g.Y.Yard.told c.args.self.now.yard.now) (g.Y.Yard.started c.args.self.now.yard.now) (counts_at (g.Y.Yard.start_faults c.args.self.now.yard.now) (g.Y.Yard.read_faults c.args.self.now.yard.now) (g.Y.Yard.hold_faults c.args.self.now.yard.now)))) turns c.args.is_all c.args.slots.items c.loop-slot.done.ends.items _ (world_at (g.F.Files.told c.loop-slot.self.files.now) (g.F.Files.faults c.loop-slot.self.files.now) (g.F.Files.blamed c.loop-slot.self.files.now) (g.S.Sink.taken c.loop-slot.self.out.now) (g.S.Sink.faults c.loop-slot.self.out.now) (g.S.Sink.ended c.loop-slot.self.out.now) (yard_at (g.Y.Yard.told c.loop-slot.self.yard.now) (g.Y.Yard.started c.loop-slot.self.yard.now) (counts_at (g.Y.Yard.start_faults c.loop-slot.self.yard.now) (g.Y.Yard.read_faults c.loop-slot.self.yard.now) (g.Y.Yard.hold_faults c.loop-slot.self.yard.now)))) slotted go,
      sym code,
    )

pub returns-then-is_all-clause-keeps : goal.returns-then-is_all-clause-keeps
returns-then-is_all-clause-keeps g c = let inv = c.loop-slot.invariant in (inv.files, inv.out, inv.yard, inv.clock)

pub returns-clause-keeps : goal.returns-clause-keeps
returns-clause-keeps g c = let inv = c.loop-slot.invariant in (inv.files, inv.out, inv.yard, inv.clock)
