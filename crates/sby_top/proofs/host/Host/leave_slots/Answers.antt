use Rattle.std.proofs.Common.{◌≡◌, ◌∷◌, ◌∙◌, ap, length, refl, arith}
use Rattle.std.specs.Vec.Iter.{into_iter_items}
use Rattle.std.proofs.lemmas.List.Elements.{All-head, All-rest}
use Rattle.lane_run.proofs.Joins.{nothing_left}
use Rattle.sby_top.specs.Ready.{back_by}
use Rattle.sby_top.specs.Waiting.{Holds, IsOver}
use Rattle.sby_top.specs.World.{world_at}
use Rattle.sby_top.specs.declared.slot.Slot.{Slot}
use Rattle.task_race.specs.Bays.{counts_at, yard_at}
use Rattle.sby_top.proofs.TogetherLemmas.{leaving_all, leaving_next, leaving_none}
use Rattle.sby_top.proofs.host.Host.leave_slots.Goals as goal

pub loop-slot-init : goal.loop-slot-init
loop-slot-init g c = record {
  len = c.requires.len;
  over = c.requires.over;
  leaving = λ pool number first last turns are. leaving_none (back_by g.Y.Bay.Launch.told g.Y.Bay.Launch.start_faults g.Y.Bay.Launch.read_faults g.Y.Bay.Launch.hold_faults) (g.C.Clock.may_read c.args.self.now.clock.now) pool number first last turns _ _ are;
  files = refl;
  out = refl;
  yard = refl;
  clock = refl;
}

pub leave_slot-requires-after_bounds : goal.leave_slot-requires-after_bounds
leave_slot-requires-after_bounds g c = λ lifetimes lives.
    let steps : into_iter_items c.loop-slot.left ≡ c.in-Some.slot ∷ into_iter_items c.next.new.self = c.in-Some.ensures.cases.0 in
    All-head (λ (s : Slot g.row.Y-Bay.Denot). Holds s IsOver) c.in-Some.slot (into_iter_items c.next.new.self) (rw steps at c.loop-slot.invariant.over)

pub loop-slot-preserved : goal.loop-slot-preserved
loop-slot-preserved g c =
    let inv = c.loop-slot.invariant in
    let slot = c.in-Some.slot in
    let rest = into_iter_items c.next.new.self in
    let steps : into_iter_items c.loop-slot.left ≡ slot ∷ rest = c.in-Some.ensures.cases.0 in
    let e = c.leave_slot.ensures in
    record {
      len = let was = inv.len in let gone = c.in-Some.ensures.cases.1 in let short = ap length steps in omega arith;
      over = All-rest (λ (s : Slot g.row.Y-Bay.Denot). Holds s IsOver) slot rest (into_iter_items c.loop-slot.left) steps inv.over;
      leaving = λ pool number first last turns are.
          leaving_next (back_by g.Y.Bay.Launch.told g.Y.Bay.Launch.start_faults g.Y.Bay.Launch.read_faults g.Y.Bay.Launch.hold_faults) (g.C.Clock.may_read c.args.self.now.clock.now) pool number first last turns (world_at (g.F.Files.told c.args.self.now.files.now) (g.F.Files.faults c.args.self.now.files.now) (g.F.Files.blamed c.args.self.now.files.now) (g.S.Sink.taken c.args.self.now.out.now) (g.S.Sink.faults c.args.self.now.out.now) (g.S.Sink.ended c.args.self.now.out.now) (yard_at (g.Y.Yard.told c.args.self.now.yard.now) (g.Y.Yard.started c.args.self.now.yard.now) (counts_at (g.Y.Yard.start_faults c.args.self.now.yard.now) (g.Y.Yard.read_faults c.args.self.now.yard.now) (g.Y.Yard.hold_faults c.args.self.now.yard.now)))) (world_at (g.F.Files.told c.loop-slot.self.files.now) (g.F.Files.faults c.loop-slot.self.files.now) (g.F.Files.blamed c.loop-slot.self.files.now) (g.S.Sink.taken c.loop-slot.self.out.now) (g.S.Sink.faults c.loop-slot.self.out.now) (g.S.Sink.ended c.loop-slot.self.out.now) (yard_at (g.Y.Yard.told c.loop-slot.self.yard.now) (g.Y.Yard.started c.loop-slot.self.yard.now) (counts_at (g.Y.Yard.start_faults c.loop-slot.self.yard.now) (g.Y.Yard.read_faults c.loop-slot.self.yard.now) (g.Y.Yard.hold_faults c.loop-slot.self.yard.now)))) (world_at (g.F.Files.told c.leave_slot.new.self.files.now) (g.F.Files.faults c.leave_slot.new.self.files.now) (g.F.Files.blamed c.leave_slot.new.self.files.now) (g.S.Sink.taken c.leave_slot.new.self.out.now) (g.S.Sink.faults c.leave_slot.new.self.out.now) (g.S.Sink.ended c.leave_slot.new.self.out.now) (yard_at (g.Y.Yard.told c.leave_slot.new.self.yard.now) (g.Y.Yard.started c.leave_slot.new.self.yard.now) (counts_at (g.Y.Yard.start_faults c.leave_slot.new.self.yard.now) (g.Y.Yard.read_faults c.leave_slot.new.self.yard.now) (g.Y.Yard.hold_faults c.leave_slot.new.self.yard.now))))
          (into_iter_items c.loop-slot.left) slot rest (inv.leaving pool number first last turns are) steps (λ got put turn. rw inv.clock at (e.untold pool got put turn)) e.scripts;
      files = e.keeps.0 ∙ inv.files;
      out = e.keeps.1 ∙ inv.out;
      yard = e.keeps.2 ∙ inv.yard;
      clock = e.keeps.3 ∙ inv.clock;
    }

pub returns-clause-untold : goal.returns-clause-untold
returns-clause-untold g c = λ pool number first last turns are.
    let inv = c.loop-slot.invariant in
    let none : length (into_iter_items c.loop-slot.left) ≡ 0 = grind (arith, inv.len, c.in_default.ensures.variant, c.in_default.not-Some) in
    leaving_all (back_by g.Y.Bay.Launch.told g.Y.Bay.Launch.start_faults g.Y.Bay.Launch.read_faults g.Y.Bay.Launch.hold_faults) (g.C.Clock.may_read c.args.self.now.clock.now) pool number first last turns (world_at (g.F.Files.told c.args.self.now.files.now) (g.F.Files.faults c.args.self.now.files.now) (g.F.Files.blamed c.args.self.now.files.now) (g.S.Sink.taken c.args.self.now.out.now) (g.S.Sink.faults c.args.self.now.out.now) (g.S.Sink.ended c.args.self.now.out.now) (yard_at (g.Y.Yard.told c.args.self.now.yard.now) (g.Y.Yard.started c.args.self.now.yard.now) (counts_at (g.Y.Yard.start_faults c.args.self.now.yard.now) (g.Y.Yard.read_faults c.args.self.now.yard.now) (g.Y.Yard.hold_faults c.args.self.now.yard.now)))) (world_at (g.F.Files.told c.loop-slot.self.files.now) (g.F.Files.faults c.loop-slot.self.files.now) (g.F.Files.blamed c.loop-slot.self.files.now) (g.S.Sink.taken c.loop-slot.self.out.now) (g.S.Sink.faults c.loop-slot.self.out.now) (g.S.Sink.ended c.loop-slot.self.out.now) (yard_at (g.Y.Yard.told c.loop-slot.self.yard.now) (g.Y.Yard.started c.loop-slot.self.yard.now) (counts_at (g.Y.Yard.start_faults c.loop-slot.self.yard.now) (g.Y.Yard.read_faults c.loop-slot.self.yard.now) (g.Y.Yard.hold_faults c.loop-slot.self.yard.now))))
    (into_iter_items c.loop-slot.left) (inv.leaving pool number first last turns are) (nothing_left _ none)

pub returns-clause-keeps : goal.returns-clause-keeps
returns-clause-keeps g c = let inv = c.loop-slot.invariant in (inv.files, inv.out, inv.yard, inv.clock)
