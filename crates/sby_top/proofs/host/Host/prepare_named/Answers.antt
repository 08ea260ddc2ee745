use Rattle.std.proofs.Common.{◌∙◌, ap, arith, drop, length, refl, take, ◌+◌}
use Rattle.std.specs.Prelude.{option_map, string_bytes}
use Rattle.std.proofs.lemmas.List.{take_all}
use Rattle.design_core.proofs.Lists.{item_at}
use Rattle.sby_top.specs.Ready.{back_by}
use Rattle.sby_top.proofs.SlottedLemmas.{slotted_all_at, slotted_last_at, slotted_more_at, slotted_none}
use Rattle.sby_top.proofs.TurnLemmas.{asked_names, asked_next, asked_split}
use Rattle.sby_top.proofs.host.Host.prepare_named.Goals as goal

pub loop-name-init : goal.loop-name-init
loop-name-init g c = record {
  slotted = λ pool is. slotted_none (back_by g.Y.Bay.Launch.told g.Y.Bay.Launch.start_faults g.Y.Bay.Launch.read_faults g.Y.Bay.Launch.hold_faults) (g.C.Clock.may_read c.args.self.now.clock.now) pool _ c.args.book.now.stem.now (option_map (λ s. s.now) c.args.book.now.directory) c.args.book.now.config.now c.args.slots.now.items c.requires.fresh;
  room = c.requires.room;
  count = let none = ap length c.requires.fresh in omega (arith, none);
  allowance = refl;
  files = refl;
  out = refl;
  yard = refl;
  clock = refl;
}

pub returns-then-not-prepare_asked-clause-slotted : goal.returns-then-not-prepare_asked-clause-slotted
returns-then-not-prepare_asked-clause-slotted g c = λ pool is.
    let inv = c.loop-name.invariant in
    let at = item_at c.args.names.now c.loop-name.name-index c.name-item.result c.name-item.is c.loop-name-test.true in
    slotted_last_at (back_by g.Y.Bay.Launch.told g.Y.Bay.Launch.start_faults g.Y.Bay.Launch.read_faults g.Y.Bay.Launch.hold_faults) (g.C.Clock.may_read c.args.self.now.clock.now) pool _ _ _ c.args.book.now.stem.now (option_map (λ s. s.now) c.args.book.now.directory) c.args.book.now.config.now (asked_names (take c.loop-name.name-index c.args.names.now)) (asked_names (drop (c.loop-name.name-index + 1) c.args.names.now))
    (asked_names c.args.names.now) c.as_str.result.now (string_bytes c.name-item.result) c.loop-name.slots.items c.prepare_asked.new.slots.items c.prepare_asked.result (asked_split c.args.names.now c.loop-name.name-index c.name-item.result at)
    c.if-not-prepare_asked.true c.as_str.ensures.value (inv.slotted pool is) (rw inv.clock at (c.prepare_asked.ensures.slotted pool (inv.allowance ∙ is)))

pub loop-name-preserved : goal.loop-name-preserved
loop-name-preserved g c =
    let inv = c.loop-name.invariant in
    let at = item_at c.args.names.now c.loop-name.name-index c.name-item.result c.name-item.is c.loop-name-test.true in
    let keeps = c.prepare_asked.ensures.keeps in
    record {
      slotted = λ pool is. slotted_more_at (back_by g.Y.Bay.Launch.told g.Y.Bay.Launch.start_faults g.Y.Bay.Launch.read_faults g.Y.Bay.Launch.hold_faults) (g.C.Clock.may_read c.args.self.now.clock.now) pool _ _ _ c.args.book.now.stem.now (option_map (λ s. s.now) c.args.book.now.directory) c.args.book.now.config.now (asked_names (take c.loop-name.name-index c.args.names.now)) (asked_names (take (c.loop-name.name-index + 1) c.args.names.now))
          c.as_str.result.now (string_bytes c.name-item.result) c.loop-name.slots.items c.prepare_asked.new.slots.items c.prepare_asked.result (asked_next c.args.names.now c.loop-name.name-index c.name-item.result at)
          c.if-not-prepare_asked.false c.as_str.ensures.value (inv.slotted pool is) (rw inv.clock at (c.prepare_asked.ensures.slotted pool (inv.allowance ∙ is)));
      room = omega (arith, inv.room, c.prepare_asked.ensures.room);
      count = let most = c.prepare_asked.ensures.count in omega (arith, most, inv.count);
      allowance = c.prepare_asked.ensures.allowance ∙ inv.allowance;
      files = keeps.0 ∙ inv.files;
      out = keeps.1 ∙ inv.out;
      yard = keeps.2 ∙ inv.yard;
      clock = keeps.3 ∙ inv.clock;
    }

pub returns-clause-slotted : goal.returns-clause-slotted
returns-clause-slotted g c = λ pool is.
    slotted_all_at (back_by g.Y.Bay.Launch.told g.Y.Bay.Launch.start_faults g.Y.Bay.Launch.read_faults g.Y.Bay.Launch.hold_faults) (g.C.Clock.may_read c.args.self.now.clock.now) pool _ _ c.args.book.now.stem.now (option_map (λ s. s.now) c.args.book.now.directory) c.args.book.now.config.now (asked_names (take c.loop-name.name-index c.args.names.now)) (asked_names c.args.names.now) c.loop-name.slots.items
    (ap asked_names (take_all c.loop-name.name-index c.args.names.now c.loop-name-test.false)) (c.loop-name.invariant.slotted pool is)

pub returns-then-not-prepare_asked-clause-keeps : goal.returns-then-not-prepare_asked-clause-keeps
returns-then-not-prepare_asked-clause-keeps g c = let inv = c.loop-name.invariant in let keeps = c.prepare_asked.ensures.keeps in (keeps.0 ∙ inv.files, keeps.1 ∙ inv.out, keeps.2 ∙ inv.yard, keeps.3 ∙ inv.clock)

pub returns-clause-keeps : goal.returns-clause-keeps
returns-clause-keeps g c = let inv = c.loop-name.invariant in (inv.files, inv.out, inv.yard, inv.clock)
