use Rattle.std.proofs.Common.{◌∙◌, ap, arith, map, take, drop, ◌+◌}
use Rattle.std.specs.Prelude.{None, false, true, Some, option_map, string_bytes}
use Rattle.std.proofs.lemmas.List.{length-map, take_all}
use Rattle.design_core.proofs.Lists.{item_at}
use Rattle.sby_top.proofs.TurnLemmas.{ask_at, asked_names, asked_next, asked_split, ends_more, had_all_at, had_last_at, had_more_at, none_asked}
use Rattle.sby_top.proofs.host.Host.run_in_turn.Goals as goal

pub returns-in-Err-clause-ran : goal.returns-in-Err-clause-ran
returns-in-Err-clause-ran g c = none_asked None (g.C.Clock.may_read c.args.self.now.clock.now) _ c.args.book.now.stem.now (option_map (λ s. s.now) c.args.book.now.directory) c.args.book.now.config.now (asked_names c.args.names.now) c.out_of_memory.result
    (omega (arith, c.requires, length-map (map string_bytes c.args.names.now) (λ x. Some x), length-map c.args.names.now string_bytes)) c.out_of_memory.ensures.rc c.out_of_memory.ensures.ends

pub returns-then-not-run_asked-clause-ran : goal.returns-then-not-run_asked-clause-ran
returns-then-not-run_asked-clause-ran g c =
    let at = item_at c.args.names.now c.loop-name.name-index c.name-item.result c.name-item.is c.loop-name-test.true in
    had_last_at (g.C.Clock.may_read c.args.self.now.clock.now) _ _ _ c.args.book.now.stem.now (option_map (λ s. s.now) c.args.book.now.directory) c.args.book.now.config.now (asked_names (take c.loop-name.name-index c.args.names.now)) (asked_names (drop (c.loop-name.name-index + 1) c.args.names.now))
    (asked_names c.args.names.now)
    (Some (string_bytes c.name-item.result)) c.loop-name.done c.run_asked.new.done (asked_split c.args.names.now c.loop-name.name-index c.name-item.result at) c.loop-name.invariant.had
    (ask_at (g.C.Clock.may_read c.args.self.now.clock.now) _ _ c.args.book.now.stem.now (option_map (λ s. s.now) c.args.book.now.directory) c.args.book.now.config.now c.as_str.result.now (string_bytes c.name-item.result) c.loop-name.done c.run_asked.new.done c.run_asked.result false c.if-not-run_asked.true c.as_str.ensures.value (rw c.loop-name.invariant.clock at c.run_asked.ensures.asked))

pub loop-name-preserved : goal.loop-name-preserved
loop-name-preserved g c =
    let at = item_at c.args.names.now c.loop-name.name-index c.name-item.result c.name-item.is c.loop-name-test.true in
    let is = ask_at (g.C.Clock.may_read c.args.self.now.clock.now) _ _ c.args.book.now.stem.now (option_map (λ s. s.now) c.args.book.now.directory) c.args.book.now.config.now c.as_str.result.now (string_bytes c.name-item.result) c.loop-name.done c.run_asked.new.done c.run_asked.result true c.if-not-run_asked.false c.as_str.ensures.value (rw c.loop-name.invariant.clock at c.run_asked.ensures.asked) in
    let count = ends_more (g.C.Clock.may_read c.args.self.now.clock.now) _ _ c.args.book.now.stem.now (option_map (λ s. s.now) c.args.book.now.directory) c.args.book.now.config.now (Some (string_bytes c.name-item.result)) c.loop-name.done c.run_asked.new.done is in
    record {
      had = had_more_at (g.C.Clock.may_read c.args.self.now.clock.now) _ _ _ c.args.book.now.stem.now (option_map (λ s. s.now) c.args.book.now.directory) c.args.book.now.config.now (asked_names (take c.loop-name.name-index c.args.names.now)) (asked_names (take (c.loop-name.name-index + 1) c.args.names.now))
          (Some (string_bytes c.name-item.result)) c.loop-name.done c.run_asked.new.done (asked_next c.args.names.now c.loop-name.name-index c.name-item.result at) c.loop-name.invariant.had is;
      room = omega (arith, c.loop-name.invariant.room, c.run_asked.ensures.room);
      count = omega (arith, count, c.loop-name.invariant.count);
      files = c.run_asked.ensures.keeps.0 ∙ c.loop-name.invariant.files;
      out = c.run_asked.ensures.keeps.1 ∙ c.loop-name.invariant.out;
      yard = c.run_asked.ensures.keeps.2 ∙ c.loop-name.invariant.yard;
      clock = c.run_asked.ensures.keeps.3 ∙ c.loop-name.invariant.clock;
    }

pub returns-clause-ran : goal.returns-clause-ran
returns-clause-ran g c = had_all_at (g.C.Clock.may_read c.args.self.now.clock.now) _ _ c.args.book.now.stem.now (option_map (λ s. s.now) c.args.book.now.directory) c.args.book.now.config.now (asked_names (take c.loop-name.name-index c.args.names.now)) (asked_names c.args.names.now) c.loop-name.done
    (ap asked_names (take_all c.loop-name.name-index c.args.names.now c.loop-name-test.false)) c.loop-name.invariant.had

pub returns-then-not-run_asked-clause-keeps : goal.returns-then-not-run_asked-clause-keeps
returns-then-not-run_asked-clause-keeps g c = (
  c.run_asked.ensures.keeps.0 ∙ c.loop-name.invariant.files,
  c.run_asked.ensures.keeps.1 ∙ c.loop-name.invariant.out,
  c.run_asked.ensures.keeps.2 ∙ c.loop-name.invariant.yard,
  c.run_asked.ensures.keeps.3 ∙ c.loop-name.invariant.clock,
)

pub returns-clause-keeps : goal.returns-clause-keeps
returns-clause-keeps g c = (c.loop-name.invariant.files, c.loop-name.invariant.out, c.loop-name.invariant.yard, c.loop-name.invariant.clock)
