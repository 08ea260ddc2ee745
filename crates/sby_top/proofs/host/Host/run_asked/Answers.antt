use Rattle.std.proofs.Common.{◌≡◌, ◌∷◌, ◌++◌, [], inl, length, refl, rules, arith}
use Rattle.sby_top.specs.Turns.{turn_seen}
use Rattle.sby_top.proofs.TurnLemmas.{seen_code, seen_cut}
use Rattle.sby_top.proofs.host.Host.run_asked.Goals as goal

pub returns-in-Code-clause-asked : goal.returns-in-Code-clause-asked
returns-in-Code-clause-asked g c =
    let pushed : c.push.new.self.items ≡ c.args.done.now.ends.items ++ c.run_turn-end.result.0 ∷ [] = search rules in
    let same : c.in-Ok-Ok.number ≡ length c.args.done.now.ends.items = omega (arith, c.in-Ok-Ok.ensures, c.len.ensures) in (
      turn_seen c.in-Ok-Ok.turn,
      c.run_turn-end.result.0,
      c.in-Code.rc,
      c.in-Ok-Ok.ensures'.turn,
      seen_code (g.C.Clock.may_read c.args.self.now.clock.now) c.in-Ok-Ok.number (length c.args.done.now.ends.items) _ _ (turn_seen c.in-Ok-Ok.turn) c.run_turn-end.result.0
          c.run_turn-end.result.1 c.in-Code.rc same c.in-Code.is c.run_turn-end.ensures.had,
      refl,
      pushed,
    )

pub returns-in-Cut-clause-asked : goal.returns-in-Cut-clause-asked
returns-in-Cut-clause-asked g c =
    let pushed : c.push.new.self.items ≡ c.args.done.now.ends.items ++ c.run_turn-end.result.0 ∷ [] = search rules in
    let same : c.in-Ok-Ok.number ≡ length c.args.done.now.ends.items = omega (arith, c.in-Ok-Ok.ensures, c.len.ensures) in
    inl (
      turn_seen c.in-Ok-Ok.turn,
      c.run_turn-end.result.0,
      c.in-Ok-Ok.ensures'.turn,
      seen_cut (g.C.Clock.may_read c.args.self.now.clock.now) c.in-Ok-Ok.number (length c.args.done.now.ends.items) _ _ (turn_seen c.in-Ok-Ok.turn) c.run_turn-end.result.0
          c.run_turn-end.result.1 same c.in-Cut.is c.run_turn-end.ensures.had,
      refl,
      pushed,
    )
