use Rattle.std.proofs.Common.{◌≡◌, ◌∷◌, [], rules}
use Rattle.std.specs.Prelude.{None}
use Rattle.sby_top.specs.Turns.{turn_seen}
use Rattle.sby_top.proofs.TurnLemmas.{no_ends, one_ran}
use Rattle.sby_top.proofs.host.Host.run_one.Goals as goal

pub returns-in-Err-clause-ran : goal.returns-in-Err-clause-ran
returns-in-Err-clause-ran g c = no_ends None (g.C.Clock.may_read c.args.self.now.clock.now) _ (turn_seen c.args.turn) [] c.out_of_memory.result c.out_of_memory.ensures.rc c.out_of_memory.ensures.ends

pub returns-clause-ran : goal.returns-clause-ran
returns-clause-ran g c =
    let pushed : c.push.new.self.items ≡ c.run_turn-end.result.0 ∷ [] = search rules in
    one_ran (g.C.Clock.may_read c.args.self.now.clock.now) _ _ (turn_seen c.args.turn) c.run_turn-end.result.0 _ (record { rc = c.rc_of_exit.result; ends = c.push.new.self }) c.run_turn-end.ensures.had c.rc_of_exit.ensures pushed
