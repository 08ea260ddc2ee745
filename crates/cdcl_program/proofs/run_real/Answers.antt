use Rattle.std.proofs.Common.{subst, map, string_bytes, ℕ, List}
use Rattle.cdcl_run.specs.Run.{World}
use Rattle.cdcl_run.specs.Serving.{DoorOf, Ran}
use Rattle.cdcl_program.specs.Program.{untold, untold_door}
use Rattle.cdcl_program.proofs.run_real.Goals as goal

pub returns : goal.returns
returns c =
    let words : List (List ℕ) = map string_bytes c.args.words.now in
    let exit = c.run_engine.result in
    let after : World = untold c.run_engine.new.files.faults c.run_engine.new.sink.faults in
    let door : DoorOf = untold_door c.run_engine.new.door.backs c.run_engine.new.door.faults in
    let files = subst (λ n. Ran (untold n c.new-sink.result.faults) after (untold_door c.new-door.result.backs c.new-door.result.faults) door words exit) c.new-files.ensures.faults c.run_engine.ensures.ran in
    let sink = subst (λ n. Ran (untold 0 n) after (untold_door c.new-door.result.backs c.new-door.result.faults) door words exit) c.new-sink.ensures files in
    let backs = subst (λ n. Ran (untold 0 0) after (untold_door n c.new-door.result.faults) door words exit) c.new-door.ensures.0 sink in
    let faults = subst (λ n. Ran (untold 0 0) after (untold_door 0 n) door words exit) c.new-door.ensures.1 backs in
    (c.run_engine.new.files.faults, c.run_engine.new.sink.faults, c.run_engine.new.door.backs, c.run_engine.new.door.faults, faults)
