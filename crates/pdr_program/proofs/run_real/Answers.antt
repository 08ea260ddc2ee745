use Rattle.std.proofs.Common.{subst, map, string_bytes, ℕ, List}
use Rattle.cdcl_run.specs.Run.{World}
use Rattle.pdr_run.specs.Run.{Did}
use Rattle.pdr_program.specs.Program.{untold}
use Rattle.pdr_program.proofs.run_real.Goals as goal

pub returns : goal.returns
returns c =
    let d = c.run_pdr.ensures.did in
    let words : List (List ℕ) = map string_bytes c.args.words.now in
    let exit = c.run_pdr.result in
    let after : World = untold c.run_pdr.new.files.faults c.run_pdr.new.sink.faults in
    let zero : Did (untold 0 c.new-sink.result.faults) after words exit = subst (λ n. Did (untold n c.new-sink.result.faults) after words exit) c.new-files.ensures.faults d in
    (c.run_pdr.new.files.faults, c.run_pdr.new.sink.faults, subst (λ n. Did (untold 0 n) after words exit) c.new-sink.ensures zero)
