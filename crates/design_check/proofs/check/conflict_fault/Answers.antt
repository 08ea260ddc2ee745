use Rattle.std.specs.Prelude.{string_bytes}
use Rattle.design_graph.specs.declared.item.Item.TheVariants.{Cell}
use Rattle.design_check.specs.Faults.{Bit}
use Rattle.design_check.specs.declared.fault.FaultKind.TheVariants.{InitConflict}
use Rattle.design_check.proofs.Placing.{conflicts-first, conflicts-none}
use Rattle.design_check.proofs.Verdict.{clean-more, fault-first}
use Rattle.design_check.proofs.check.conflict_fault.Goals as goal

pub returns-in_ok-name-in-Some : goal.returns-in_ok-name-in-Some
returns-in_ok-name-in-Some c =
    let d = c.args.design.now in
    let f = c.in-Some.ensures in
    let first = conflicts-first d c.in-Some.place c.in-Some.bit f in
    fault-first d InitConflict (Bit (Cell c.in-Some.place) f.place) (string_bytes c.in_ok-name-in-Some.name) c.requires.clean first.1 (c.in-Some.bit, first.0, c.in_ok-name-in-Some.ensures)

pub returns-in-None : goal.returns-in-None
returns-in-None c = clean-more c.args.design.now InitConflict c.requires.clean (conflicts-none c.args.design.now c.in-None.ensures)
