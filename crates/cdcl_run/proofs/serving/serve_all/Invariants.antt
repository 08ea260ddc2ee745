use Rattle.std.proofs.Common.{◌≡◌, List, length}
use Rattle.cdcl_run.specs.Serving.{Connection, DoorOf, IsExitOf, Passed, opened}
use Rattle.cdcl_run.proofs.serving.serve_all.Given as goal

abbrev pub invariant-loop : goal.invariant-loop
invariant-loop g l =
    let first : DoorOf = record { listens_at = g.D.Door.listens_at l.fn.door; coming = g.D.Door.coming l.fn.door; came_back = g.D.Door.came_back l.fn.door; backs = g.D.Door.backs l.fn.door; faults = g.D.Door.faults l.fn.door } in
    let now : DoorOf = record { listens_at = g.D.Door.listens_at l.door; coming = g.D.Door.coming l.door; came_back = g.D.Door.came_back l.door; backs = g.D.Door.backs l.door; faults = g.D.Door.faults l.door } in
    (cs : List Connection) × (length cs ≡ l.counter) × Passed (opened l.fn.address first) now cs × IsExitOf cs l.status
