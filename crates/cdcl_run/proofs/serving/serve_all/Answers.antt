use Rattle.std.proofs.Common.{[], ◌∷◌, ◌++◌, ◌+◌, ◌∙◌, Err, sym, ap, length-append}
use Rattle.std.proofs.lemmas.Result.{err_from_is_err_and}
use Rattle.cdcl_run.specs.Serving.{DoorOf, opened}
use Rattle.cdcl_run.proofs.Connections.{exit_push, passed_push, unopened}
use Rattle.cdcl_run.proofs.serving.serve_all.Goals as goal

pub returns-in_err-listen : goal.returns-in_err-listen
returns-in_err-listen g c =
    let before : DoorOf = record { listens_at = g.D.Door.listens_at c.args.door.now; coming = g.D.Door.coming c.args.door.now; came_back = g.D.Door.came_back c.args.door.now; backs = g.D.Door.backs c.args.door.now; faults = g.D.Door.faults c.args.door.now } in
    let after : DoorOf = record { listens_at = g.D.Door.listens_at c.listen.new.self; coming = g.D.Door.coming c.listen.new.self; came_back = g.D.Door.came_back c.listen.new.self; backs = g.D.Door.backs c.listen.new.self; faults = g.D.Door.faults c.listen.new.self } in
    let e = c.in_err-listen.ensures in
    let p = err_from_is_err_and c.from_residual.result c.from_residual.ensures.1 in
    rw (p.1, p.2) (unopened before after c.args.address.now c.args.count c.in_err-listen.field-0.0 e.refused e.coming e.came_back e.backs (λ h. e.cause.failed (ap Err h)) (λ h. e.cause.memory (ap Err h)))

pub loop-preserved : goal.loop-preserved
loop-preserved g c =
    let first : DoorOf = record { listens_at = g.D.Door.listens_at c.args.door.now; coming = g.D.Door.coming c.args.door.now; came_back = g.D.Door.came_back c.args.door.now; backs = g.D.Door.backs c.args.door.now; faults = g.D.Door.faults c.args.door.now } in
    let middle : DoorOf = record { listens_at = g.D.Door.listens_at c.loop.door; coming = g.D.Door.coming c.loop.door; came_back = g.D.Door.came_back c.loop.door; backs = g.D.Door.backs c.loop.door; faults = g.D.Door.faults c.loop.door } in
    let now : DoorOf = record { listens_at = g.D.Door.listens_at c.serve_next.new.door; coming = g.D.Door.coming c.serve_next.new.door; came_back = g.D.Door.came_back c.serve_next.new.door; backs = g.D.Door.backs c.serve_next.new.door; faults = g.D.Door.faults c.serve_next.new.door } in
    let i = c.loop.invariant in
    let p = c.in_ok-served.ensures.passes in
    let s = c.status_after-status.ensures in (
      i.0 ++ p.0 ∷ [],
      length-append i.0 (p.0 ∷ []) ∙ ap (λ n. n + 1) i.1,
      passed_push (opened c.args.address.now first) middle now i.0 p.0 i.2 p.2,
      exit_push i.0 p.0 c.loop.status c.status_after-status.result (λ h. s.memory (sym p.1 ∙ h)) (λ h. s.other (λ k. h (p.1 ∙ k))) i.3,
    )
