use Rattle.std.proofs.Common.{[], ◌∷◌, ◌++◌, ◌∙◌, refl, sym, ap, subst}
use Rattle.std.specs.Prelude.{option_map}
use Rattle.sby_edge.specs.Cause.{counted}
use Rattle.net_link.specs.Doors.{Comes, returned}
use Rattle.cdcl_run.specs.Serving.{Connection}
use Rattle.cdcl_run.proofs.Connections.{stands_as}
use Rattle.cdcl_run.proofs.serving.serve_next.Goals as goal

pub returns-in-Ok-clause-passes : goal.returns-in-Ok-clause-passes
returns-in-Ok-clause-passes g c =
    let first = c.in_ok-link.link in
    let last = c.serve_conn-link.result.0 in
    let e = c.in_ok-link.ensures in
    let s = c.serve_conn-link.ensures in
    let request = g.D.Link.Link.left first in
    let written = g.D.Link.Link.written last in
    let connection : Connection = record { request = request; served = c.serve_conn-link.result.1; back = returned written (g.D.Link.Link.faults last) } in (
      connection,
      refl,
      record {
        comes = subst (λ now. Comes (g.D.Door.coming c.args.door.now) now request) (sym c.back.ensures.coming) e.comes;
        stands = stands_as connection.served request written (g.D.Link.Link.faults first) (g.D.Link.Link.faults last) e.fresh s.answered s.bad_frame s.failed;
        came_back = c.in-Ok.ensures.came_back ∙ ap (option_map (λ all. all ++ connection.back ∷ [])) e.came_back;
        backs = c.in-Ok.ensures.backs ∙ ap counted e.backs;
        faults = c.back.ensures.faults ∙ e.cause.ok refl;
        listens = c.back.ensures.listens ∙ e.listens;
      },
    )
