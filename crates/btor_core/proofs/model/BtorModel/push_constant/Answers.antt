use Rattle.std.proofs.Common.{◌<◌, ◌≡◌, length, refl, sym, subst, arith}
use Rattle.std.specs.Prelude.{All}
use Rattle.btor_core.specs.Shape.{BtorOf, sort_at}
use Rattle.btor_core.specs.declared.line.Line.{Line}
use Rattle.btor_core.proofs.Fitting.{btor_push_constant}
use Rattle.btor_core.proofs.model.BtorModel.push_constant.Goals as goal

pub invariant_of-self-in-Ok : goal.invariant_of-self-in-Ok
invariant_of-self-in-Ok c =
    let bits = c.args.bits.now in
    let rises = subst (λ (m : BtorOf). All (λ (k : Line). k.nid < c.args.nid) m.lines) (sym c.self.view_is) c.requires.rises in
    let sort = subst (λ (m : BtorOf). sort_at m.lines c.args.sort ≡ length bits) (sym c.self.view_is) c.requires.sort in
    let start : c.len-start.result ≡ length c.self.inside.constants.items = (let ok = c.self.inside.constants.ok.0 in omega (arith, c.len-start.ensures)) in
    rw (c.in-Ok.ensures.items, c.in_ok-extend_from_slice.ensures.items)
    (btor_push_constant c.self.inside.constants.items bits c.self.inside.lines.items c.args.nid c.args.sort (length bits) c.len-start.result c.self.invariant c.requires.some c.requires.limit rises refl c.requires.width sort start)
