-- The node's rows stand after those of the others, and what stood before stays.
use Rattle.std.proofs.Common.{◌≡◌, ◌++◌, refl, arith, length}
use Rattle.model_core.proofs.Keeping.{pushed_node, registers_stay}
use Rattle.model_core.proofs.draft.Draft.push_node.Goals as goal

pub returns : goal.returns
returns c =
    let e4 = c.in_ok-extend_from_slice-4.ensures.items in
    let e3 = c.in_ok-extend_from_slice-3.ensures.items in
    let e2 = c.in_ok-extend_from_slice-2.ensures.items in
    let e1 = c.in_ok-extend_from_slice.ensures.items in
    let e : c.extend_from_slice-4.new.self.items ≡ (((c.self.inside.places.items ++ c.args.a.now) ++ c.args.b.now) ++ c.args.s.now) ++ c.args.y.now = cc in
    let at : c.len-first.result ≡ length c.self.inside.places.items = omega (arith, c.self.inside.places.ok.0) in
    let n = pushed_node c.args.op _ _ _ _ _ _ _ _ _ _ _ _ _ e at refl refl refl refl c.in_ok-push.ensures.items c.self.invariant.nodes_inside in
    let r = registers_stay _ _ _ _ _ _ _ _ e c.self.invariant.registers_inside in
    rw (← c.self.view_is) (cc (n, r))
