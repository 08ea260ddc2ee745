-- The register's rows and state bits stand after those of the others, and what stood before stays.
use Rattle.std.proofs.Common.{◌≡◌, ◌++◌, refl, arith, length}
use Rattle.model_core.proofs.Keeping.{kept_register, nodes_stay, pushed_register}
use Rattle.model_core.proofs.draft.Draft.push_register.Goals as goal

pub invariant_of-self-2 : goal.invariant_of-self-2
invariant_of-self-2 c =
    let e2 = c.in_ok-extend_from_slice-2.ensures.items in
    let e1 = c.in_ok-extend_from_slice.ensures.items in
    let s2 = c.in_ok-extend_from_slice-4.ensures.items in
    let s1 = c.in_ok-try_reserve.ensures.items in
    let e : c.extend_from_slice-2.new.self.items ≡ (c.self.inside.places.items ++ c.args.d.now) ++ c.args.value.now = cc in
    let s : c.extend_from_slice-4.new.self.items ≡ c.self.inside.states.items ++ c.args.q.now = cc in
    let at : c.len-first.result ≡ length c.self.inside.places.items = omega (arith, c.self.inside.places.ok.0) in
    let bit : c.len-state.result ≡ length c.self.inside.states.items = omega (arith, c.self.inside.states.ok.0) in
    kept_register c.args.enable c.args.reset c.args.reset_first _ _ _ _ _ _ _ _ _ _ _ _ _ c.requires.d c.requires.value e s at bit refl c.in_ok-push.ensures.items c.self.invariant

pub returns : goal.returns
returns c =
    let e2 = c.in_ok-extend_from_slice-2.ensures.items in
    let e1 = c.in_ok-extend_from_slice.ensures.items in
    let s2 = c.in_ok-extend_from_slice-4.ensures.items in
    let s1 = c.in_ok-try_reserve.ensures.items in
    let z = c.in_ok-extend_from_slice-3.ensures.items in
    let e : c.extend_from_slice-2.new.self.items ≡ (c.self.inside.places.items ++ c.args.d.now) ++ c.args.value.now = cc in
    let s : c.extend_from_slice-4.new.self.items ≡ c.self.inside.states.items ++ c.args.q.now = cc in
    let at : c.len-first.result ≡ length c.self.inside.places.items = omega (arith, c.self.inside.places.ok.0) in
    let bit : c.len-state.result ≡ length c.self.inside.states.items = omega (arith, c.self.inside.states.ok.0) in
    let r = pushed_register c.args.enable c.args.reset c.args.reset_first _ _ _ _ _ _ _ _ _ _ _ _ c.requires.d c.requires.value e s at bit refl c.in_ok-push.ensures.items c.self.invariant.registers_inside in
    let n = nodes_stay _ _ _ _ _ e c.self.invariant.nodes_inside in
    rw (← c.self.view_is) (cc (n, r, z))
