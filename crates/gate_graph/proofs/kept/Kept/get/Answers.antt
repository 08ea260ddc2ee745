use Rattle.std.proofs.Common.{◌≡◌, ◌<◌, ◌-◌, ◌∙◌, ℕ, List, length, ap, refl, subst, sym, arith}
use Rattle.std.specs.Prelude.{Contains}
use Rattle.std.proofs.lemmas.Option.{slice_get_read}
use Rattle.cnf_form.specs.Cnf.{LitOf}
use Rattle.gate_graph.specs.declared.gate.Gate.{Gate}
use Rattle.gate_graph.specs.Places.{IsLink, place_of}
use Rattle.gate_graph.proofs.Equal.{exact, other}
use Rattle.gate_graph.proofs.Linking.{ahead_first, ahead_next, ahead_none, chain_at, contained_at}
use Rattle.gate_graph.proofs.kept.Kept.get.Goals as goal

pub links-init : goal.links-init
links-init c =
    let hs = c.self.inside.heads.items in
    let es = c.self.inside.entries.items in
    let n : c.len.result ≡ length hs = c.len.ensures ∙ c.self.inside.heads.ok.0 in
    let h = c.place_of.ensures.inside in
    let at = slice_get_read hs (length hs) c.place_of.result c.index-link.result.now refl (omega arith) c.index-link.ensures in
    let p : c.place_of.result ≡ place_of (length hs) c.args.gate.now = c.place_of.ensures.place ∙ ap (λ (k : ℕ). place_of k c.args.gate.now) n in
    ahead_first (place_of (length hs)) es c.args.gate.now c.index-link.result.now
    (subst (λ (q : ℕ). IsLink (place_of (length hs)) es (length es) q c.index-link.result.now) p (c.self.invariant.linked.at_heads c.place_of.result c.index-link.result.now at))

pub returns-then-eq-clause-found : goal.returns-then-eq-clause-found
returns-then-eq-clause-found c =
    let es = c.self.inside.entries.items in
    let e = c.index.result.now in
    let b = c.links.invariant.below in
    let t = c.links-test.true in
    let at = slice_get_read es (length es) (c.links.link - 1) e refl (omega arith) c.index.ensures in
    let g : e.0 ≡ c.args.gate.now = exact e.0 c.args.gate.now (sym c.eq.ensures ∙ c.if-eq.true) in
    subst (λ (xs : List (Gate × LitOf)). Contains xs (c.args.gate.now, e.1)) c.self.view_is (subst (λ (k : Gate). Contains es (k, e.1)) g (contained_at es e (c.links.link - 1) at))

pub links-smaller : goal.links-smaller
links-smaller c =
    let es = c.self.inside.entries.items in
    let e = c.index.result.now in
    let b = c.links.invariant.below in
    let t = c.links-test.true in
    let h : c.links.link - 1 < length es = omega arith in
    let at = slice_get_read es (length es) (c.links.link - 1) e refl h c.index.ensures in
    let s = (chain_at c.self.inside.heads.items c.self.inside.links.items es c.self.invariant (c.links.link - 1) c.index-link-in-links.result.now e h at c.index-link-in-links.ensures).below in
    omega arith

pub links-preserved : goal.links-preserved
links-preserved c =
    let es = c.self.inside.entries.items in
    let e = c.index.result.now in
    let b = c.links.invariant.below in
    let t = c.links-test.true in
    let h : c.links.link - 1 < length es = omega arith in
    let at = slice_get_read es (length es) (c.links.link - 1) e refl h c.index.ensures in
    ahead_next (place_of (length c.self.inside.heads.items)) es c.args.gate.now e.0 e.1 (c.links.link - 1) c.links.link c.index-link-in-links.result.now (omega arith) at
    (other e.0 c.args.gate.now (sym c.eq.ensures ∙ c.if-eq.false))
    (chain_at c.self.inside.heads.items c.self.inside.links.items es c.self.invariant (c.links.link - 1) c.index-link-in-links.result.now e h at c.index-link-in-links.ensures) c.links.invariant

pub returns-clause-missing : goal.returns-clause-missing
returns-clause-missing c = λ l h. let f = c.links-test.false in
    ahead_none (place_of (length c.self.inside.heads.items)) c.self.inside.entries.items c.args.gate.now c.links.link (omega arith) c.links.invariant l
    (subst (λ (xs : List (Gate × LitOf)). Contains xs (c.args.gate.now, l)) (sym c.self.view_is) h)
