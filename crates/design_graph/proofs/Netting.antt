-- Bits that connects join reach each other, and are of one net.
use Rattle.std.proofs.Common.{◌≡◌, inl, inr, ℕ, zero, suc, ◌<◌, List, Bool, length, refl, sym, subst, ◌∙◌, arith}
use Rattle.digraph.specs.Graph.{Graph, HasEdge, Walk, Reaches, IsGraph, IsSorted}
use Rattle.digraph.proofs.Lists.{reaches-on, reaches-step, reaches-itself, reaches-edge}
use Rattle.design_core.specs.Shape.{DesignOf, IsDeclared, IsDesign}
use Rattle.design_meaning.specs.Meaning.{IsConnected, Chain}
use Rattle.design_graph.specs.Items.{IsDrivenOnce}
use Rattle.design_core.specs.Places.{place_of}
use Rattle.design_graph.specs.Edges.{IsNetGraph, IsNets, IsOneNet, IsDown, IsUp}
use Rattle.design_signals.specs.declared.sig_bit.SigBit.{SigBit}
use Rattle.design_core.proofs.Places.{place_of-same, place_of-within}
use Rattle.design_graph.proofs.Unique.{one-source}
use Rattle.design_graph.proofs.Declared.{left-declared, right-declared}

pub chain-push : (d : DesignOf) (n : ℕ) (a b c : SigBit) → Chain d n a b → IsConnected d b c → Chain d (suc n) a c
chain-push d zero a b c h e = (c, subst (λ (x : SigBit). IsConnected d x c) (sym h) e, refl)
chain-push d (suc n) a b c h e = (h.0, h.1, chain-push d n h.0 b c h.2 e)

module _ (d : DesignOf) (shape : IsDesign d) where
  pub connected-declared : (a b : SigBit) → IsConnected d a b → IsDeclared d.wires d.free a × IsDeclared d.wires d.free b
  connected-declared a b n = (left-declared d shape n.0 n.2 n.1 a n.3 n.4, right-declared d shape n.0 n.2 n.1 b n.3 n.5)

  pub down-connected : (p q : ℕ) → IsDown d d.connects p q → (a : SigBit) × (b : SigBit) × IsConnected d a b × (p ≡ place_of d a) × (q ≡ place_of d b)
  down-connected p q h = let s = h.3 in (s.1, s.2, (h.0, h.1, s.0, h.2, s.3, s.4), s.5, s.6)

  up-connected : (p q : ℕ) → IsUp d d.connects p q → (a : SigBit) × (b : SigBit) × IsConnected d b a × (p ≡ place_of d a) × (q ≡ place_of d b)
  up-connected p q h = let s = h.3 in (s.1, s.2, (h.0, h.1, s.0, h.2, s.4, s.3), s.5, s.6)

  pub connected-down : (a b : SigBit) → IsConnected d a b → IsDown d d.connects (place_of d a) (place_of d b)
  connected-down a b n = (n.0, n.1, n.3, (n.2, a, b, n.4, n.5, refl, refl))

  connected-up : (a b : SigBit) → IsConnected d b a → IsUp d d.connects (place_of d a) (place_of d b)
  connected-up a b n = (n.0, n.1, n.3, (n.2, a, b, n.5, n.4, refl, refl))

  module _ (g : Graph) (net : IsNetGraph d g) where
    pub IsGraph-nets : IsGraph g
    IsGraph-nets p q e = elim ((net.edges p q).0 e) as (λ _. q < length g) [
      | inl down ↦ let c = down-connected p q down in omega (arith, c.4, net.size, place_of-within d c.1 (connected-declared c.0 c.1 c.2).1)
      | inr up ↦ let c = up-connected p q up in omega (arith, c.4, net.size, place_of-within d c.1 (connected-declared c.1 c.0 c.2).0)
    ]

    down-edge : (a b : SigBit) → IsConnected d a b → HasEdge g (place_of d a) (place_of d b)
    down-edge a b n = (net.edges (place_of d a) (place_of d b)).1 (inl (connected-down a b n))

    up-edge : (a b : SigBit) → IsConnected d b a → HasEdge g (place_of d a) (place_of d b)
    up-edge a b n = (net.edges (place_of d a) (place_of d b)).1 (inr (connected-up a b n))

    chain-reaches : (n : ℕ) (a r : SigBit) → Chain d n a r → Reaches g (place_of d a) (place_of d r)
    chain-reaches zero a r c = subst (λ (x : SigBit). Reaches g (place_of d a) (place_of d x)) c (reaches-itself g (place_of d a))
    chain-reaches (suc n) a r c = reaches-step g (place_of d a) (place_of d c.0) (place_of d r) (down-edge a c.0 c.1) (chain-reaches n c.0 r c.2)

    chain-reached : (n : ℕ) (a r : SigBit) → Chain d n a r → Reaches g (place_of d r) (place_of d a)
    chain-reached zero a r c = subst (λ (x : SigBit). Reaches g (place_of d x) (place_of d a)) c (reaches-itself g (place_of d a))
    chain-reached (suc n) a r c = reaches-edge g (place_of d r) (place_of d c.0) (place_of d a) (chain-reached n c.0 r c.2) (up-edge c.0 a c.1)

    net-reaches : (a b : SigBit) → IsOneNet d a b → Reaches g (place_of d a) (place_of d b)
    net-reaches a b n = reaches-on g (place_of d a) (place_of d n.2) (place_of d b) (chain-reaches n.0 a n.2 n.3) (chain-reached n.1 b n.2 n.4)

    net-back : (a b : SigBit) → IsOneNet d a b → IsOneNet d b a
    net-back a b n = (n.1, n.0, n.2, n.4, n.3)

    module _ (drivers : IsDrivenOnce d) where
      net-down : (a m b : SigBit) → IsConnected d a m → IsOneNet d m b → IsOneNet d a b
      net-down a m b e n = (suc n.0, n.1, n.2, (m, e, n.3), n.4)

      net-up-by : (a m b r : SigBit) (k l : ℕ) → IsConnected d m a → Chain d k m r → Chain d l b r → IsOneNet d a b
      net-up-by a m b r zero l e c f = (0, suc l, a, refl, chain-push d l b m a (subst (λ (x : SigBit). Chain d l b x) (sym c) f) e)
      net-up-by a m b r (suc k) l e c f = (k, l, r, subst (λ (x : SigBit). Chain d k x r) (one-source d drivers m c.0 a c.1 e) c.2, f)

      walk-net : (n p : ℕ) (a b : SigBit) → p ≡ place_of d a → IsDeclared d.wires d.free a → IsDeclared d.wires d.free b → Walk g n p (place_of d b) → IsOneNet d a b
      walk-net zero p a b at da db w = (0, 0, b, place_of-same d a b da db (sym at ∙ w), refl)
      walk-net (suc n) p a b at da db w = elim ((net.edges p w.0).0 w.1) as (λ _. IsOneNet d a b) [
        | inl down ↦
            let c = down-connected p w.0 down in
            let ends = connected-declared c.0 c.1 c.2 in
            let same : c.0 ≡ a = place_of-same d c.0 a ends.0 da (sym c.3 ∙ at) in
            net-down a c.1 b (subst (λ (x : SigBit). IsConnected d x c.1) same c.2) (walk-net n w.0 c.1 b c.4 ends.1 db w.2)
        | inr up ↦
            let c = up-connected p w.0 up in
            let ends = connected-declared c.1 c.0 c.2 in
            let same : c.0 ≡ a = place_of-same d c.0 a ends.1 da (sym c.3 ∙ at) in
            let next = walk-net n w.0 c.1 b c.4 ends.0 db w.2 in
            net-up-by a c.1 b next.2 next.0 next.1 (subst (λ (x : SigBit). IsConnected d c.1 x) same c.2) next.3 next.4
      ]

      pub IsNets-sorted : (order : List ℕ) (cyclic : List Bool) (leaders : List ℕ) → IsSorted g order cyclic leaders → IsNets d leaders
      IsNets-sorted order cyclic leaders s = record {
        size = s.led ∙ net.size;
        within = λ p l h. let lt = s.led_within p l h in omega (arith, lt, net.size);
        nets = λ a b da db.
            let la : place_of d a < length g = omega (arith, net.size, place_of-within d a da) in
            let lb : place_of d b < length g = omega (arith, net.size, place_of-within d b db) in
            let parts = s.parts (place_of d a) (place_of d b) la lb in (
              λ e. let r = (parts.0 e).0 in walk-net r.0 (place_of d a) a b refl da db r.1,
              λ n. parts.1 (net-reaches a b n, net-reaches b a (net-back a b n)),
            );
      }
