use Rattle.std.proofs.Common.{◌≡◌, ◌⊎◌, ◌+◌, ◌<◌, inl, inr, arith}
use Rattle.std.proofs.lemmas.Bool.{cases_lt}
use Rattle.digraph.proofs.Growing.{Extends-as, Extends-more, Extends-same}
use Rattle.design_lower.proofs.starts.add_back.Goals as goal

pub loop-place-init : goal.loop-place-init
loop-place-init c = Extends-same c.args.graph.now (λ p q. (p < 0) × (q ≡ c.args.root)) (λ p q h. absurd (omega (arith, h.0)))

pub add_edge-requires : goal.add_edge-requires
add_edge-requires c = omega (arith, c.requires, c.loop-place.invariant.size, c.loop-place-test.true)

pub loop-place-preserved : goal.loop-place-preserved
loop-place-preserved c =
    Extends-more c.args.graph.now c.loop-place.graph c.add_edge.new.graph (λ p q. (p < c.loop-place.place) × (q ≡ c.args.root)) (λ p q. (p ≡ c.loop-place.place) × (q ≡ c.args.root))
    (λ p q. (p < c.loop-place.place + 1) × (q ≡ c.args.root)) c.loop-place.invariant c.in_ok-add_edge.ensures.ok
    (λ p q h. (omega (arith, h.0), h.1)) (λ p q h. (omega (arith, h.0), h.1))
    (λ p q h. elim (cases_lt p c.loop-place.place) as (λ _. ((p < c.loop-place.place) × (q ≡ c.args.root)) ⊎ ((p ≡ c.loop-place.place) × (q ≡ c.args.root))) [
      | inl less ↦ inl (less, h.1)
      | inr most ↦ let e : p ≡ c.loop-place.place = omega (arith, h.0, most) in inr (e, h.1)
    ])

pub returns : goal.returns
returns c =
    Extends-as c.args.graph.now c.loop-place.graph (λ p q. (p < c.loop-place.place) × (q ≡ c.args.root)) (λ p q. (p < c.args.root) × (q ≡ c.args.root)) c.loop-place.invariant
    (λ p q h. (omega (arith, h.0, c.loop-place.auto.place-end), h.1)) (λ p q h. (omega (arith, h.0, c.loop-place-test.false), h.1))
