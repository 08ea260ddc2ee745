-- What the further node reaches: the bits at which chains of connects end that begin at a bit with the start digit.
use Rattle.std.proofs.Common.{◌≡◌, ◌⊎◌, ◌↔◌, inl, inr, ℕ, zero, suc, ◌+◌, ◌<◌, Bool, List, length, refl, sym, subst, ◌∙◌, arith}
use Rattle.std.specs.Prelude.{slice_get}
use Rattle.digraph.specs.Graph.{Graph, HasEdge, Walk, Reaches, IsGraph, IsSorted, Extends}
use Rattle.digraph.proofs.Lists.{reaches-edge, reaches-itself, reaches-step}
use Rattle.design_core.specs.Places.{place_of, places}
use Rattle.design_core.specs.Shape.{DesignOf, IsDeclared, IsDesign}
use Rattle.design_core.proofs.Places.{place_of-same, place_of-within}
use Rattle.design_meaning.specs.Meaning.{Chain, IsConnected}
use Rattle.design_signals.specs.declared.sig_bit.SigBit.{SigBit}
use Rattle.design_signals.specs.declared.sig_bit.SigBit.TheVariants.{Wire}
use Rattle.design_graph.specs.Edges.{IsDown}
use Rattle.design_graph.proofs.Netting.{connected-declared, connected-down, down-connected}
use Rattle.design_graph.proofs.Starting.{init-declared}
use Rattle.design_lower.specs.Progress.{IsDigitEnd, IsEndGraph, IsEnds, IsInitPlace, IsLedWith}

module _ (d : DesignOf) (x : Bool) (g h k l : Graph) (none : (a b : ℕ) → HasEdge g a b → ⊥) (size : length g ≡ places d + 1) (down : Extends g (IsDown d d.connects) h)
    (inits : Extends h (λ p q. (p ≡ places d) × IsInitPlace d x q) k) (back : Extends k (λ p q. (p < places d) × (q ≡ places d)) l) where
  pub IsEndGraph-built : IsEndGraph d x l
  IsEndGraph-built = record {
    size = back.size ∙ (inits.size ∙ (down.size ∙ size));
    edges = λ p q. (
      λ e. elim (back.only p q e) as (λ _. IsDown d d.connects p q ⊎ (((p ≡ places d) × IsInitPlace d x q) ⊎ ((p < places d) × (q ≡ places d)))) [
        | inr b ↦ inr (inr b)
        | inl f ↦ elim (inits.only p q f) as (λ _. IsDown d d.connects p q ⊎ (((p ≡ places d) × IsInitPlace d x q) ⊎ ((p < places d) × (q ≡ places d)))) [
          | inr i ↦ inr (inl i)
          | inl z ↦ elim (down.only p q z) as (λ _. IsDown d d.connects p q ⊎ (((p ≡ places d) × IsInitPlace d x q) ⊎ ((p < places d) × (q ≡ places d)))) [
            | inr c ↦ inl c
            | inl old ↦ absurd (none p q old)
          ]
        ]
      ],
      λ e. elim e as (λ _. HasEdge l p q) [
        | inl c ↦ back.kept p q (inits.kept p q (down.added p q c))
        | inr rest ↦ elim rest as (λ _. HasEdge l p q) [ inl i ↦ back.kept p q (inits.added p q i) | inr b ↦ back.added p q b ]
      ],
    );
  }

module _ (d : DesignOf) (shape : IsDesign d) (x : Bool) (g : Graph) (is : IsEndGraph d x g) where
  pub IsGraph-ends : IsGraph g
  IsGraph-ends p q e = elim ((is.edges p q).0 e) as (λ _. q < length g) [
    | inl down ↦ let c = down-connected d shape p q down in omega (arith, c.4, is.size, place_of-within d c.1 (connected-declared d shape c.0 c.1 c.2).1)
    | inr rest ↦ elim rest as (λ _. q < length g) [
      | inl init ↦ let i = init.1 in omega (arith, i.3, is.size, place_of-within d (Wire i.0 i.1) (init-declared d shape i.0 i.1 x i.2))
      | inr back ↦ omega (arith, back.1, is.size)
    ]
  ]

  module _ (a : SigBit) (da : IsDeclared d.wires d.free a) where
    -- a walk to the bit from a bit, and from the further node
    abbrev FromBit : ℕ → Type 0
    FromBit p = (b : SigBit) → IsDeclared d.wires d.free b → p ≡ place_of d b → ((n : ℕ) × Chain d n b a) ⊎ IsDigitEnd d x a

    walk-ends : (n p : ℕ) → Walk g n p (place_of d a) → FromBit p × (p ≡ places d → IsDigitEnd d x a)
    walk-ends zero p w = (
      λ b db e. inl (0, place_of-same d b a db da (sym e ∙ w)),
      λ e. absurd (omega (arith, e, w, place_of-within d a da)),
    )
    walk-ends (suc n) p w =
        let rest = walk-ends n w.0 w.2 in (
          λ b db e. elim ((is.edges p w.0).0 w.1) as (λ _. ((m : ℕ) × Chain d m b a) ⊎ IsDigitEnd d x a) [
            | inl down ↦
                let c = down-connected d shape p w.0 down in
                let ends = connected-declared d shape c.0 c.1 c.2 in
                let same : c.0 ≡ b = place_of-same d c.0 b ends.0 db (sym c.3 ∙ e) in
                elim (rest.0 c.1 ends.1 c.4) as (λ _. ((m : ℕ) × Chain d m b a) ⊎ IsDigitEnd d x a) [
                  | inl chain ↦ inl (suc chain.0, (c.1, subst (λ (y : SigBit). IsConnected d y c.1) same c.2, chain.1))
                  | inr end ↦ inr end
                ]
            | inr other ↦ elim other as (λ _. ((m : ℕ) × Chain d m b a) ⊎ IsDigitEnd d x a) [
              | inl init ↦ absurd (omega (arith, init.0, e, place_of-within d b db))
              | inr back ↦ inr (rest.1 back.1)
            ]
          ],
          λ e. elim ((is.edges p w.0).0 w.1) as (λ _. IsDigitEnd d x a) [
            | inl down ↦
                let c = down-connected d shape p w.0 down in
                absurd (omega (arith, e, c.3, place_of-within d c.0 (connected-declared d shape c.0 c.1 c.2).0))
            | inr other ↦ elim other as (λ _. IsDigitEnd d x a) [
              | inl init ↦
                  let i = init.1 in
                  elim (rest.0 (Wire i.0 i.1) (init-declared d shape i.0 i.1 x i.2) i.3) as (λ _. IsDigitEnd d x a) [
                    | inl chain ↦ (i.0, i.1, chain.0, i.2, chain.1)
                    | inr end ↦ end
                  ]
              | inr back ↦ absurd (omega (arith, e, back.0))
            ]
          ],
        )

    chain-reaches : (n : ℕ) (b : SigBit) → Chain d n b a → Reaches g (place_of d b) (place_of d a)
    chain-reaches zero b c = subst (λ (y : SigBit). Reaches g (place_of d b) (place_of d y)) c (reaches-itself g (place_of d b))
    chain-reaches (suc n) b c =
        reaches-step g (place_of d b) (place_of d c.0) (place_of d a) ((is.edges (place_of d b) (place_of d c.0)).1 (inl (connected-down d shape b c.0 c.1))) (chain-reaches n c.0 c.2)

    end-reached : IsDigitEnd d x a → Reaches g (places d) (place_of d a)
    end-reached e =
        reaches-step g (places d) (place_of d (Wire e.0 e.1)) (place_of d a) ((is.edges (places d) (place_of d (Wire e.0 e.1))).1 (inr (inl (refl, (e.0, e.1, e.3, refl))))) (chain-reaches e.2 (Wire e.0 e.1) e.4)

    pub end-led : (order : List ℕ) (cyclic : List Bool) (leaders : List ℕ) → IsSorted g order cyclic leaders
        → (slice_get leaders (place_of d a) ≡ slice_get leaders (places d)) ↔ IsDigitEnd d x a
    end-led order cyclic leaders s =
        let within = place_of-within d a da in
        let parts = s.parts (place_of d a) (places d) (omega (arith, within, is.size)) (omega (arith, is.size)) in (
          λ e. let r = (parts.0 e).1 in (walk-ends r.0 (places d) r.1).1 refl,
          λ e. parts.1 (
            reaches-edge g (place_of d a) (place_of d a) (places d) (reaches-itself g (place_of d a)) ((is.edges (place_of d a) (places d)).1 (inr (inr (within, refl)))),
            end-reached e,
          ),
        )

-- the marks of the nodes that the further node reaches
pub IsEnds-built : (d : DesignOf) → IsDesign d → (x : Bool) (g : Graph) → IsEndGraph d x g → (order : List ℕ) (cyclic : List Bool) (leaders : List ℕ) → IsSorted g order cyclic leaders
    → (marks : List Bool) → IsLedWith leaders (places d) (places d) marks → IsEnds d x marks
IsEnds-built d shape x g is order cyclic leaders s marks led = record {
  size = led.size;
  ends = λ a da.
      let one = led.led (place_of d a) (place_of-within d a da) in
      let two = end-led d shape x g is a da order cyclic leaders s in
      (λ h. two.0 (one.0 h), λ h. one.1 (two.1 h));
}
