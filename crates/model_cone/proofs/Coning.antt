-- From marks to the cone.
use Rattle.std.proofs.Common.{◌≡◌, ◌⊎◌, inl, inr, ℕ, zero, suc, ◌<◌, Bool, true, false, List, [], ◌∷◌, ◌++◌, Some, length, replicate, refl, sym, subst, ◌∙◌, arith}
use Rattle.std.specs.Prelude.{Contains, slice_get}
use Rattle.std.proofs.lemmas.List.{length_push}
use Rattle.std.proofs.lemmas.List.Elements.{Contains-append_left, Contains-push, Contains-push_cases}
use Rattle.std.proofs.lemmas.Option.{same_Some, slice_get_within}
use Rattle.model_core.specs.Shape.{ModelOf, NodeOf, RegisterOf, reads}
use Rattle.model_cone.specs.declared.asked.Asked.{Asked}
use Rattle.model_cone.specs.declared.givers.Giver.{Giver}
use Rattle.model_cone.specs.declared.givers.Giver.TheVariants.{Node, Bit, Other}
use Rattle.model_cone.specs.Cone.{Decides, IsCone, IsInCone, IsRoot, RestsIn, RestsOn}
use Rattle.model_cone.specs.Marking.{AreGivers, IsGiverOf, IsReadBy, IsSpread, Spreads, work}
use Rattle.model_cone.specs.Slice.{kept_by}
use Rattle.model_cone.proofs.Marks.{kept-within, nothing-in}

pub giver-of : (m : ModelOf) (gs : List Giver) (p : ℕ) (g : Giver) → AreGivers m gs → slice_get gs p ≡ Some g → IsGiverOf m g
giver-of m gs p (Node i) h e = let n = h.from_node i p e in slice_get_within m.nodes i n.0 n.1
giver-of m gs p (Bit i k) h e = let r = h.from_bit i k p e in (r.0, r.1, slice_get_within r.0.q k p r.2)
giver-of m gs p Other h e = tt

-- what a place rests on is what its giver reads
pub rests-from : (m : ModelOf) (gs : List Giver) (p : ℕ) (g : Giver) → AreGivers m gs → slice_get gs p ≡ Some g → (q : ℕ) → IsReadBy m g q → RestsOn m p q
rests-from m gs p (Node i) h e q r =
    let n = h.from_node i p e in
    let same : r.0 ≡ n.0 = same_Some r.0 n.0 (sym r.1 ∙ n.1) in
    inl (i, n.0, n.1, n.2, subst (λ (k : NodeOf). Contains (reads k) q) same r.2)
rests-from m gs p (Bit i k) h e q r =
    let n = h.from_bit i k p e in
    let same : r.0 ≡ n.0 = same_Some r.0 n.0 (sym r.1 ∙ n.1) in
    inr (i, k, n.0, n.1, n.2, subst (λ (z : RegisterOf). Decides z k q) same r.2)
rests-from m gs p Other h e q r = absurd r

pub reads-from : (m : ModelOf) (gs : List Giver) (p : ℕ) (g : Giver) → AreGivers m gs → slice_get gs p ≡ Some g → (q : ℕ) → RestsOn m p q → IsReadBy m g q
reads-from m gs p g h e q (inl r) =
    let same : Node r.0 ≡ g = same_Some (Node r.0) g (sym (h.node r.0 r.1 p r.2 r.3) ∙ e) in
    subst (λ (k : Giver). IsReadBy m k q) same (r.1, r.2, r.4)
reads-from m gs p g h e q (inr r) =
    let same : Bit r.0 r.1 ≡ g = same_Some (Bit r.0 r.1) g (sym (h.bit r.0 r.1 r.2 p r.3 r.4) ∙ e) in
    subst (λ (k : Giver). IsReadBy m k q) same (r.2, r.3, r.5)

module _ (m : ModelOf) (asked : Asked) where
  pub cone-on : (p q : ℕ) → IsInCone m asked p → RestsOn m p q → IsInCone m asked q
  cone-on p q h r = (h.0, suc h.1, h.2, (p, h.3, r))

  none-kept : (n p : ℕ) → kept_by (replicate n false) p ≡ true → ⊥
  none-kept zero p k = cc
  none-kept (suc n) zero k = cc
  none-kept (suc n) (suc p) k = none-kept n p k

  pub spread-begins : (n : ℕ) (marks : List Bool) (stack : List ℕ) → n ≡ m.size → Spreads (IsRoot m asked) (replicate n false) [] marks stack → length (replicate n false) ≡ n → IsSpread m asked marks stack
  spread-begins n marks stack e h l = record {
    size = h.size ∙ l ∙ e;
    sound = λ p k. elim (h.only p k) as (λ _. IsInCone m asked p) [ inl a ↦ absurd (none-kept n p a) | inr a ↦ (p, 0, a, refl) ];
    stacked = λ p c. elim (h.marked p c) as (λ _. kept_by marks p ≡ true) [ inl a ↦ absurd (nothing-in p a) | inr a ↦ a ];
    roots = λ p r. h.all p r;
    closed = λ p q k r. elim (h.fresh p k) as (λ _. Contains stack p ⊎ (kept_by marks q ≡ true)) [ inl a ↦ absurd (none-kept n p a) | inr a ↦ inl a ];
  }

  module _ (marks : List Bool) (rest : List ℕ) (place : ℕ) (h : IsSpread m asked marks (rest ++ place ∷ [])) where
    pub place-kept : kept_by marks place ≡ true
    place-kept = h.stacked place (Contains-push rest place)

    pub place-below : place < m.size
    place-below = let w = kept-within marks place place-kept in let s = h.size in omega arith

    module _ (gs : List Giver) (are : AreGivers m gs) (g : Giver) (at : slice_get gs place ≡ Some g) (more : List Bool) (waiting : List ℕ) (y : Spreads (IsReadBy m g) marks rest more waiting) where
      pub place-visited : IsSpread m asked more waiting
      place-visited = record {
        size = y.size ∙ h.size;
        sound = λ p k.
            elim (y.only p k) as (λ _. IsInCone m asked p) [
              | inl a ↦ h.sound p a
              | inr a ↦ cone-on place p (h.sound place place-kept) (rests-from m gs place g are at p a)
            ];
        stacked = λ p c.
            elim (y.marked p c) as (λ _. kept_by more p ≡ true) [ inl a ↦ y.kept p (h.stacked p (Contains-append_left rest (place ∷ []) p a)) | inr a ↦ a ];
        roots = λ p r. y.kept p (h.roots p r);
        closed = λ p q k r.
            elim (y.fresh p k) as (λ _. Contains waiting p ⊎ (kept_by more q ≡ true)) [
              | inl a ↦ elim (h.closed p q a r) as (λ _. Contains waiting p ⊎ (kept_by more q ≡ true)) [
                | inl b ↦ elim (Contains-push_cases rest place p b) as (λ _. Contains waiting p ⊎ (kept_by more q ≡ true)) [
                  | inl d ↦ inl (y.waits p d)
                  | inr d ↦ inr (y.all q (reads-from m gs place g are at q (subst (λ (k : ℕ). RestsOn m k q) (sym d) r)))
                ]
                | inr b ↦ inr (y.kept q b)
              ]
              | inr a ↦ inl a
            ];
      }

      pub work-falls : work more waiting < work marks (rest ++ place ∷ [])
      work-falls = let l = y.less in let e = length_push rest place in omega arith

  -- at the end the marks are the cone
  module _ (marks : List Bool) (h : IsSpread m asked marks []) where
    reached : (n p q : ℕ) → kept_by marks p ≡ true → RestsIn m n p q → kept_by marks q ≡ true
    reached zero p q k e = subst (λ (z : ℕ). kept_by marks z ≡ true) e k
    reached (suc n) p q k r =
        elim (h.closed r.0 q (reached n p r.0 k r.1) r.2) as (λ _. kept_by marks q ≡ true) [ inl a ↦ absurd (nothing-in r.0 a) | inr a ↦ a ]

    pub cone-found : IsCone m asked (kept_by marks)
    cone-found p = (h.sound p, λ c. reached c.1 c.0 p (h.roots c.0 c.2) c.3)
