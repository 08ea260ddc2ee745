-- Givers that are put at places.
use Rattle.std.proofs.Common.{◌≡◌, ◌⊎◌, inl, inr, ℕ, zero, suc, ◌+◌, ◌<◌, ◌≢◌, List, [], ◌∷◌, ◌++◌, Some, length, get_or, set, take, replicate, refl, sym, ap, subst, ◌∙◌, arith}
use Rattle.std.specs.Prelude.{Contains, slice_get}
use Rattle.std.proofs.lemmas.Bool.{cases_eq, cases_lt}
use Rattle.std.proofs.lemmas.List.{length-replicate, length-set, length-take-le, take_more}
use Rattle.std.proofs.lemmas.Option.{slice_get_within}
use Rattle.model_core.specs.Served.{IsModel}
use Rattle.model_core.specs.Shape.{ModelOf, NodeOf, RegisterOf}
use Rattle.model_core.proofs.Lists.{app_left, app_right, contained_at}
use Rattle.model_cone.specs.declared.givers.Giver.{Giver}
use Rattle.model_cone.specs.declared.givers.Giver.TheVariants.{Node, Bit, Other}
use Rattle.model_cone.specs.Marking.{AreGivers, AreGiversTo, IsGiven}
use Rattle.model_cone.proofs.Giving.{not-both, one-bit, one-node, one-register}
use Rattle.model_cone.proofs.Marks.{more-from, nothing-in}

set-at : {A : Type 0} (xs : List A) (x : ℕ) (v : A) → x < length xs → slice_get (set xs x v) x ≡ Some v
set-at [] x v l = absurd (omega arith)
set-at (y ∷ xs) zero v l = refl
set-at (y ∷ xs) (suc x) v l = set-at xs x v (omega arith)

set-beside : {A : Type 0} (xs : List A) (x p : ℕ) (v : A) → (p ≡ x → ⊥) → slice_get (set xs x v) p ≡ slice_get xs p
set-beside [] x p v n = refl
set-beside (y ∷ xs) zero zero v n = absurd (n refl)
set-beside (y ∷ xs) zero (suc p) v n = refl
set-beside (y ∷ xs) (suc x) zero v n = refl
set-beside (y ∷ xs) (suc x) (suc p) v n = set-beside xs x p v (λ e. n (ap suc e))

-- what is said of a place by the places at which givers were put
abbrev Stands : List ℕ → (ℕ → Giver) → List Giver → List Giver → ℕ → Type 0
Stands places g old new p = ((k : ℕ) × (slice_get places k ≡ Some p) × (slice_get new p ≡ Some (g k))) ⊎ ((Contains places p → ⊥) × (slice_get new p ≡ slice_get old p))

pub given-none : (g : ℕ → Giver) (gs : List Giver) → IsGiven [] g gs gs
given-none g gs = record { size = refl; at = λ p. inr ((λ c. nothing-in p c), refl) }

pub given-more : (places : List ℕ) (i x : ℕ) (g : ℕ → Giver) (old mid : List Giver) → i < length places → x ≡ get_or places i x → x < length mid → IsGiven (take i places) g old mid
    → IsGiven (take (i + 1) places) g old (set mid x (g i))
given-more places i x g old mid l e w before = record { size = length-set mid x (g i) ∙ before.size; at = λ p. by p (cases_eq p x) }
  where
    more : take (i + 1) places ≡ take i places ++ x ∷ []
    more = take_more places i x l ∙ ap (λ (z : ℕ). take i places ++ z ∷ []) (sym e)

    last : (p : ℕ) → p ≡ x → slice_get (take (i + 1) places) i ≡ Some p
    last p q =
        let w = length-take-le i places (omega arith) in
        let n : i ≡ length (take i places) + 0 = omega arith in
        rw (more, q) (app_right (take i places) (x ∷ []) 0 i n)

    kept : (k p : ℕ) → slice_get (take i places) k ≡ Some p → slice_get (take (i + 1) places) k ≡ Some p
    kept k p h = rw more (app_left (take i places) (x ∷ []) k p h)

    by : (p : ℕ) → (p ≡ x) ⊎ (p ≢ x) → Stands (take (i + 1) places) g old (set mid x (g i)) p
    by p (inl q) = inl (i, last p q, subst (λ (k : ℕ). slice_get (set mid x (g i)) k ≡ Some (g i)) (sym q) (set-at mid x (g i) w))
    by p (inr n) =
        elim (before.at p) as (λ _. Stands (take (i + 1) places) g old (set mid x (g i)) p) [
          | inl h ↦ inl (h.0, kept h.0 p h.1, set-beside mid x p (g i) n ∙ h.2)
          | inr h ↦ inr ((λ c. elim (more-from places i x l e p c) as (λ _. ⊥) [ inl a ↦ h.0 a | inr a ↦ n a ]), set-beside mid x p (g i) n ∙ h.1)
        ]

other-only : (n p : ℕ) (g : Giver) → slice_get (replicate n Other) p ≡ Some g → Other ≡ g
other-only zero p g h = absurd cc
other-only (suc n) zero g h = cc
other-only (suc n) (suc p) g h = other-only n p g h

pub givers-begin : (m : ModelOf) (n : ℕ) → n ≡ m.size → AreGiversTo m 0 0 (replicate n Other)
givers-begin m n e = record {
  size = length-replicate n Other ∙ e;
  node = λ i k p l. absurd (omega arith);
  bit = λ i k r p l. absurd (omega arith);
  from_node = λ i p h. absurd (let z : Other ≡ Node i = other-only n p (Node i) h in cc);
  from_bit = λ i k p h. absurd (let z : Other ≡ Bit i k = other-only n p (Bit i k) h in cc);
}

less-or-same : (i a : ℕ) → i < a + 1 → (i < a) ⊎ (i ≡ a)
less-or-same i a l = elim (cases_lt i a) as (λ _. (i < a) ⊎ (i ≡ a)) [ inl x ↦ inl x | inr x ↦ inr (omega arith) ]

module _ (m : ModelOf) (is : IsModel m) (a b : ℕ) (old new : List Giver) (h : AreGiversTo m a b old) where
  pub givers-node : (n : NodeOf) → slice_get m.nodes a ≡ Some n → IsGiven n.y (λ k. Node a) old new → AreGiversTo m (a + 1) b new
  givers-node n en g = record {
    size = g.size ∙ h.size;
    node = λ i k p l ek c. node-by i k p l ek c (g.at p);
    bit = λ i k r p l er c. bit-by i k r p l er c (g.at p);
    from_node = λ i p e. from-by i p e (g.at p);
    from_bit = λ i k p e. other-by i k p e (g.at p);
  }
    where
      node-by : (i : ℕ) (k : NodeOf) (p : ℕ) → i < a + 1 → slice_get m.nodes i ≡ Some k → Contains k.y p → Stands n.y (λ k. Node a) old new p → slice_get new p ≡ Some (Node i)
      node-by i k p l ek c (inl x) = let same : i ≡ a = one-node m is i a k n p ek en c (contained_at n.y p x.0 x.1) in rw same x.2
      node-by i k p l ek c (inr x) =
          elim (less-or-same i a l) as (λ _. slice_get new p ≡ Some (Node i)) [
            | inl less ↦ x.1 ∙ h.node i k p less ek c
            | inr same ↦ absurd (x.0 (let e : k ≡ n = (let f = subst (λ (z : ℕ). slice_get m.nodes z ≡ Some k) same ek in cc) in subst (λ (z : NodeOf). Contains z.y p) e c))
          ]

      bit-by : (i k : ℕ) (r : RegisterOf) (p : ℕ) → i < b → slice_get m.registers i ≡ Some r → slice_get r.q k ≡ Some p → Stands n.y (λ k. Node a) old new p → slice_get new p ≡ Some (Bit i k)
      bit-by i k r p l er c (inl x) = absurd (not-both m is a i n r p en er (contained_at n.y p x.0 x.1) (contained_at r.q p k c))
      bit-by i k r p l er c (inr x) = x.1 ∙ h.bit i k r p l er c

      from-by : (i p : ℕ) → slice_get new p ≡ Some (Node i) → Stands n.y (λ k. Node a) old new p → (k : NodeOf) × (slice_get m.nodes i ≡ Some k) × Contains k.y p
      from-by i p e (inl x) = let same : a ≡ i = (let f = x.2 in cc) in (n, subst (λ (z : ℕ). slice_get m.nodes z ≡ Some n) same en, contained_at n.y p x.0 x.1)
      from-by i p e (inr x) = h.from_node i p (sym x.1 ∙ e)

      other-by : (i k p : ℕ) → slice_get new p ≡ Some (Bit i k) → Stands n.y (λ k. Node a) old new p → (r : RegisterOf) × (slice_get m.registers i ≡ Some r) × (slice_get r.q k ≡ Some p)
      other-by i k p e (inl x) = absurd (let f = x.2 in cc)
      other-by i k p e (inr x) = h.from_bit i k p (sym x.1 ∙ e)

  pub givers-register : (r : RegisterOf) → slice_get m.registers b ≡ Some r → IsGiven r.q (λ k. Bit b k) old new → AreGiversTo m a (b + 1) new
  givers-register r er g = record {
    size = g.size ∙ h.size;
    node = λ i k p l ek c. node-by i k p l ek c (g.at p);
    bit = λ i k r p l er c. bit-by i k r p l er c (g.at p);
    from_node = λ i p e. from-by i p e (g.at p);
    from_bit = λ i k p e. other-by i k p e (g.at p);
  }
    where
      node-by : (i : ℕ) (k : NodeOf) (p : ℕ) → i < a → slice_get m.nodes i ≡ Some k → Contains k.y p → Stands r.q (λ k. Bit b k) old new p → slice_get new p ≡ Some (Node i)
      node-by i k p l ek c (inl x) = absurd (not-both m is i b k r p ek er c (contained_at r.q p x.0 x.1))
      node-by i k p l ek c (inr x) = x.1 ∙ h.node i k p l ek c

      bit-by : (i k : ℕ) (s : RegisterOf) (p : ℕ) → i < b + 1 → slice_get m.registers i ≡ Some s → slice_get s.q k ≡ Some p → Stands r.q (λ k. Bit b k) old new p → slice_get new p ≡ Some (Bit i k)
      bit-by i k s p l es c (inl x) =
          let same : i ≡ b = one-register m is i b s r p es er (contained_at s.q p k c) (contained_at r.q p x.0 x.1) in
          let e : s ≡ r = (let f = subst (λ (z : ℕ). slice_get m.registers z ≡ Some s) same es in cc) in
          let bit : k ≡ x.0 = one-bit m is b r k x.0 p er (subst (λ (z : RegisterOf). slice_get z.q k ≡ Some p) e c) x.1 in
          rw (same, bit) x.2
      bit-by i k s p l es c (inr x) =
          elim (less-or-same i b l) as (λ _. slice_get new p ≡ Some (Bit i k)) [
            | inl less ↦ x.1 ∙ h.bit i k s p less es c
            | inr same ↦ absurd (x.0 (let e : s ≡ r = (let f = subst (λ (z : ℕ). slice_get m.registers z ≡ Some s) same es in cc) in subst (λ (z : RegisterOf). Contains z.q p) e (contained_at s.q p k c)))
          ]

      from-by : (i p : ℕ) → slice_get new p ≡ Some (Node i) → Stands r.q (λ k. Bit b k) old new p → (k : NodeOf) × (slice_get m.nodes i ≡ Some k) × Contains k.y p
      from-by i p e (inl x) = absurd (let f = x.2 in cc)
      from-by i p e (inr x) = h.from_node i p (sym x.1 ∙ e)

      other-by : (i k p : ℕ) → slice_get new p ≡ Some (Bit i k) → Stands r.q (λ k. Bit b k) old new p → (s : RegisterOf) × (slice_get m.registers i ≡ Some s) × (slice_get s.q k ≡ Some p)
      other-by i k p e (inl x) =
          let register : b ≡ i = (let f = x.2 in cc) in
          let bit : x.0 ≡ k = (let f = x.2 in cc) in
          (r, subst (λ (z : ℕ). slice_get m.registers z ≡ Some r) register er, subst (λ (z : ℕ). slice_get r.q z ≡ Some p) bit x.1)
      other-by i k p e (inr x) = h.from_bit i k p (sym x.1 ∙ e)

pub givers-all : (m : ModelOf) (gs : List Giver) → AreGiversTo m (length m.nodes) (length m.registers) gs → AreGivers m gs
givers-all m gs h = record {
  size = h.size;
  node = λ i n p e c. h.node i n p (slice_get_within m.nodes i n e) e c;
  bit = λ i k r p e c. h.bit i k r p (slice_get_within m.registers i r e) e c;
  from_node = h.from_node;
  from_bit = h.from_bit;
}
