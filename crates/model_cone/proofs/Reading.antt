-- The places that are read, and that they are marked.
use Rattle.std.proofs.Common.{◌≡◌, ◌⊎◌, inl, inr, ℕ, zero, suc, ◌+◌, ◌<◌, Bool, List, [], ◌∷◌, ◌++◌, Some, length, take, get_or, refl, sym, ap, subst, ◌∙◌, arith}
use Rattle.std.specs.Prelude.{Contains, slice_get}
use Rattle.std.specs.List.{flat_map}
use Rattle.std.proofs.lemmas.List.Elements.{Contains-append_cases, Contains-append_left, Contains-append_right}
use Rattle.std.proofs.lemmas.Option.{same_Some}
use Rattle.model_core.specs.Served.{IsModel}
use Rattle.model_core.specs.Shape.{AreBelow, IsRegister, ModelOf, NodeOf, RegisterOf, reads, states}
use Rattle.model_core.specs.declared.model.Statement.{Statement}
use Rattle.model_core.proofs.Frames.{gives_below, open_source, reads_below, source_below}
use Rattle.model_core.proofs.Lists.{all_at, all_from, contained_at}
use Rattle.model_cone.specs.declared.asked.Asked.{Asked}
use Rattle.model_cone.specs.declared.givers.Giver.TheVariants.{Node, Bit}
use Rattle.model_cone.specs.Cone.{Decides, IsRoot}
use Rattle.model_cone.specs.Marking.{IsAskedPlace, IsPlaceOf, IsReadBy, Spreads}
use Rattle.model_cone.proofs.Marks.{more-from, more-to, spread-as, spread-then}

pub below-from : (size : ℕ) (ps : List ℕ) → ((p : ℕ) → Contains ps p → p < size) → AreBelow size ps
below-from size ps h = all_from (λ p. p < size) ps (λ k p e. h p (contained_at ps p k e))

module _ (m : ModelOf) (is : IsModel m) where
  pub zero-below : m.zero < m.size
  zero-below = source_below m is m.zero (0, omega arith, refl)

  pub one-below : suc m.zero < m.size
  one-below = source_below m is (suc m.zero) (1, omega arith, refl)

  pub a-below : (i : ℕ) (n : NodeOf) → slice_get m.nodes i ≡ Some n → AreBelow m.size n.a
  a-below i n e = below-from m.size n.a (λ p h. reads_below m is i n e p (Contains-append_left n.a (n.b ++ n.s) p h))

  pub b-below : (i : ℕ) (n : NodeOf) → slice_get m.nodes i ≡ Some n → AreBelow m.size n.b
  b-below i n e = below-from m.size n.b (λ p h. reads_below m is i n e p (Contains-append_right n.a (n.b ++ n.s) p (Contains-append_left n.b n.s p h)))

  pub s-below : (i : ℕ) (n : NodeOf) → slice_get m.nodes i ≡ Some n → AreBelow m.size n.s
  s-below i n e = below-from m.size n.s (λ p h. reads_below m is i n e p (Contains-append_right n.a (n.b ++ n.s) p (Contains-append_right n.b n.s p h)))

  pub y-below : (i : ℕ) (n : NodeOf) → slice_get m.nodes i ≡ Some n → AreBelow m.size n.y
  y-below i n e = below-from m.size n.y (λ p h. gives_below m is i n e p h)

  pub register-is : (i : ℕ) (r : RegisterOf) → slice_get m.registers i ≡ Some r → IsRegister m.size r
  register-is i r e = all_at (IsRegister m.size) m.registers i r is.registers e

  pub in-states : (i : ℕ) (r : RegisterOf) (p : ℕ) → slice_get m.registers i ≡ Some r → Contains r.q p → Contains (states m) p
  in-states i r p g h = by m.registers i g
    where
      by : (rs : List RegisterOf) (i : ℕ) → slice_get rs i ≡ Some r → Contains (flat_map (λ (k : RegisterOf). k.q) rs) p
      by [] i g = absurd cc
      by (k ∷ rs) zero g = let z : r ≡ k = cc in Contains-append_left k.q _ p (subst (λ (n : RegisterOf). Contains n.q p) z h)
      by (k ∷ rs) (suc i) g = Contains-append_right k.q _ p (by rs i g)

  pub q-below : (i : ℕ) (r : RegisterOf) → slice_get m.registers i ≡ Some r → AreBelow m.size r.q
  q-below i r e = below-from m.size r.q (λ p h. source_below m is p (open_source m is p (Contains-append_left (states m) m.inputs p (in-states i r p e h))))

-- what a node reads is at its A, B and S
pub node-spread : (m : ModelOf) (i : ℕ) (n : NodeOf) → slice_get m.nodes i ≡ Some n → (a b s : List ℕ) → a ≡ n.a → b ≡ n.b → s ≡ n.s → (marks more : List Bool) (stack waiting : List ℕ)
    → Spreads (λ p. (Contains a p ⊎ Contains b p) ⊎ Contains s p) marks stack more waiting → Spreads (IsReadBy m (Node i)) marks stack more waiting
node-spread m i n e a b s ea eb es marks more stack waiting h = spread-as (λ p. (Contains a p ⊎ Contains b p) ⊎ Contains s p) (IsReadBy m (Node i)) marks more stack waiting to from h
  where
    to : (p : ℕ) → (Contains a p ⊎ Contains b p) ⊎ Contains s p → IsReadBy m (Node i) p
    to p g = (
      n,
      e,
      elim g as (λ _. Contains (reads n) p) [
        | inl f ↦ elim f as (λ _. Contains (reads n) p) [
          | inl x ↦ Contains-append_left n.a (n.b ++ n.s) p (subst (λ (ps : List ℕ). Contains ps p) ea x)
          | inr x ↦ Contains-append_right n.a (n.b ++ n.s) p (Contains-append_left n.b n.s p (subst (λ (ps : List ℕ). Contains ps p) eb x))
        ]
        | inr x ↦ Contains-append_right n.a (n.b ++ n.s) p (Contains-append_right n.b n.s p (subst (λ (ps : List ℕ). Contains ps p) es x))
      ],
    )

    from-n : (p : ℕ) → Contains (reads n) p → (Contains a p ⊎ Contains b p) ⊎ Contains s p
    from-n p g =
        elim (Contains-append_cases n.a (n.b ++ n.s) p g) as (λ _. (Contains a p ⊎ Contains b p) ⊎ Contains s p) [
          | inl x ↦ inl (inl (subst (λ (ps : List ℕ). Contains ps p) (sym ea) x))
          | inr f ↦ elim (Contains-append_cases n.b n.s p f) as (λ _. (Contains a p ⊎ Contains b p) ⊎ Contains s p) [
            | inl x ↦ inl (inr (subst (λ (ps : List ℕ). Contains ps p) (sym eb) x))
            | inr x ↦ inr (subst (λ (ps : List ℕ). Contains ps p) (sym es) x)
          ]
        ]

    from : (p : ℕ) → IsReadBy m (Node i) p → (Contains a p ⊎ Contains b p) ⊎ Contains s p
    from p g =
        let same : n ≡ g.0 = same_Some n g.0 (sym e ∙ g.1) in
        from-n p (subst (λ (k : NodeOf). Contains (reads k) p) (sym same) g.2)

-- what decides a bit stands at its place in what the register takes and resets to, and at the controls
pub bit-spread : (m : ModelOf) (i k : ℕ) (r : RegisterOf) → slice_get m.registers i ≡ Some r → (d v x y : ℕ) → slice_get r.d k ≡ Some d → slice_get r.value k ≡ Some v → x ≡ r.enable.place → y ≡ r.reset.place
    → (marks more : List Bool) (stack waiting : List ℕ) → Spreads (λ p. (((p ≡ d) ⊎ (p ≡ v)) ⊎ (p ≡ x)) ⊎ (p ≡ y)) marks stack more waiting → Spreads (IsReadBy m (Bit i k)) marks stack more waiting
bit-spread m i k r e d v x y ed ev ex ey marks more stack waiting h =
    spread-as (λ p. (((p ≡ d) ⊎ (p ≡ v)) ⊎ (p ≡ x)) ⊎ (p ≡ y)) (IsReadBy m (Bit i k)) marks more stack waiting (λ p g. (r, e, to p g)) from h
  where
    to : (p : ℕ) → (((p ≡ d) ⊎ (p ≡ v)) ⊎ (p ≡ x)) ⊎ (p ≡ y) → Decides r k p
    to p (inl (inl (inl z))) = inl (ed ∙ ap Some (sym z))
    to p (inl (inl (inr z))) = inr (inl (ev ∙ ap Some (sym z)))
    to p (inl (inr z)) = inr (inr (inl (z ∙ ex)))
    to p (inr z) = inr (inr (inr (z ∙ ey)))

    from-r : (p : ℕ) → Decides r k p → (((p ≡ d) ⊎ (p ≡ v)) ⊎ (p ≡ x)) ⊎ (p ≡ y)
    from-r p (inl z) = inl (inl (inl (same_Some p d (sym z ∙ ed))))
    from-r p (inr (inl z)) = inl (inl (inr (same_Some p v (sym z ∙ ev))))
    from-r p (inr (inr (inl z))) = inl (inr (z ∙ sym ex))
    from-r p (inr (inr (inr z))) = inr (z ∙ sym ey)

    from : (p : ℕ) → IsReadBy m (Bit i k) p → (((p ≡ d) ⊎ (p ≡ v)) ⊎ (p ≡ x)) ⊎ (p ≡ y)
    from p g =
        let same : r ≡ g.0 = same_Some r g.0 (sym e ∙ g.1) in
        from-r p (subst (λ (z : RegisterOf). Decides z k p) (sym same) g.2)

-- the places of one statement more
pub statements-spread : (xs : List Statement) (i : ℕ) (x : Statement) → i < length xs → x ≡ get_or xs i x → (a b c : List Bool) (s t u : List ℕ) → Spreads (IsPlaceOf (take i xs)) a s b t
    → Spreads (λ p. (p ≡ x.a) ⊎ (p ≡ x.en)) b t c u → Spreads (IsPlaceOf (take (i + 1) xs)) a s c u
statements-spread xs i x l e a b c s t u before here =
    spread-as (λ p. IsPlaceOf (take i xs) p ⊎ ((p ≡ x.a) ⊎ (p ≡ x.en))) (IsPlaceOf (take (i + 1) xs)) a c s u to from
    (spread-then (IsPlaceOf (take i xs)) (λ p. (p ≡ x.a) ⊎ (p ≡ x.en)) a b c s t u before here)
  where
    to : (p : ℕ) → IsPlaceOf (take i xs) p ⊎ ((p ≡ x.a) ⊎ (p ≡ x.en)) → IsPlaceOf (take (i + 1) xs) p
    to p g = elim g as (λ _. IsPlaceOf (take (i + 1) xs) p) [
      | inl f ↦ (f.0, more-to xs i x l e f.0 (inl f.1), f.2)
      | inr f ↦ (x, more-to xs i x l e x (inr refl), f)
    ]

    from : (p : ℕ) → IsPlaceOf (take (i + 1) xs) p → IsPlaceOf (take i xs) p ⊎ ((p ≡ x.a) ⊎ (p ≡ x.en))
    from p g = elim (more-from xs i x l e g.0 g.1) as (λ _. IsPlaceOf (take i xs) p ⊎ ((p ≡ x.a) ⊎ (p ≡ x.en))) [
      | inl f ↦ inl (g.0, f, g.2)
      | inr q ↦ inr (subst (λ (z : Statement). (p ≡ z.a) ⊎ (p ≡ z.en)) q g.2)
    ]

-- where the cone begins
pub roots-spread : (m : ModelOf) (asked : Asked) (a b : List Bool) (s t : List ℕ)
    → Spreads (λ p. (((p ≡ m.zero) ⊎ (p ≡ suc m.zero)) ⊎ IsPlaceOf m.assumes p) ⊎ IsAskedPlace m asked p) a s b t → Spreads (IsRoot m asked) a s b t
roots-spread m asked a b s t h =
    spread-as (λ p. (((p ≡ m.zero) ⊎ (p ≡ suc m.zero)) ⊎ IsPlaceOf m.assumes p) ⊎ IsAskedPlace m asked p) (IsRoot m asked) a b s t to from h
  where
    to : (p : ℕ) → (((p ≡ m.zero) ⊎ (p ≡ suc m.zero)) ⊎ IsPlaceOf m.assumes p) ⊎ IsAskedPlace m asked p → IsRoot m asked p
    to p g = elim g as (λ _. IsRoot m asked p) [
      | inl f ↦ elim f as (λ _. IsRoot m asked p) [
        | inl x ↦ inr x
        | inr x ↦ inl (x.0, inr x.1, x.2)
      ]
      | inr x ↦ inl (x.0, inl x.1, x.2)
    ]

    from : (p : ℕ) → IsRoot m asked p → (((p ≡ m.zero) ⊎ (p ≡ suc m.zero)) ⊎ IsPlaceOf m.assumes p) ⊎ IsAskedPlace m asked p
    from p g = elim g as (λ _. (((p ≡ m.zero) ⊎ (p ≡ suc m.zero)) ⊎ IsPlaceOf m.assumes p) ⊎ IsAskedPlace m asked p) [
      | inl x ↦ elim x.1 as (λ _. (((p ≡ m.zero) ⊎ (p ≡ suc m.zero)) ⊎ IsPlaceOf m.assumes p) ⊎ IsAskedPlace m asked p) [
        | inl y ↦ inr (x.0, y, x.2)
        | inr y ↦ inl (inr (x.0, y, x.2))
      ]
      | inr x ↦ inl (inl x)
    ]

pub roots-made : (m : ModelOf) (asked : Asked) (z o : ℕ) (assumes : List Statement) → z ≡ m.zero → o ≡ suc m.zero → assumes ≡ m.assumes → (a b c d e : List Bool) (s t u v w : List ℕ)
    → Spreads (λ p. p ≡ z) a s b t → Spreads (λ p. p ≡ o) b t c u → Spreads (IsPlaceOf assumes) c u d v → Spreads (IsAskedPlace m asked) d v e w → Spreads (IsRoot m asked) a s e w
roots-made m asked z o assumes ez eo ea a b c d e s t u v w hz ho ha hk =
    roots-spread m asked a e s w
    (spread-then (λ p. ((p ≡ m.zero) ⊎ (p ≡ suc m.zero)) ⊎ IsPlaceOf m.assumes p) (IsAskedPlace m asked) a d e s v w
    (spread-then (λ p. (p ≡ m.zero) ⊎ (p ≡ suc m.zero)) (IsPlaceOf m.assumes) a c d s u v
    (spread-then (λ p. p ≡ m.zero) (λ p. p ≡ suc m.zero) a b c s t u
    (subst (λ (k : ℕ). Spreads (λ p. p ≡ k) a s b t) ez hz)
    (subst (λ (k : ℕ). Spreads (λ p. p ≡ k) b t c u) eo ho))
    (subst (λ (xs : List Statement). Spreads (IsPlaceOf xs) c u d v) ea ha))
    hk)

pub states-below : (m : ModelOf) → IsModel m → AreBelow m.size (states m)
states-below m is = below-from m.size (states m) (λ p h. source_below m is p (open_source m is p (Contains-append_left (states m) m.inputs p h)))

pub inputs-below : (m : ModelOf) → IsModel m → AreBelow m.size m.inputs
inputs-below m is = below-from m.size m.inputs (λ p h. source_below m is p (open_source m is p (Contains-append_right (states m) m.inputs p h)))

pub input-below : (m : ModelOf) → IsModel m → (k p : ℕ) → slice_get m.inputs k ≡ Some p → p < m.size
input-below m is k p e = source_below m is p (open_source m is p (Contains-append_right (states m) m.inputs p (contained_at m.inputs p k e)))
