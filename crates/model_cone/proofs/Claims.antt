-- What is said of cycles that are the same in the cone.
use Rattle.std.proofs.Common.{◌≡◌, inl, inr, ℕ, refl, sym, ◌∙◌}
use Rattle.model_core.specs.Meaning.{Assumed, Broken, Cycle, Reached}
use Rattle.model_core.specs.Shape.{ModelOf}
use Rattle.model_core.specs.declared.model.Statement.{Statement}
use Rattle.model_core.proofs.Lists.{contained_at}
use Rattle.model_cone.specs.declared.asked.Asked.{Asked}
use Rattle.model_cone.specs.declared.asked.Asked.TheVariants.{Asserts, Covers}
use Rattle.model_cone.specs.Cone.{AgreeInCone, Counts}

module _ (m : ModelOf) (asked : Asked) (c e : Cycle) (h : AgreeInCone m asked c e) where
  at-a : (s : Statement) → Counts m asked s → c s.a ≡ e s.a
  at-a s k = h s.a (s.a, 0, inl (s, k, inl refl), refl)

  at-en : (s : Statement) → Counts m asked s → c s.en ≡ e s.en
  at-en s k = h s.en (s.en, 0, inl (s, k, inr refl), refl)

  pub assumed-to : Assumed m c → Assumed m e
  assumed-to a i s at =
      let x = at-a s (inr (contained_at m.assumes s i at)) in
      let y = at-en s (inr (contained_at m.assumes s i at)) in
      rw (← x, ← y) (a i s at)

  pub assumed-from : Assumed m e → Assumed m c
  assumed-from a i s at =
      let x = at-a s (inr (contained_at m.assumes s i at)) in
      let y = at-en s (inr (contained_at m.assumes s i at)) in
      rw (x, y) (a i s at)

module _ (m : ModelOf) (c e : Cycle) (h : AgreeInCone m Asserts c e) (k : ℕ) where
  pub broken-to : Broken m c k → Broken m e k
  broken-to (s, at, en, a) =
      let i = inl (contained_at m.asserts s k at) in
      (s, at, sym (at-en m Asserts c e h s i) ∙ en, sym (at-a m Asserts c e h s i) ∙ a)

  pub broken-from : Broken m e k → Broken m c k
  broken-from (s, at, en, a) =
      let i = inl (contained_at m.asserts s k at) in
      (s, at, at-en m Asserts c e h s i ∙ en, at-a m Asserts c e h s i ∙ a)

module _ (m : ModelOf) (k : ℕ) (c e : Cycle) (h : AgreeInCone m Covers c e) where
  pub reached-to : Reached m c k → Reached m e k
  reached-to (s, at, en, a) = (s, at, sym (at-en m Covers c e h s (inl (contained_at m.covers s k at))) ∙ en, sym (at-a m Covers c e h s (inl (contained_at m.covers s k at))) ∙ a)

  pub reached-from : Reached m e k → Reached m c k
  reached-from (s, at, en, a) = (s, at, at-en m Covers c e h s (inl (contained_at m.covers s k at)) ∙ en, at-a m Covers c e h s (inl (contained_at m.covers s k at)) ∙ a)
