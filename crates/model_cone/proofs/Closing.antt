-- A cone is closed.
use Rattle.std.proofs.Common.{◌≡◌, inl, inr, ℕ, suc, Bool, true, false, ◌||◌, List, [], ◌∷◌, Some, refl, arith}
use Rattle.std.specs.Prelude.{Contains, slice_get}
use Rattle.model_core.specs.Shape.{ModelOf, NodeOf, RegisterOf, reads}
use Rattle.model_core.specs.declared.model.Statement.{Statement}
use Rattle.model_cone.specs.declared.asked.Asked.{Asked}
use Rattle.model_cone.specs.Cone.{Counts, Decides, IsCone}
use Rattle.model_cone.specs.Slice.{has_kept}
use Rattle.model_cone.proofs.Coning.{cone-on}

pub kept-place : (keep : ℕ → Bool) (ps : List ℕ) → has_kept keep ps ≡ true → (p : ℕ) × Contains ps p × (keep p ≡ true)
kept-place keep [] h = absurd (let z : false ≡ true = h in cc)
kept-place keep (q ∷ ps) h = by (keep q) refl h (λ g. kept-place keep ps g)
  where
    by : (b : Bool) → keep q ≡ b → (b || has_kept keep ps) ≡ true → (has_kept keep ps ≡ true → (p : ℕ) × Contains ps p × (keep p ≡ true)) → (p : ℕ) × Contains (q ∷ ps) p × (keep p ≡ true)
    by true e g rest = (q, (0, omega arith, refl), e)
    by false e g rest = let r = rest g in (r.0, (suc r.1.0, (let l = r.1.1 in omega arith), r.1.2), r.2)

module _ (m : ModelOf) (asked : Asked) (keep : ℕ → Bool) (cone : IsCone m asked keep) where
  pub bit-closed : (i k : ℕ) (r : RegisterOf) (p q : ℕ) → slice_get m.registers i ≡ Some r → slice_get r.q k ≡ Some p → keep p ≡ true → Decides r k q → keep q ≡ true
  bit-closed i k r p q at here h d = (cone q).1 (cone-on m asked p q ((cone p).0 h) (inr (i, k, r, at, here, d)))

  pub node-closed : (i : ℕ) (n : NodeOf) (p : ℕ) → slice_get m.nodes i ≡ Some n → has_kept keep n.y ≡ true → Contains (reads n) p → keep p ≡ true
  node-closed i n p at h c = let k = kept-place keep n.y h in (cone p).1 (cone-on m asked k.0 p ((cone k.0).0 k.2) (inl (i, n, at, k.1, c)))

  pub constants-kept : (keep m.zero ≡ true) × (keep (suc m.zero) ≡ true)
  constants-kept = ((cone m.zero).1 (m.zero, 0, inr (inl refl), refl), (cone (suc m.zero)).1 (suc m.zero, 0, inr (inr refl), refl))

  pub statement-kept : (s : Statement) → Counts m asked s → (keep s.a ≡ true) × (keep s.en ≡ true)
  statement-kept s h = ((cone s.a).1 (s.a, 0, inl (s, h, inl refl), refl), (cone s.en).1 (s.en, 0, inl (s, h, inr refl), refl))
