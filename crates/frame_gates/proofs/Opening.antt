-- One more literal.
use Rattle.std.proofs.Common.{◌≡◌, ℕ, zero, suc, ◌+◌, ◌<◌, Bool, List, [], ◌∷◌, ◌++◌, refl, sym, ap, ◌∙◌, subst, inl, inr, arith, length}
use Rattle.cnf_form.specs.Cnf.{LitOf}
use Rattle.gate_graph.specs.Circuit.{GatesOf, Means}
use Rattle.frame_gates.specs.Frames.{lit_at}
use Rattle.model_core.proofs.Lists.{below_or_last}

lit_push-old : (lits : List LitOf) (l : LitOf) (k : ℕ) → k < length lits → lit_at (lits ++ l ∷ []) k ≡ lit_at lits k
lit_push-old [] l k h = absurd (omega arith)
lit_push-old (m ∷ lits) l zero h = refl
lit_push-old (m ∷ lits) l (suc k) h = lit_push-old lits l k (omega arith)

lit_push-new : (lits : List LitOf) (l : LitOf) → lit_at (lits ++ l ∷ []) (length lits) ≡ l
lit_push-new [] l = refl
lit_push-new (m ∷ lits) l = lit_push-new lits l

-- one more constant
pub constant_push : (g : GatesOf) (lits : List LitOf) (l : LitOf) (n place : ℕ) (b : Bool) → length lits ≡ n → ((p : ℕ) → p < n → p ≡ place → Means g (lit_at lits p) (λ _. b)) →
    (n ≡ place → Means g l (λ _. b)) → (p : ℕ) → p < n + 1 → p ≡ place → Means g (lit_at (lits ++ l ∷ []) p) (λ _. b)
constant_push g lits l n place b e old new p h at = elim (below_or_last p n h) as (λ _. Means g (lit_at (lits ++ l ∷ []) p) (λ _. b)) [
  | inl i ↦ subst (λ (k : LitOf). Means g k (λ _. b)) (sym (lit_push-old lits l p (omega arith))) (old p i at)
  | inr i ↦ subst (λ (k : LitOf). Means g k (λ _. b)) (sym (ap (lit_at (lits ++ l ∷ [])) (i ∙ sym e) ∙ lit_push-new lits l)) (new (sym i ∙ at))
]
