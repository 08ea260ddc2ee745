-- One more job's answer is collected.
use Rattle.race_core.specs.Asking.{name_at}
use Rattle.std.proofs.Common.{◌≡◌, ◌⊎◌, ℕ, zero, suc, ◌+◌, List, [], ◌∷◌, ◌++◌, length, Option, Some, None, refl, sym, ◌∙◌, subst, inl, inr, arith, length-append}
use Rattle.std.specs.Prelude.{slice_get}
use Rattle.sby_terms.specs.declared.names.Mode.{Mode}
use Rattle.sby_terms.specs.declared.names.JobName.{JobName}
use Rattle.sby_terms.specs.declared.names.Answer.{Answer}
use Rattle.race_core.specs.Report.{ReportOf}
use Rattle.race_core.specs.Collect.{SettledIn, IsAnswer, AreCollected, IsPrinting, ArePrinting}

push-cases : {X : Type 0} (xs : List X) (x : X) (k : ℕ) (y : X) → slice_get (xs ++ x ∷ []) k ≡ Some y → (slice_get xs k ≡ Some y) ⊎ ((k ≡ length xs) × (x ≡ y))
push-cases [] x zero y h = inr (refl, cc)
push-cases [] x (suc k) y h = absurd (none-some y h)
  where
    none-some : {S : Type 0} (g : S) → None ≡ Some g → ⊥
    none-some g e = cc
push-cases (z ∷ xs) x zero y h = inl h
push-cases (z ∷ xs) x (suc k) y h = elim (push-cases xs x k y h) [ inl o ↦ inl o | inr e ↦ inr (omega arith, e.1) ]

pub one-more : {T : Type 0} (job : T → JobName) (answer : T → Answer) (mode : Mode) (n : ℕ) (reports : List (ReportOf T)) (xs ys : List (Option Answer)) (o : Option Answer)
    → AreCollected job answer mode n reports xs → ys ≡ xs ++ o ∷ [] → IsAnswer answer (λ f. SettledIn job reports (name_at mode n) f) o
    → AreCollected job answer mode (n + 1) reports ys
one-more job answer mode n reports xs ys o c e a = subst (λ zs. AreCollected job answer mode (n + 1) reports zs) (sym e) (record {
  size = omega (arith, length-append xs (o ∷ []), c.size);
  entry = λ k p h. elim (push-cases xs o k p h) [
    | inl old ↦ c.entry k p old
    | inr new ↦ subst (λ (x : Option Answer). IsAnswer answer (λ f. SettledIn job reports (name_at mode k) f) x) new.1
        (subst (λ (m : ℕ). IsAnswer answer (λ f. SettledIn job reports (name_at mode m) f) o) (sym (new.0 ∙ c.size)) a)
  ];
})

pub one-more-lane : {T : Type 0} (job : T → JobName) (mode : Mode) (n : ℕ) (reports : List (ReportOf T)) (xs ys : List (Option ℕ)) (o : Option ℕ)
    → ArePrinting job mode n reports xs → ys ≡ xs ++ o ∷ [] → IsPrinting job reports n (name_at mode n) o → ArePrinting job mode (n + 1) reports ys
one-more-lane job mode n reports xs ys o c e a = subst (λ zs. ArePrinting job mode (n + 1) reports zs) (sym e) (record {
  size = omega (arith, length-append xs (o ∷ []), c.size);
  each = λ k p h. elim (push-cases xs o k p h) [
    | inl old ↦ c.each k p old
    | inr new ↦ subst (λ (x : Option ℕ). IsPrinting job reports k (name_at mode k) x) new.1
        (subst (λ (m : ℕ). IsPrinting job reports m (name_at mode m) o) (sym (new.0 ∙ c.size)) a)
  ];
})
