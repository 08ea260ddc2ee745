-- Where a clause stands, found literal by literal.
use Rattle.std.proofs.Common.{◌≡◌, ◌≢◌, ℕ, ◌<◌, ◌+◌, List, [], ◌∷◌, ◌++◌, length, take, drop, get_or, refl, sym, ◌∙◌, subst, inl, inr}
use Rattle.std.specs.Prelude.{Contains, Option, Some, None}
use Rattle.std.proofs.lemmas.List.{take-append-drop}
use Rattle.std.proofs.lemmas.List.Elements.{Contains-push, Contains-push_cases, Contains-append_left}
use Rattle.cnf_form.specs.Cnf.{LitOf, negate}
use Rattle.cnf_form.proofs.Members.{Contains-empty, take_one_more, Contains-read}
use Rattle.unit_propagation.specs.Propagation.{IsUnassigned, IsFalsified, IsFalsifiedBut}

-- what is known of the literals so far: all are false, or all but an unassigned one
abbrev pub Scanned : List LitOf → List LitOf → Option LitOf → Type 0
Scanned t front None = IsFalsified t front
Scanned t front (Some u) = Contains front u × IsUnassigned t u × IsFalsifiedBut t front u

Contains-take : (n : ℕ) (xs : List LitOf) (x : LitOf) → Contains (take n xs) x → Contains xs x
Contains-take n xs x h = subst (λ ys. Contains ys x) (take-append-drop n xs) (Contains-append_left (take n xs) (drop n xs) x h)

pub falsified_none : (t : List LitOf) → IsFalsified t []
falsified_none t = record { each = λ l h. absurd (Contains-empty l h) }

but_more : (t c : List LitOf) (l u : LitOf) → ((m : LitOf) → Contains c m → m ≢ u → Contains t (negate m)) → (l ≢ u → Contains t (negate l)) → IsFalsifiedBut t (c ++ l ∷ []) u
but_more t c l u f n = record {
  each = λ m h d. elim (Contains-push_cases c l m h) [ inl h ↦ f m h d | inr e ↦ subst (λ z. Contains t (negate z)) e (n (λ g. d (sym e ∙ g))) ];
}

module _ (t cs : List LitOf) (i : ℕ) (l : LitOf) (h : i < length cs) (is : l ≡ get_or cs i l) (o o' : Option LitOf) where
  pub scan_open : Scanned t (take i cs) o → o ≡ None → o' ≡ Some l → IsUnassigned t l → Scanned t (take (i + 1) cs) o'
  scan_open w e e' op =
      let f : Scanned t (take i cs) None = subst (Scanned t (take i cs)) e w in
      rw (take_one_more cs i l h is, e') (Contains-push (take i cs) l, op, but_more t (take i cs) l l (λ m k d. f.each m k) (λ d. absurd (d refl)))

  pub scan_negated : Scanned t (take i cs) o → o' ≡ o → Contains t (negate l) → Scanned t (take (i + 1) cs) o'
  scan_negated w e n =
      rw (take_one_more cs i l h is, e) (scan_push o w)
    where
      scan_push : (o : Option LitOf) → Scanned t (take i cs) o → Scanned t (take i cs ++ l ∷ []) o
      scan_push None w = record { each = λ m k. elim (Contains-push_cases (take i cs) l m k) [ inl k ↦ w.each m k | inr g ↦ subst (λ z. Contains t (negate z)) g n ] }
      scan_push (Some u) w = (Contains-append_left (take i cs) (l ∷ []) u w.0, w.1, (let b = w.2 in but_more t (take i cs) l u b.each (λ d. n)))

  pub scan_same : (u : LitOf) → Scanned t (take i cs) o → o ≡ Some u → o' ≡ Some u → u ≡ l → Scanned t (take (i + 1) cs) o'
  scan_same u w e e' same =
      let f : Scanned t (take i cs) (Some u) = subst (Scanned t (take i cs)) e w in
      let b = f.2 in
      rw (take_one_more cs i l h is, e') (Contains-append_left (take i cs) (l ∷ []) u f.0, f.1, but_more t (take i cs) l u b.each (λ d. absurd (d (sym same))))

  pub scan_two : (u : LitOf) → Scanned t (take i cs) o → o ≡ Some u → u ≢ l → IsUnassigned t l → Contains cs u × Contains cs l × (u ≢ l) × IsUnassigned t u × IsUnassigned t l
  scan_two u w e ne op =
      let f : Scanned t (take i cs) (Some u) = subst (Scanned t (take i cs)) e w in
      (Contains-take i cs u f.0, Contains-read cs i l h is, ne, f.1, op)
