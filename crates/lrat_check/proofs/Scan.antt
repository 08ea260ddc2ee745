-- How many literals of a clause are not negated, found literal by literal.
use Rattle.std.proofs.Common.{◌≡◌, ◌≢◌, ℕ, ◌<◌, ◌+◌, Bool, true, false, List, [], ◌∷◌, ◌++◌, length, take, drop, get_or, Option, Some, None, sym, ◌∙◌, subst, inl, inr}
use Rattle.std.specs.Prelude.{Contains}
use Rattle.std.proofs.lemmas.Bool.{both_ways}
use Rattle.std.proofs.lemmas.List.{take-append-drop}
use Rattle.std.proofs.lemmas.List.Elements.{Contains-push, Contains-push_cases, Contains-append_left}
use Rattle.cnf_form.specs.Cnf.{LitOf, negate}
use Rattle.cnf_form.proofs.Literals.{lit_cases}
use Rattle.cnf_form.proofs.Members.{Contains-empty, take_one_more, Contains-read}
use Rattle.lrat_check.specs.Hints.{IsNegated, LeavesOne}

-- what is known of the literals so far: all are negated, or all but one
abbrev pub Scanned : (LitOf → Bool) → List LitOf → Option LitOf → Type 0
Scanned s front None = IsNegated (λ l. s l ≡ true) front
Scanned s front (Some u) = LeavesOne (λ l. s l ≡ true) front u

pub Contains-take : {X : Type 0} (n : ℕ) (xs : List X) (x : X) → Contains (take n xs) x → Contains xs x
Contains-take n xs x h = subst (λ ys. Contains ys x) (take-append-drop n xs) (Contains-append_left (take n xs) (drop n xs) x h)

pub scanned_none : (s : LitOf → Bool) → IsNegated (λ l. s l ≡ true) []
scanned_none s m h = absurd (Contains-empty m h)

module _ (s : LitOf → Bool) (c : List LitOf) where
  negated_push : (l : LitOf) → Scanned s c None → s (negate l) ≡ true → Scanned s (c ++ l ∷ []) None
  negated_push l f n m h = elim (Contains-push_cases c l m h) [ inl h ↦ f m h | inr e ↦ subst (λ z. s (negate z) ≡ true) e n ]

  one_open : (l : LitOf) → Scanned s c None → s (negate l) ≡ false → Scanned s (c ++ l ∷ []) (Some l)
  one_open l f n = record {
    contains = Contains-push c l;
    left = λ t. both_ways _ n t;
    others = λ m h d. elim (Contains-push_cases c l m h) [ inl h ↦ f m h | inr e ↦ absurd (d (sym e)) ];
  }

  open_push : (u l : LitOf) → LeavesOne (λ l. s l ≡ true) c u → (u ≢ l → s (negate l) ≡ true) → Scanned s (c ++ l ∷ []) (Some u)
  open_push u l w n = record {
    contains = Contains-append_left c (l ∷ []) u w.contains;
    left = w.left;
    others = λ m h d. elim (Contains-push_cases c l m h) [
      | inl h ↦ w.others m h d
      | inr e ↦ subst (λ z. s (negate z) ≡ true) e (n (λ same. d (sym (same ∙ e))))
    ];
  }

  two_left : (u l : LitOf) → Contains c u → Contains c l → u ≢ l → s (negate u) ≡ false → s (negate l) ≡ false
      → (IsNegated (λ l. s l ≡ true) c → ⊥) × ((k : LitOf) → LeavesOne (λ l. s l ≡ true) c k → ⊥)
  two_left u l hu hl d nu nl = (
    λ f. both_ways _ nu (f u hu),
    λ k w. elim (lit_cases u k) [
      | inl e ↦ both_ways _ nl (w.others l hl (λ same. d (e ∙ sym same)))
      | inr ne ↦ both_ways _ nu (w.others u hu ne)
    ],
  )

not_true : (b : Bool) → (b ≡ true → ⊥) → b ≡ false
not_true true h = absurd (h (cc))
not_true false h = cc

module _ (s : LitOf → Bool) (cs : List LitOf) (i : ℕ) (l : LitOf) (h : i < length cs) (is : l ≡ get_or cs i l) (o o' : Option LitOf) where
  pub scan_open : Scanned s (take i cs) o → o ≡ None → o' ≡ Some l → s (negate l) ≡ false → Scanned s (take (i + 1) cs) o'
  scan_open w e e' n =
      let f : Scanned s (take i cs) None = subst (Scanned s (take i cs)) e w in
      rw (take_one_more cs i l h is, e') (one_open s (take i cs) l f n)

  pub scan_negated : Scanned s (take i cs) o → o' ≡ o → s (negate l) ≡ true → Scanned s (take (i + 1) cs) o'
  scan_negated w e n =
      rw (take_one_more cs i l h is, e) (scan_push o w)
    where
      scan_push : (o : Option LitOf) → Scanned s (take i cs) o → Scanned s (take i cs ++ l ∷ []) o
      scan_push None w = negated_push s (take i cs) l w n
      scan_push (Some u) w = open_push s (take i cs) u l w (λ d. n)

  pub scan_same : (u : LitOf) → Scanned s (take i cs) o → o ≡ Some u → o' ≡ Some u → u ≡ l → Scanned s (take (i + 1) cs) o'
  scan_same u w e e' same =
      let f : Scanned s (take i cs) (Some u) = subst (Scanned s (take i cs)) e w in
      rw (take_one_more cs i l h is, e') (open_push s (take i cs) u l f (λ d. absurd (d same)))

  pub scan_two : (u : LitOf) → Scanned s (take i cs) o → o ≡ Some u → u ≢ l → s (negate l) ≡ false
      → (IsNegated (λ l. s l ≡ true) cs → ⊥) × ((k : LitOf) → LeavesOne (λ l. s l ≡ true) cs k → ⊥)
  scan_two u w e ne n =
      let f : Scanned s (take i cs) (Some u) = subst (Scanned s (take i cs)) e w in
      two_left s cs u l (Contains-take i cs u f.contains) (Contains-read cs i l h is) ne (not_true _ f.left) n
