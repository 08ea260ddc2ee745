-- A clause that RUP admits is true wherever the formula is.
use Rattle.std.proofs.Common.{◌≡◌, ◌≢◌, Bool, true, false, not, cond, List, [], ◌∷◌, ◌++◌, refl, subst, inl, inr, ◌⊎◌}
use Rattle.std.specs.Prelude.{Contains}
use Rattle.std.proofs.lemmas.Bool.{cases_Bool}
use Rattle.std.proofs.lemmas.List.Elements.{Contains-append_cases, Contains-push_cases}
use Rattle.cnf_form.specs.Cnf.{LitOf, Assignment, negate, lit_in, SatisfiesClause, Satisfies, Closure, propagated, Conflict, negated_units, IsAdmitted}
use Rattle.cnf_form.proofs.Literals.{lit_cases}
use Rattle.cnf_form.proofs.Members.{Contains-empty, Contains-head, Contains-tail, Contains-cases, Contains-map_from}

-- a set that is closed under unit propagation
abbrev pub IsClosedUnder : List (List LitOf) → (LitOf → Type 0) → Type 0
IsClosedUnder F P = (c : List LitOf) (l : LitOf) → Contains F c → Contains c l → ((m : LitOf) → Contains c m → m ≢ l → P (negate m)) → P l

-- the closure is below each closed set
pub Closure-least : {F : List (List LitOf)} (P : LitOf → Type 0) → IsClosedUnder F P → {l : LitOf} → Closure F l → P l
Closure-least P closed (propagated c l in_formula in_clause others) =
    closed c l in_formula in_clause (λ m h n. Closure-least P closed (others m h n))

signs_differ : (n b : Bool) → cond n (not b) b ≡ true → cond (not n) (not b) b ≡ true → ⊥
signs_differ true true h k = cc
signs_differ true false h k = cc
signs_differ false true h k = cc
signs_differ false false h k = cc

one_sign : (n b : Bool) → cond n (not b) b ≡ false → cond (not n) (not b) b ≡ true
one_sign true true h = refl
one_sign true false h = cc
one_sign false true h = cc
one_sign false false h = refl

-- a literal and its negation are not both true, and not both false
pub lit_in-negate : (x : Assignment) (l : LitOf) → lit_in x l ≡ true → lit_in x (negate l) ≡ true → ⊥
lit_in-negate x l h k = signs_differ l.negated (x l.var) h k

pub lit_in-negate_false : (x : Assignment) (l : LitOf) → lit_in x l ≡ false → lit_in x (negate l) ≡ true
lit_in-negate_false x l h = one_sign l.negated (x l.var) h

-- a clause has a true literal, or the negation of each of its literals is true
pub clause_cases : (x : Assignment) (c : List LitOf) → SatisfiesClause x c ⊎ ((l : LitOf) → Contains c l → lit_in x (negate l) ≡ true)
clause_cases x [] = inr (λ l h. absurd (Contains-empty l h))
clause_cases x (l ∷ c) =
    elim (cases_Bool (lit_in x l)) [
      | inl t ↦ inl (l, Contains-head l c, t)
      | inr f ↦ elim (clause_cases x c) [
        | inl w ↦ inl (w.0, Contains-tail l w.0 c w.1, w.2)
        | inr n ↦ inr (λ m h. elim (Contains-cases l m c h) [
          | inl e ↦ subst (λ z. lit_in x (negate z) ≡ true) e (lit_in-negate_false x l f)
          | inr h ↦ n m h
        ])
      ]
    ]

-- what unit propagation derives is true wherever the formula is
pub Closure-true : (x : Assignment) (F : List (List LitOf)) → Satisfies x F → (l : LitOf) → Closure F l → lit_in x l ≡ true
Closure-true x F sat l h =
    Closure-least (λ m. lit_in x m ≡ true) (λ c m in_formula in_clause others.
    let w = sat c in_formula in
    elim (lit_cases w.0 m) [
      | inl e ↦ subst (λ z. lit_in x z ≡ true) e w.2
      | inr n ↦ absurd (lit_in-negate x w.0 w.2 (others w.0 w.1 n))
    ]) h

pub Conflict-unsatisfied : (x : Assignment) (F : List (List LitOf)) → Conflict F → Satisfies x F → ⊥
Conflict-unsatisfied x F c sat =
    let w = sat c.0 c.1 in
    lit_in-negate x w.0 w.2 (Closure-true x F sat (negate w.0) (c.2 w.0 w.1))

pub Satisfies-append : (x : Assignment) (F G : List (List LitOf)) → Satisfies x F → Satisfies x G → Satisfies x (F ++ G)
Satisfies-append x F G f g c h = elim (Contains-append_cases F G c h) [ inl h ↦ f c h | inr h ↦ g c h ]

pub Satisfies-units : (x : Assignment) (c : List LitOf) → ((l : LitOf) → Contains c l → lit_in x (negate l) ≡ true) → Satisfies x (negated_units c)
Satisfies-units x c false_all d h =
    let w = Contains-map_from (λ l. negate l ∷ []) d c h in
    subst (SatisfiesClause x) w.2 (negate w.0, Contains-head (negate w.0) [], false_all w.0 w.1)

-- RUP is sound
pub Admitted-true : (x : Assignment) (F : List (List LitOf)) (c : List LitOf) → IsAdmitted F c → Satisfies x F → SatisfiesClause x c
Admitted-true x F c admitted sat =
    elim (clause_cases x c) [
      | inl w ↦ w
      | inr n ↦ absurd (Conflict-unsatisfied x (F ++ negated_units c) admitted (Satisfies-append x F (negated_units c) sat (Satisfies-units x c n)))
    ]

pub Satisfies-push : (x : Assignment) (F : List (List LitOf)) (c : List LitOf) → Satisfies x F → SatisfiesClause x c → Satisfies x (F ++ c ∷ [])
Satisfies-push x F c sat w d h = elim (Contains-push_cases F c d h) [ inl h ↦ sat d h | inr e ↦ subst (SatisfiesClause x) e w ]
