-- Lemmas on literals.
use Rattle.std.proofs.Common.{◌≡◌, ◌≢◌, true, false, not, refl, sym, ◌∙◌, ap, inl, inr, ◌⊎◌, eqb}
use Rattle.std.proofs.lemmas.Bool.{cases_eq, both_ways, eqb-true, eq-eqb, not-true, not-false}
use Rattle.cnf_form.specs.Cnf.{LitOf, negate, index_of}
use Rattle.cnf_form.specs.Coding.{lit_from, lit_from-index_of}

-- two literals at one place are the same
pub index_of-injective : (l m : LitOf) → index_of l ≡ index_of m → l ≡ m
index_of-injective l m h = sym (lit_from-index_of l) ∙ ap lit_from h ∙ lit_from-index_of m

-- two literals are equal or not
pub lit_cases : (a b : LitOf) → (a ≡ b) ⊎ (a ≢ b)
lit_cases a b =
    elim (cases_eq (index_of a) (index_of b)) [
      | inl e ↦ inl (index_of-injective a b e)
      | inr d ↦ inr (λ e. d (ap index_of e))
    ]

pub negate-negate : (l : LitOf) → negate (negate l) ≡ l
negate-negate l = elim l.negated as (λ b. let m : LitOf = record { var = l.var; negated = b } in negate (negate m) ≡ m) [ true ↦ refl | false ↦ refl ]

-- what the derived `==` and `!=` say
pub same_by_eq : (a b : LitOf) → eqb (index_of a) (index_of b) ≡ true → a ≡ b
same_by_eq a b h = index_of-injective a b (eqb-true _ _ h)

pub apart_by_eq : (a b : LitOf) → eqb (index_of a) (index_of b) ≡ false → a ≢ b
apart_by_eq a b h e = both_ways _ h (eq-eqb _ _ (ap index_of e))

pub same_by_ne : (a b : LitOf) → not (eqb (index_of a) (index_of b)) ≡ false → a ≡ b
same_by_ne a b h = same_by_eq a b (not-false _ h)

pub apart_by_ne : (a b : LitOf) → not (eqb (index_of a) (index_of b)) ≡ true → a ≢ b
apart_by_ne a b h = apart_by_eq a b (not-true _ h)
