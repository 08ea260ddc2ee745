-- The values that a stream names.
use Rattle.std.specs.Prelude.{◌≡◌, ℕ, ◌+◌, ◌<◌, Bool, false, not, cond, eqb, List, [], ◌∷◌, Some, slice_get, slice_index_or}
use Rattle.cnf_form.specs.Cnf.{LitOf, Assignment, SatisfiesClause}

-- the values in a table with a place for each variable
abbrev pub values_of : List Bool → Assignment
values_of bits v = slice_index_or bits v false

-- a variable that isn't named is false
abbrev pub unnamed : Assignment
unnamed v = false

-- a literal gives its variable its sign
abbrev pub named : Assignment → LitOf → Assignment
named x l v = cond (eqb v l.var) (not l.negated) (x v)

-- a variable has the sign of the last literal that names it
abbrev pub named_from : Assignment → List LitOf → Assignment
named_from x [] = x
named_from x (l ∷ ls) = named_from (named x l) ls

-- clause number n, counted from 1, is the first one that isn't satisfied
abbrev pub IsFirstUnsatisfied : Assignment → List (List LitOf) → ℕ → Type 0
IsFirstUnsatisfied x F n =
    (i : ℕ) × (c : List LitOf) × (n ≡ i + 1) × (slice_get F i ≡ Some c) × (SatisfiesClause x c → ⊥)
    × ((j : ℕ) (d : List LitOf) → j < i → slice_get F j ≡ Some d → SatisfiesClause x d)
