-- Sets of literals as tables of marks, and what a set weighs.
use Rattle.std.specs.Prelude.{◌≡◌, ℕ, ◌+◌, ◌*◌, ◌/◌, ◌%◌, ◌^◌, ◌<◌, Bool, if◌then◌else◌, List, [], ◌∷◌, length, All}
use Rattle.cnf_form.specs.Cnf.{LitOf}
use Rattle.unit_propagation.specs.Marks.{Shows}

-- each literal of the clause has its places
abbrev pub HasPlaces : List Bool → List LitOf → Type 0
HasPlaces marks c = All (λ l. 2 * l.var + 1 < length marks) c

-- what a literal adds to the weight of a set, by its place
unfoldable pub scattered : ℕ → ℕ → ℕ
scattered salt place = let high = (place * salt) % 2 ^ 64 / 2 ^ 32 in ((high * high) % 2 ^ 64 / 2 ^ 16) % 2 ^ 32 + 1

-- the sum over the marked places, of which the first has this number
abbrev pub sum_from : ℕ → ℕ → List Bool → ℕ
sum_from salt place [] = 0
sum_from salt place (b ∷ bs) = (if b then scattered salt place else 0) + sum_from salt (place + 1) bs

-- what a set of literals weighs
abbrev pub weight : ℕ → List Bool → ℕ
weight salt marks = sum_from salt 0 marks % 2 ^ 64

-- each table of the literals of the clause has this weight
pub record Weighs (salt : ℕ) (c : List LitOf) (h : ℕ) : Type 0 where
  pub each : (marks : List Bool) → Shows marks c → weight salt marks ≡ h
