-- Chains of clauses by what they weigh. A link is one more than the number of a clause, or 0.
use Rattle.std.specs.Prelude.{◌≡◌, ℕ, zero, suc, ◌+◌, ◌-◌, ◌%◌, ◌<◌, ◌≤◌, List, length, slice_index_or, Option, Some, None}

-- the links that begin the chains, those from clause to clause, and a bound of them all
pub record CopiesOf : Type 0 where
  pub firsts : List ℕ
  pub nexts : List ℕ
  pub count : ℕ

-- each link is at most the bound, and leads to a lower number
pub record AreChains (firsts nexts : List ℕ) (count : ℕ) : Type 0 where
  pub some : 0 < length firsts
  pub below : (i : ℕ) → slice_index_or firsts i 0 ≤ count
  pub falls : (k : ℕ) → slice_index_or nexts k 0 ≤ k

-- the link that begins the chain of a weight
abbrev pub beginning : List ℕ → ℕ → ℕ
beginning firsts h = slice_index_or firsts (h % length firsts) 0

-- the link from a clause on, or that which begins the chain of a weight
abbrev pub link_at : CopiesOf → ℕ → Option ℕ → ℕ
link_at t h (Some k) = slice_index_or t.nexts k 0
link_at t h None = beginning t.firsts h

-- the link that is this many steps after a link
abbrev pub after : List ℕ → ℕ → ℕ → ℕ
after nexts at zero = at
after nexts at (suc n) = after nexts (slice_index_or nexts (at - 1) 0) n

-- the clause is on the chain of the weight
pub record Holds (t : CopiesOf) (h k : ℕ) : Type 0 where
  pub steps : ℕ
  pub there : after t.nexts (beginning t.firsts h) steps ≡ k + 1
