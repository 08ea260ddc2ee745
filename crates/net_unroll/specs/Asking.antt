-- What is asked of a net over some cycles, and what solves it.
use Rattle.std.specs.Prelude.{◌≡◌, ℕ, suc, ◌<◌, ◌≤◌, Bool, true, false, Option, Some, slice_get, option_map}
use Rattle.cnf_form.specs.Cnf.{LitOf, Assignment, lit_in, negate}
use Rattle.bit_net.specs.Net.{NetOf, Run, Window}
use Rattle.net_unroll.specs.declared.asking.Asked.{Asked}
use Rattle.net_unroll.specs.declared.asking.Asked.TheVariants.{Asserts, Cover}
use Rattle.net_unroll.specs.declared.asking.Cycles.{Cycles}

-- the literal that is true in a cycle where what is asked for is met, if there is something to ask for
abbrev pub goal_of : NetOf → Asked → Option LitOf
goal_of n Asserts = option_map negate n.asserted
goal_of n (Cover k) = slice_get n.covers k

-- what is asked for is met in the cycle
abbrev pub Meets : NetOf → Asked → Assignment → Type 0
Meets n a x = (l : LitOf) × (goal_of n a ≡ Some l) × (lit_in x l ≡ true)

-- neighbouring cycles, from a start or from any state
abbrev pub AreCycles : Bool → NetOf → ℕ → (ℕ → Assignment) → Type 0
AreCycles true n m xs = Run n m xs
AreCycles false n m xs = Window n m xs

-- m neighbouring cycles, all assumed, whose last may be one that ends and meets what is asked for, as no earlier one that counts does
pub record Solves (n : NetOf) (a : Asked) (c : Cycles) (m : ℕ) (xs : ℕ → Assignment) : Type 0 where
  pub some : 0 < m
  pub most : m ≤ c.count
  pub cycles : AreCycles c.start n m xs
  pub assumed : (t : ℕ) → t < m → lit_in (xs t) n.assumed ≡ true
  pub ends : (t : ℕ) → suc t ≡ m → (c.first ≤ t) × (c.end ≤ t)
  pub before : (t : ℕ) → suc t < m → c.first ≤ t → Meets n a (xs t) → ⊥
  pub last : (t : ℕ) → suc t ≡ m → Meets n a (xs t)

abbrev pub Solvable : NetOf → Asked → Cycles → Type 0
Solvable n a c = (m : ℕ) × (xs : ℕ → Assignment) × Solves n a c m xs
