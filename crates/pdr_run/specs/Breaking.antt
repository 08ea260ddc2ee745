-- Runs that break an assertion.
use Rattle.std.specs.Prelude.{◌≡◌, ℕ, ◌+◌, ◌<◌, true, Some}
use Rattle.cnf_form.specs.Cnf.{Assignment, Satisfies, lit_in}
use Rattle.pair_form.specs.Pair.{PairOf, bit_at}
use Rattle.pair_form.specs.declared.pair.BitLits.{BitLits}

-- the cycle after one is y: it is assumed there, and each state bit has in y the value that is said of it there
pub record Follows (p : PairOf) (x y : Assignment) : Type 0 where
  pub next : lit_in x p.next ≡ true
  pub bits : (place : ℕ) (b : BitLits) → bit_at p place ≡ Some b → lit_in x b.second ≡ lit_in y b.first

-- A run of n cycles, of each of which an assignment of the formula speaks as the first of two: it begins where a run may, each cycle but the
-- last is followed by the next one, and the last breaks an assertion.
pub record Breaks (p : PairOf) (n : ℕ) : Type 0 where
  pub cycles : ℕ → Assignment
  pub some : 0 < n
  pub formula : (i : ℕ) → i < n → Satisfies (cycles i) p.formula.clauses
  pub start : lit_in (cycles 0) p.start ≡ true
  pub follows : (i : ℕ) → i + 1 < n → Follows p (cycles i) (cycles (i + 1))
  pub bad : (i : ℕ) → i + 1 ≡ n → lit_in (cycles i) p.bad ≡ true
