-- Two neighbouring cycles as a formula, with the literals that speak of them.
use Rattle.std.specs.Prelude.{◌≡◌, ℕ, zero, suc, ◌≤◌, ◌^◌, Bool, true, false, List, [], ◌∷◌, map, length, Option, Some, None, slice_index_or}
use Rattle.std.specs.List.{flat_map}
use Rattle.cnf_form.specs.Cnf.{LitOf, FormulaOf, Assignment, LitWithin, Satisfies, Within, lit_in, negate}
use Rattle.cnf_form.specs.declared.literal.TheConstants.{MAX_VARS}
use Rattle.pair_form.specs.declared.pair.Frame.{Frame}
use Rattle.pair_form.specs.declared.pair.Frame.TheVariants.{First, Second}
use Rattle.pair_form.specs.declared.pair.BitLits.{BitLits}

-- The formula, the literals that the first cycle may begin a run, that the second is assumed, and that the first breaks an assertion, and for
-- each state bit, the numbers of which count from 1, its literals, where it has some.
pub record PairOf : Type 0 where
  pub formula : FormulaOf
  pub start : LitOf
  pub next : LitOf
  pub bad : LitOf
  pub bits : List (Option BitLits)

-- a bit's literal in a cycle
abbrev pub lit_of : Frame → BitLits → LitOf
lit_of First b = b.first
lit_of Second b = b.second

abbrev pub lit_by : Frame → Option BitLits → Option LitOf
lit_by t None = None
lit_by t (Some b) = Some (lit_of t b)

-- the literals of a state bit by its place: bit number n stands at place n - 1
abbrev pub bit_at : PairOf → ℕ → Option BitLits
bit_at p place = slice_index_or p.bits place None

-- the literal of state bit number n in a cycle, where it has one
abbrev pub bit_lits : PairOf → Frame → ℕ → Option LitOf
bit_lits p t zero = None
bit_lits p t (suc place) = lit_by t (bit_at p place)

-- the literals are of the formula's variables, as its clauses are, and numbers of bits can be counted
pub record IsPair (p : PairOf) : Type 0 where
  pub vars : p.formula.vars ≤ MAX_VARS
  pub count : length p.formula.clauses ≤ 2 ^ 63
  pub clauses : Within p.formula.vars p.formula.clauses
  pub start : LitWithin p.formula.vars p.start
  pub next : LitWithin p.formula.vars p.next
  pub bad : LitWithin p.formula.vars p.bad
  pub bits : length p.bits ≤ 2 ^ 31
  pub first : (n : ℕ) (b : BitLits) → bit_at p n ≡ Some b → LitWithin p.formula.vars b.first
  pub second : (n : ℕ) (b : BitLits) → bit_at p n ≡ Some b → LitWithin p.formula.vars b.second

-- the literal, or its negation
abbrev pub signed : Bool → LitOf → LitOf
signed true l = negate l
signed false l = l

-- A literal over the numbers of state bits, said of a cycle. One of a bit that has no literal is left out; no stream has one.
abbrev pub lits_by : Bool → Option LitOf → List LitOf
lits_by negated None = []
lits_by negated (Some l) = signed negated l ∷ []

abbrev pub lits_over : PairOf → Frame → LitOf → List LitOf
lits_over p t l = lits_by l.negated (bit_lits p t l.var)

-- clauses over the numbers of state bits, said of a cycle
abbrev pub clause_over : PairOf → Frame → List LitOf → List LitOf
clause_over p t c = flat_map (lits_over p t) c

abbrev pub clauses_over : PairOf → Frame → List (List LitOf) → List (List LitOf)
clauses_over p t I = map (clause_over p t) I

-- What assignments make of clauses over state bits: they hold where the first cycle may begin a run; where they hold of the first cycle
-- and the second is assumed, they hold of the second; and where they hold of the first, it breaks no assertion.
pub record IsInvariant (p : PairOf) (I : List (List LitOf)) : Type 0 where
  pub starts : (x : Assignment) → Satisfies x p.formula.clauses → lit_in x p.start ≡ true → Satisfies x (clauses_over p First I)
  pub goes_on : (x : Assignment) → Satisfies x p.formula.clauses → Satisfies x (clauses_over p First I) → lit_in x p.next ≡ true → Satisfies x (clauses_over p Second I)
  pub safe : (x : Assignment) → Satisfies x p.formula.clauses → Satisfies x (clauses_over p First I) → lit_in x p.bad ≡ true → ⊥

-- the same but for bits without literals after the last that has some
pub record IsSamePair (p q : PairOf) : Type 0 where
  pub formula : p.formula ≡ q.formula
  pub start : p.start ≡ q.start
  pub next : p.next ≡ q.next
  pub bad : p.bad ≡ q.bad
  pub bits : (n : ℕ) → bit_at p n ≡ bit_at q n
