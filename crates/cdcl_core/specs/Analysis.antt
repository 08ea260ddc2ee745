-- The analysis of a conflict.
use Rattle.std.specs.Prelude.{◌≡◌, ◌≢◌, ◌⊎◌, ℕ, ◌+◌, ◌*◌, ◌≤◌, Bool, true, List, [], length, take, Option, Some, None, Contains}
use Rattle.cnf_form.specs.Cnf.{LitOf, negate, ClauseWithin, Closure, Conflict, IsAdmitted}
use Rattle.unit_propagation.specs.Marks.{is_marked}
use Rattle.unit_propagation.specs.Propagation.{ContainsAll, IsDerived}
use Rattle.unit_propagation.specs.Propagator.{PropagatorOf, clauses_of}

-- no literal is marked
abbrev pub IsClear : List Bool → Type 0
IsClear seen = (l : LitOf) → is_marked seen l ≡ true → ⊥

-- Each marked literal is listed: its negation where it was true when the last level began, else itself.
pub record AreMarksListed (t : List LitOf) (base : ℕ) (seen : List Bool) (lower current : List LitOf) : Type 0 where
  pub listed : (l : LitOf) → is_marked seen l ≡ true → Contains lower (negate l) ⊎ Contains current l
  pub lower_false : (m : LitOf) → Contains lower m → Contains (take base t) (negate m)

-- nothing is marked or listed
pub record IsUnmarked (vars : ℕ) (seen : List Bool) (lower current : List LitOf) : Type 0 where
  pub sized : length seen ≡ 2 * vars + 2
  pub clear : IsClear seen
  pub no_lower : lower ≡ []
  pub no_current : current ≡ []

-- the negation of a literal is marked, or true at level 0
abbrev pub IsSeenOrRoot : List LitOf → ℕ → List Bool → LitOf → Type 0
IsSeenOrRoot t root seen m = (is_marked seen (negate m) ≡ true) ⊎ Contains (take root t) (negate m)

-- whatever clauses have those of F, and derive level 0 and all marked literals, have a conflict
pub record Supports (F : List (List LitOf)) (t : List LitOf) (root : ℕ) (seen : List Bool) : Type 0 where
  pub conflict : (G : List (List LitOf)) → ContainsAll F G → IsDerived G (take root t) → ((l : LitOf) → is_marked seen l ≡ true → Closure G l) → Conflict G

-- the negation of the literal, and of the listed literals those whose negations are marked
pub record IsBuilt (seen : List Bool) (lower : List LitOf) (l : LitOf) (c : List LitOf) : Type 0 where
  pub first : Contains c (negate l)
  pub marked : (m : LitOf) → Contains lower m → is_marked seen (negate m) ≡ true → Contains c m
  pub only : (m : LitOf) → Contains c m → (m ≡ negate l) ⊎ Contains lower m

-- A clause that is to be learnt, of which the first literal alone became false on the last level, which begins at base.
pub record IsLearnt (p : PropagatorOf) (base : ℕ) (c : List LitOf) (first : LitOf) : Type 0 where
  pub admitted : IsAdmitted (clauses_of p.slots) c
  pub contains : Contains c first
  pub others : (m : LitOf) → Contains c m → m ≢ first → Contains (take base p.trail) (negate m)
  pub on : Contains p.trail (negate first)
  pub late : Contains (take base p.trail) (negate first) → ⊥
  pub within : ClauseWithin p.vars c
  pub short : length c ≤ p.vars

-- a literal that became true on the last level, which alone of those is marked
pub record IsUip (t : List LitOf) (base : ℕ) (seen : List Bool) (current : List LitOf) (l : LitOf) : Type 0 where
  pub on : Contains t l
  pub late : Contains (take base t) l → ⊥
  pub only : (x : LitOf) → Contains current x → is_marked seen x ≡ true → x ≡ l

-- of the literals of the clause but the first, none became false later
pub record ComesLast (t : List LitOf) (first : LitOf) (c : List LitOf) (second : LitOf) : Type 0 where
  pub contains : Contains c second
  pub two : first ≢ second
  pub last : (n : ℕ) (m : LitOf) → Contains (take n t) (negate second) → Contains c m → m ≢ first → Contains (take n t) (negate m)

-- the literal that comes last, if there is another one than the first
abbrev pub IsLastOf : List LitOf → LitOf → List LitOf → Option LitOf → Type 0
IsLastOf t first c None = (m : LitOf) → Contains c m → m ≡ first
IsLastOf t first c (Some s) = ComesLast t first c s
