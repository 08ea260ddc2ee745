-- The lines that a log takes, with ids and hints.
use Rattle.std.specs.Prelude.{◌≡◌, ◌^◌, ℕ, ◌<◌, ◌≤◌, List, [], ◌∷◌, length, All, Some, None}
use Rattle.cnf_form.specs.Cnf.{LitOf, Line, Addition, Deletion}
use Rattle.lrat_check.specs.Hints.{Live, IsHinted, numbered, put}
use Rattle.hint_chain.specs.Chains.{AreLive}
use Rattle.cdcl_core.specs.Logged.{IsProper, MayFollow}

-- A clause that is added, a fact, which is the unit clause of a literal that is true at level 0, or a clause that is deleted; each with its id, the
-- first two with hints.
pub data LogLine : Type 0 where
  Adds : List LitOf → ℕ → List ℕ → LogLine
  Notes : LitOf → ℕ → List ℕ → LogLine
  Drops : List LitOf → ℕ → LogLine

-- the lines of the search itself, without facts, ids and hints
abbrev pub plain : List LogLine → List Line
plain [] = []
plain (Adds c id hints ∷ ls) = Addition c ∷ plain ls
plain (Notes l id hints ∷ ls) = plain ls
plain (Drops c id ∷ ls) = Deletion c ∷ plain ls

-- the clause of a line
abbrev pub line_clause : LogLine → List LitOf
line_clause (Adds c id hints) = c
line_clause (Notes l id hints) = l ∷ []
line_clause (Drops c id) = c

-- an id is below 2^63, and there are at most 2^27 hints
abbrev pub AreFew : LogLine → Type 0
AreFew (Adds c id hints) = (id < 2 ^ 63) × (length hints ≤ 2 ^ 27)
AreFew (Notes l id hints) = (id < 2 ^ 63) × (length hints ≤ 2 ^ 27)
AreFew (Drops c id) = id < 2 ^ 63

abbrev pub IsProperLine : ℕ → LogLine → Type 0
IsProperLine vars l = IsProper vars (line_clause l) × AreFew l

abbrev pub AreProperLines : ℕ → List LogLine → Type 0
AreProperLines vars lines = All (IsProperLine vars) lines

-- the live clauses by their ids, and the highest id so far
pub record HeldOf : Type 0 where
  pub live : Live
  pub last : ℕ

-- the clauses of a formula have the ids from 1
abbrev pub held_first : List (List LitOf) → HeldOf
held_first F = record { live = numbered F; last = length F }

-- the clause's id is above all others, and its hints are live and admit it
abbrev pub IsHintedAs : HeldOf → List LitOf → ℕ → List ℕ → Type 0
IsHintedAs F c id hints = (F.last < id) × AreLive F.live hints × IsHinted F.live c hints

-- a line is hinted; the clause that is deleted is that of the id
abbrev pub IsHintedLine : HeldOf → LogLine → Type 0
IsHintedLine F (Adds c id hints) = IsHintedAs F c id hints
IsHintedLine F (Notes l id hints) = IsHintedAs F (l ∷ []) id hints
IsHintedLine F (Drops c id) = F.live id ≡ Some c

-- what is live after a line
abbrev pub held_after : HeldOf → LogLine → HeldOf
held_after F (Adds c id hints) = record { live = put F.live id (Some c); last = id }
held_after F (Notes l id hints) = record { live = put F.live id (Some (l ∷ [])); last = id }
held_after F (Drops c id) = record { live = put F.live id None; last = F.last }

-- the lines are hinted, and lead from what is live to what is live then
abbrev pub AreHinted : HeldOf → List LogLine → HeldOf → Type 0
AreHinted F [] G = G ≡ F
AreHinted F (l ∷ ls) G = IsHintedLine F l × AreHinted (held_after F l) ls G

-- the line may follow the lines of a search; a fact always may
abbrev pub LineFollows : List (List LitOf) → List Line → List (List LitOf) → LogLine → Type 0
LineFollows F lines G (Adds c id hints) = MayFollow F lines G (Addition c)
LineFollows F lines G (Notes l id hints) = Unit {0}
LineFollows F lines G (Drops c id) = MayFollow F lines G (Deletion c)
