-- What each byte of a binary proof does to the little that is kept of the bytes before it.
use Rattle.std.specs.Prelude.{◌≤◌, ℕ, ◌+◌, ◌*◌, cond, eqb, leb, List, [], ◌∷◌, ◌++◌, length, Option, Some, None}
use Rattle.cnf_form.specs.Cnf.{LitOf}
use Rattle.cnf_form.specs.Coding.{lit_from}
use Rattle.cert_stream.specs.Telling.{Saying, IsClause, IsDelete}
use Rattle.cert_stream.specs.declared.mode.ParseFault.{ParseFault}
use Rattle.cert_stream.specs.declared.mode.ParseFaultKind.{ParseFaultKind}
use Rattle.cert_stream.specs.declared.mode.ParseFaultKind.TheVariants.{BadLine}
use Rattle.proof_stream.specs.Numbers.{GroupsRead, Goes, Whole, Unfit, group_next}
use Rattle.proof_stream.specs.declared.spot.LineKind.{LineKind}
use Rattle.proof_stream.specs.declared.spot.LineKind.TheVariants.{Clause, Deletion}
use Rattle.proof_stream.specs.declared.spot.Groups.{Groups}
use Rattle.proof_stream.specs.declared.spot.Spot.{Spot}
use Rattle.proof_stream.specs.declared.spot.Spot.TheVariants.{Between, Gap, InNumber, Bad}

-- what is kept: how many bytes were taken, where the line begins, how its reading stands, its literals so far
pub record BinaryOf : Type 0 where
  pub vars : ℕ
  pub taken : ℕ
  pub place : ℕ
  pub spot : Spot
  pub lits : List LitOf

-- what a byte makes of it, and the kind of the line that it ends
pub record BinaryTurn : Type 0 where
  pub to : BinaryOf
  pub event : Option LineKind

abbrev pub binary_fresh : ℕ → BinaryOf
binary_fresh vars = record { vars = vars; taken = 0; place = 0; spot = Between; lits = [] }

abbrev pub quietly : BinaryOf → Spot → BinaryTurn
quietly w s = record { to = record w { spot = s }; event = None }

-- no proof goes on: a line's kind, or a literal that begins at `byte`
abbrev pub breaks : BinaryOf → ParseFaultKind → ℕ → BinaryTurn
breaks w kind byte = quietly w (Bad (record { kind = kind; byte = byte }))

-- the first byte of a line
abbrev pub opens : BinaryOf → LineKind → BinaryTurn
opens w kind = record { to = record w { place = w.taken; spot = Gap kind; lits = [] }; event = None }

abbrev pub head_read : BinaryOf → ℕ → BinaryTurn
head_read w b = cond (eqb b 97) (opens w Clause) (cond (eqb b 100) (opens w Deletion) (breaks w BadLine w.taken))

abbrev pub groups : ℕ → ℕ → ℕ → Groups
groups value weight place = record { value = value; weight = weight; place = place }

-- a group of a literal that begins at `place`
abbrev pub literal_read : BinaryOf → LineKind → ℕ → GroupsRead → BinaryTurn
literal_read w kind place (Goes v u) = quietly w (InNumber kind (groups v u place))
literal_read w kind place (Whole n) = record { to = record w { spot = Gap kind; lits = w.lits ++ lit_from n ∷ [] }; event = None }
literal_read w kind place (Unfit k) = breaks w k place

abbrev pub group_read : BinaryOf → LineKind → Groups → ℕ → BinaryTurn
group_read w kind g b = literal_read w kind g.place (group_next w.vars (leb w.vars (length w.lits)) g.value g.weight b)

-- a zero byte ends the line
abbrev pub gap_read : BinaryOf → LineKind → ℕ → BinaryTurn
gap_read w kind b = cond (eqb b 0) (record { to = record w { spot = Between }; event = Some kind }) (group_read w kind (groups 0 1 w.taken) b)

abbrev pub spot_read : BinaryOf → Spot → ℕ → BinaryTurn
spot_read w Between b = head_read w b
spot_read w (Gap kind) b = gap_read w kind b
spot_read w (InNumber kind g) b = group_read w kind g b
spot_read w (Bad f) b = quietly w (Bad f)

abbrev pub counted : ℕ → BinaryTurn → BinaryTurn
counted taken t = record { to = record t.to { taken = taken + 1 }; event = t.event }

-- a byte
abbrev pub binary_turn : BinaryOf → ℕ → BinaryTurn
binary_turn w b = counted w.taken (spot_read w w.spot b)

-- what a line says
abbrev pub line_said : LineKind → ℕ → List LitOf → Saying
line_said Clause place lits = IsClause lits place
line_said Deletion place lits = IsDelete lits

abbrev pub binary_told : BinaryOf → Option LineKind → List Saying
binary_told w None = []
binary_told w (Some kind) = line_said kind w.place w.lits ∷ []

abbrev pub spot_fault : Spot → Option ParseFault
spot_fault Between = None
spot_fault (Gap kind) = None
spot_fault (InNumber kind g) = None
spot_fault (Bad f) = Some f

-- where the file ends within a line, its fault is after the last byte
abbrev pub spot_end : ℕ → Spot → Option ParseFault
spot_end taken Between = None
spot_end taken (Gap kind) = Some (record { kind = BadLine; byte = taken })
spot_end taken (InNumber kind g) = Some (record { kind = BadLine; byte = taken })
spot_end taken (Bad f) = Some f

-- a literal that goes on is one of a variable from 1 to `vars`, or below one, and has at most four groups so far
abbrev pub IsSpotWithin : ℕ → Spot → Type 0
IsSpotWithin vars Between = Unit {0}
IsSpotWithin vars (Gap kind) = Unit {0}
IsSpotWithin vars (InNumber kind g) = (g.value ≤ 2 * vars + 1) × (g.weight ≤ 268435456)
IsSpotWithin vars (Bad f) = Unit {0}
