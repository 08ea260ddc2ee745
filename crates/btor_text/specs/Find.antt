-- What is found of a model's line.
use Rattle.std.specs.Prelude.{ℕ, Option, Some, None}
use Rattle.btor_core.specs.declared.line.Body.{Body}
use Rattle.btor_core.specs.declared.line.Body.TheVariants as body
use Rattle.btor_core.specs.Fits.{IsWidth}

-- what is read off a line that is found, 0 where there is none
abbrev pub read_of : (Body → ℕ) → Option Body → ℕ
read_of read None = 0
read_of read (Some b) = read b

-- sorts and values have from 1 to 4096 bits
abbrev pub IsSized : Body → Type 0
IsSized (body.Sort w) = IsWidth w
IsSized (body.Value s w n) = IsWidth w
IsSized (body.Init s q v) = Unit {0}
IsSized (body.Next s q v) = Unit {0}
IsSized (body.Bad n) = Unit {0}
IsSized (body.Constraint n) = Unit {0}
