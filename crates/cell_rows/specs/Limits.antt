-- Which cells serve rows of at most 128 bits.
use Rattle.std.specs.Prelude.{ℕ, ◌≤◌}
use Rattle.cell_table.specs.declared.kind.Unary.{Unary}
use Rattle.cell_table.specs.declared.kind.Unary.TheVariants.{Not, Pos, Neg}
use Rattle.cell_table.specs.declared.kind.Binary.{Binary}
use Rattle.cell_table.specs.declared.kind.Binary.TheVariants.{And, Or, Xor, Xnor, Add, Sub, Mul}
use Rattle.cell_table.specs.declared.kind.Compare.{Compare}
use Rattle.cell_table.specs.declared.kind.Compare.TheVariants.{Eq, Ne, Eqx, Nex, Lt, Le, Gt, Ge}

abbrev pub IsNarrow : ℕ → Type 0
IsNarrow n = n ≤ 128

-- a width that the cell serves: any, or at most 128 bits in arithmetic and in comparisons of order
abbrev pub ServesUnary : Unary → ℕ → Type 0
ServesUnary Not n = Unit {0}
ServesUnary Pos n = Unit {0}
ServesUnary Neg n = IsNarrow n

abbrev pub ServesBinary : Binary → ℕ → Type 0
ServesBinary And n = Unit {0}
ServesBinary Or n = Unit {0}
ServesBinary Xor n = Unit {0}
ServesBinary Xnor n = Unit {0}
ServesBinary Add n = IsNarrow n
ServesBinary Sub n = IsNarrow n
ServesBinary Mul n = IsNarrow n

abbrev pub ServesCompare : Compare → ℕ → Type 0
ServesCompare Eq n = Unit {0}
ServesCompare Ne n = Unit {0}
ServesCompare Eqx n = Unit {0}
ServesCompare Nex n = Unit {0}
ServesCompare Lt n = IsNarrow n
ServesCompare Le n = IsNarrow n
ServesCompare Gt n = IsNarrow n
ServesCompare Ge n = IsNarrow n
