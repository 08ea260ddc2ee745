-- Words of the worked examples.
use Rattle.std.specs.Prelude.{ℕ, pos, cond, eqb, []}
use Rattle.sby_bits.specs.Rows.{Row, fit}
use Rattle.btor_core.specs.Meaning.{Values}

-- the row of this width whose number is n
abbrev pub word : ℕ → ℕ → Row
word w n = fit w (pos n)

-- line 1 has the first row, line 2 the second, line 3 the third
abbrev pub three : Row → Row → Row → Values
three a b s k = cond (eqb k 1) a (cond (eqb k 2) b (cond (eqb k 3) s []))
