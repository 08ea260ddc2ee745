-- Rows for worked examples of cells.
use Rattle.std.specs.Prelude.{ℕ, ◌-◌, Bool, true, [], ◌∷◌, pos, negsuc}
use Rattle.sby_bits.specs.Rows.{Row, fit}
use Rattle.design_core.specs.Cells.{Parameters, Ports}
use Rattle.design_core.specs.declared.names.PortName.TheVariants.{A, B, S, En, Y, Clk, D, Q, Srst, Arst}
use Rattle.design_core.specs.declared.names.ParameterName.TheVariants.{ASigned, AWidth, BSigned, BWidth, YWidth, Width, SWidth, Offset, ClkPolarity, EnPolarity, SrstPolarity, SrstValue, ArstPolarity, ArstValue}

-- a number as a row of this many bits; a number below zero, by its size
abbrev pub word : ℕ → ℕ → Row
word width n = fit width (pos n)

abbrev pub below_zero : ℕ → ℕ → Row
below_zero width n = fit width (negsuc (n - 1))

-- operands and words of one width, signed or not; each control is active at 1, and each reset value is 5
abbrev pub of_width : Bool → ℕ → Parameters
of_width signed n ASigned = signed ∷ []
of_width signed n AWidth = word 8 n
of_width signed n BSigned = signed ∷ []
of_width signed n BWidth = word 8 n
of_width signed n YWidth = word 8 n
of_width signed n Width = word 8 n
of_width signed n SWidth = word 8 n
of_width signed n Offset = word 8 1
of_width signed n ClkPolarity = true ∷ []
of_width signed n EnPolarity = true ∷ []
of_width signed n SrstPolarity = true ∷ []
of_width signed n SrstValue = word n 5
of_width signed n ArstPolarity = true ∷ []
of_width signed n ArstValue = word n 5

-- the rows at A, B and S
abbrev pub inputs : Row → Row → Row → Ports
inputs a b s A = a
inputs a b s B = b
inputs a b s S = s
inputs a b s En = []
inputs a b s Y = []
inputs a b s Clk = []
inputs a b s D = []
inputs a b s Q = []
inputs a b s Srst = []
inputs a b s Arst = []

-- D, and whether the cell is enabled and reset
abbrev pub controls : Row → Bool → Bool → Ports
controls d enabled reset A = []
controls d enabled reset B = []
controls d enabled reset S = []
controls d enabled reset En = enabled ∷ []
controls d enabled reset Y = []
controls d enabled reset Clk = []
controls d enabled reset D = d
controls d enabled reset Q = []
controls d enabled reset Srst = reset ∷ []
controls d enabled reset Arst = reset ∷ []
