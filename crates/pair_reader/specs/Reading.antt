-- Where a text is no pair's.
use Rattle.std.specs.Prelude.{◌≡◌, ℕ, List}
use Rattle.cnf_form.specs.Cnf.{FormulaOf}
use Rattle.cnf_form.specs.Dimacs.{IsDimacs}
use Rattle.cnf_form.specs.Reading.{IsFault}
use Rattle.pair_form.specs.Pair.{IsPair, PairOf}
use Rattle.pair_form.specs.Text.{pair_text}
use Rattle.pair_reader.specs.declared.reader.PairFault.{PairFault}
use Rattle.pair_reader.specs.declared.reader.PairFault.TheVariants.{Dimacs, Lines}

-- the text is of no pair
abbrev pub IsNoPair : List ℕ → Type 0
IsNoPair bytes = (p : PairOf) → IsPair p → pair_text p ≡ bytes → ⊥

-- The text is no formula in DIMACS, and has this fault; or it is one, and that of no pair.
abbrev pub IsPairFault : List ℕ → PairFault → Type 0
IsPairFault bytes (Dimacs fault) = IsFault bytes fault.kind fault.byte
IsPairFault bytes Lines = (f : FormulaOf) × IsDimacs bytes f × IsNoPair bytes
