-- The lines of the program's streams.
use Rattle.std.specs.Prelude.{ℕ, List, ◌∷◌, ◌++◌, codes, decimal}
use Rattle.cdcl_run.specs.Text.{fault_line, line, unknown_line}
use Rattle.pair_reader.specs.declared.reader.PairFault.{PairFault}
use Rattle.pair_reader.specs.declared.reader.PairFault.TheVariants.{Dimacs, Lines}

abbrev pub usage_line : List ℕ
usage_line = line (codes "c usage: pdr_program [--conflicts n] FILE")

-- the file's text is no pair's
abbrev pub pair_line : List ℕ
pair_line = line (codes "c fault: pair")

-- why it is none
abbrev pub pair_fault_line : PairFault → List ℕ
pair_fault_line (Dimacs fault) = fault_line fault.kind fault.byte
pair_fault_line Lines = pair_line

-- all that might be spent was spent: that many conflicts and queries
abbrev pub spent_text : ℕ → ℕ → List ℕ
spent_text conflicts queries = codes "c " ++ (decimal conflicts ++ (codes " conflicts in " ++ (decimal queries ++ (codes " queries" ++ 10 ∷ unknown_line))))

-- a run of this many cycles breaks an assertion in its last
abbrev pub broken_text : ℕ → List ℕ
broken_text n = codes "c an assertion breaks at length " ++ (decimal n ++ 10 ∷ unknown_line)
