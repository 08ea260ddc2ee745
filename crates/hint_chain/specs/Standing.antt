-- What is left of a clause.
use Rattle.std.specs.Prelude.{List}
use Rattle.cnf_form.specs.Cnf.{LitOf}
use Rattle.hint_chain.specs.declared.marks.Standing.{Standing}
use Rattle.hint_chain.specs.declared.marks.Standing.TheVariants.{Negated, OneLeft, MoreLeft}
use Rattle.lrat_check.specs.Hints.{IsNegated, LeavesOne}

-- how many literals of the clause are not negated: none, one or more
abbrev pub Stands : (LitOf → Type 0) → List LitOf → Standing → Type 0
Stands assigned c Negated = IsNegated assigned c
Stands assigned c (OneLeft l) = LeavesOne assigned c l
Stands assigned c MoreLeft = (IsNegated assigned c → ⊥) × ((l : LitOf) → LeavesOne assigned c l → ⊥)
