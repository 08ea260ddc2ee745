-- A clause as a source gives it.
use Rattle.std.specs.Prelude.{List, [], ◌∷◌}
use Rattle.cnf_form.specs.Cnf.{LitOf}
use Rattle.clause_source.specs.declared.Given.{Given}
use Rattle.clause_source.specs.declared.Given.TheVariants.{One, Two, Three, All}

-- its literals, in order
abbrev pub lits_of : Given → List LitOf
lits_of (One a) = a ∷ []
lits_of (Two a b) = a ∷ b ∷ []
lits_of (Three a b c) = a ∷ b ∷ c ∷ []
lits_of (All c) = c.now
