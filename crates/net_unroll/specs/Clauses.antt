-- An encoding's clauses, one by one.
use Rattle.std.specs.Prelude.{◌≤◌, List, [], ◌∷◌, All}
use Rattle.cnf_form.specs.Cnf.{LitOf, LitWithin}
use Rattle.cnf_form.specs.declared.literal.TheConstants.{MAX_VARS}
use Rattle.gate_graph.specs.Folding.{operands}
use Rattle.gate_graph.specs.Kept.{OthersWithin}
use Rattle.net_unroll.specs.Encoding.{EncodedOf}
use Rattle.net_unroll.specs.declared.clauses.Clause.{Clause}
use Rattle.net_unroll.specs.declared.clauses.Clause.TheVariants.{Two, Three}

abbrev pub lits_of : Clause → List LitOf
lits_of (Two a b) = a ∷ b ∷ []
lits_of (Three a b c) = a ∷ b ∷ c ∷ []

-- each literal is of one of the variables
pub record IsEncoding (e : EncodedOf) : Type 0 where
  pub some : 1 ≤ e.vars
  pub limit : e.vars ≤ MAX_VARS
  pub gates : All (λ g. OthersWithin e.vars (operands g.0) × LitWithin e.vars g.1) e.gates
  pub goals : All (LitWithin e.vars) e.goals
