-- What is proved of the fate of bytes, once for each kind.
use Rattle.std.proofs.Common.{◌≡◌, ℕ, Bool, false, List, ◌++◌, Some}
use Rattle.std.specs.Prelude.{Option}
use Rattle.cnf_form.specs.Cnf.{Assignment, FormulaOf, IsUnsatisfiable, Satisfies}
use Rattle.sby_terms.specs.declared.names.Answer.TheVariants.{Sat, Unsat}
use Rattle.cert_judge.specs.Fate.{Fate, Found}

-- A fate stays; there is one, and some; what is found is true; and values that were found stay.
pub record Laws (f : FormulaOf) (come : Bool → List ℕ → Option Fate → Type 0) (names : Bool → List ℕ → Assignment) : Type 0 where
  pub on : (ended : Bool) (bytes rest : List ℕ) (x : Fate) → come false bytes (Some x) → come ended (bytes ++ rest) (Some x)
  pub once : (ended : Bool) (bytes : List ℕ) (x y : Option Fate) → come ended bytes x → come ended bytes y → x ≡ y
  pub somewhere : (ended : Bool) (bytes : List ℕ) → ((x : Option Fate) → come ended bytes x → ⊥) → ⊥
  pub refuted : (ended : Bool) (bytes : List ℕ) → come ended bytes (Some (Found Unsat)) → IsUnsatisfiable f.clauses
  pub satisfied : (ended : Bool) (bytes : List ℕ) → come ended bytes (Some (Found Sat)) → (x : Assignment) × Satisfies x f.clauses
  pub named : (ended : Bool) (bytes rest : List ℕ) → come false bytes (Some (Found Sat)) → names ended (bytes ++ rest) ≡ names false bytes
