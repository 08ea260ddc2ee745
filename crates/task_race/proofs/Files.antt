-- A job's file is the one of its problem.
use Rattle.std.proofs.Common.{◌≡◌, inl, inr, ℕ, List, refl, sym, ap, ◌∙◌}
use Rattle.cnf_form.specs.Dimacs.{dimacs_text}
use Rattle.job_terms.specs.Encoding.{EncodedOf}
use Rattle.judge.specs.Problem.{AskedOf, IsFormulaFile, IsJobFile}
use Rattle.sby_terms.specs.declared.names.JobName.{JobName}
use Rattle.sby_terms.specs.declared.names.JobName.TheVariants.{Base, Step, Inv, Cover}
use Rattle.task_race.specs.Serving.{file_of, formula_text}

formula_is : (p : AskedOf) (job : JobName) (bytes : List ℕ) → IsFormulaFile p job bytes → bytes ≡ formula_text p job
formula_is p job bytes f = f.2 ∙ ap dimacs_text (f.1.2 ∙ ap (λ (e : EncodedOf). e.formula) f.1.1.1)

pub file_is : (p : AskedOf) (job : JobName) (bytes : List ℕ) → IsJobFile p job bytes → bytes ≡ file_of p job
file_is p (Base i) bytes (inl f) = formula_is p (Base i) bytes f
file_is p Step bytes (inl f) = formula_is p Step bytes f
file_is p (Cover k) bytes (inl f) = formula_is p (Cover k) bytes f
file_is p Inv bytes (inl f) = absurd (f.1.1.0.1 refl)
file_is p job bytes (inr w) = w.2 ∙ sym (ap (file_of p) w.1)
