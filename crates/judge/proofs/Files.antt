-- What a job's file says.
use Rattle.std.proofs.Common.{◌≡◌, ℕ, inl, inr, refl, List, [], ◌∷◌, ◌++◌, sym, ap, subst, ◌∙◌, arith}
use Rattle.std.specs.Prelude.{◌↔◌, codes}
use Rattle.std.proofs.lemmas.Fmt.{decimal_digit}
use Rattle.cnf_form.proofs.Reading.{IsDimacs-one}
use Rattle.cnf_form.specs.Cnf.{FormulaOf}
use Rattle.cnf_form.specs.Dimacs.{IsDimacs, dimacs_text}
use Rattle.job_terms.specs.Encoding.{CanBeSatisfied, empty_job}
use Rattle.model_cone.specs.declared.asked.Asked.{Asked}
use Rattle.model_core.specs.Shape.{ModelOf}
use Rattle.bit_net.specs.Net.{IsNet}
use Rattle.net_unroll.proofs.Forming.{formed_law}
use Rattle.net_unroll.specs.Encoding.{formula_of}
use Rattle.net_jobs.specs.Jobs.{asked_of as net_asked, cycles_of, job_encoding}
use Rattle.task_net.specs.Net.{IsTaskNet, TaskNetOf, task_encoded}
use Rattle.task_net.specs.Net.IsTaskNet.{AsksNone, AsksSome}
use Rattle.sby_terms.specs.declared.names.JobName.{JobName}
use Rattle.sby_terms.specs.declared.names.JobName.TheVariants.{Base, Step, Inv, Cover}
use Rattle.judge.proofs.Encodes.{encodes, told-fits}
use Rattle.judge.specs.Jobs.{AsksNothing, Solvable, span_of}
use Rattle.judge.specs.Problem.{AskedOf, IsFormulaFile, IsJob, IsJobFile, IsProblem, IsTold, asked_in, pair_in}
use Rattle.net_pair.proofs.Forming.{is_pair}
use Rattle.pair_form.proofs.Leading.{text_is_dimacs}
use Rattle.pair_form.specs.Text.{pair_text}

net-is : (m : ModelOf) (asked : Asked) (t : TaskNetOf) → IsTaskNet m asked t → IsNet t.net
net-is m asked t (AsksNone none by) = by.net
net-is m asked t (AsksSome keep cone by) = by.net

-- the text of a job's formula is its file
pub file-is : (p : AskedOf) → IsProblem p → (job : JobName) → IsTold p job → IsJobFile p job (dimacs_text (formula_of (job_encoding p.net.net job (span_of p.problem))))
file-is p h job w =
    let e = task_encoded p.net job (span_of p.problem) in
    inl (e.formula, (e, (w, refl), refl), refl, formed_law p.net.net (net_asked job) (cycles_of job (span_of p.problem)) (net-is p.model (asked_in p.problem.mode) p.net h.net) (told-fits p h job w))

-- the text of the pair is that of Inv
pub pair-is : (p : AskedOf) → IsProblem p → IsJob p Inv → IsJobFile p Inv (pair_text (pair_in p))
pair-is p h w = inr (w, refl, refl, text_is_dimacs (pair_in p) (is_pair p.net.net p.bits (net-is p.model (asked_in p.problem.mode) p.net h.net) (h.fits Inv w)))

-- each job has a file
pub file-there : (p : AskedOf) → IsProblem p → (job : JobName) → IsJob p job → (bytes : List ℕ) × IsJobFile p job bytes
file-there p h (Base i) w = (dimacs_text (formula_of (job_encoding p.net.net (Base i) (span_of p.problem))), file-is p h (Base i) (w, λ e. let z : Base i ≡ Inv = e in cc))
file-there p h Step w = (dimacs_text (formula_of (job_encoding p.net.net Step (span_of p.problem))), file-is p h Step (w, λ e. let z : Step ≡ Inv = e in cc))
file-there p h Inv w = (pair_text (pair_in p), pair-is p h w)
file-there p h (Cover k) w = (dimacs_text (formula_of (job_encoding p.net.net (Cover k) (span_of p.problem))), file-is p h (Cover k) (w, λ e. let z : Cover k ≡ Inv = e in cc))

module _ (p : AskedOf) (job : JobName) (bytes : List ℕ) (h : IsProblem p) (w : IsFormulaFile p job bytes) where
  formula-solvable : (f : FormulaOf) → IsDimacs bytes f → CanBeSatisfied f ↔ Solvable p.design job (span_of p.problem)
  formula-solvable f is =
      let e = w.1 in
      let same : f ≡ e.0.formula = IsDimacs-one bytes f w.0 is w.3 ∙ e.2 in
      subst (λ (g : FormulaOf). CanBeSatisfied g ↔ Solvable p.design job (span_of p.problem)) (sym same) (encodes p h job e.0 e.1).speaks

  formula-empty : AsksNothing p.design job → bytes ≡ codes "p cnf 1 1" ++ 10 ∷ 48 ∷ 10 ∷ []
  formula-empty none =
      let e = w.1 in
      let same : w.0 ≡ empty_job = e.2 ∙ (encodes p h job e.0 e.1).empty none in
      w.2 ∙ (ap dimacs_text same ∙ ap (λ (d : List ℕ). codes "p cnf " ++ (d ++ 32 ∷ (d ++ 10 ∷ [])) ++ (48 ∷ 10 ∷ [])) (decimal_digit 1 (omega arith)))

module _ (p : AskedOf) (job : JobName) (bytes : List ℕ) (h : IsProblem p) where
  pub file-solvable : IsJobFile p job bytes → (job ≡ Inv → ⊥) → (f : FormulaOf) → IsDimacs bytes f → CanBeSatisfied f ↔ Solvable p.design job (span_of p.problem)
  file-solvable (inl w) told f is = formula-solvable p job bytes h w f is
  file-solvable (inr w) told f is = absurd (told w.1)

  pub file-empty : IsJobFile p job bytes → AsksNothing p.design job → bytes ≡ codes "p cnf 1 1" ++ 10 ∷ 48 ∷ 10 ∷ []
  file-empty (inl w) none = formula-empty p job bytes h w none
  file-empty (inr w) none = absurd (subst (AsksNothing p.design) w.1 none)
