-- Problems, and their jobs' places.
use Rattle.std.proofs.Common.{◌≡◌, ◌⊎◌, ℕ, zero, suc, ◌+◌, ◌<◌, List, length, map, Some, inl, inr, sym, ap, ◌∙◌, arith}
use Rattle.std.specs.Prelude.{slice_get}
use Rattle.std.proofs.lemmas.List.FromFn.{length-map-range_with_len}
use Rattle.std.specs.List.{range_with_len}
use Rattle.cnf_form.specs.Cnf.{FormulaOf}
use Rattle.cnf_form.specs.Dimacs.{dimacs_text}
use Rattle.job_terms.specs.Encoding.{EncodedOf}
use Rattle.sby_terms.specs.declared.names.JobName.{JobName}
use Rattle.sby_terms.specs.declared.names.JobName.TheVariants.{Base, Step, Inv, Cover}
use Rattle.judge.specs.Jobs.{jobs_of}
use Rattle.judge.specs.Problem.{AskedOf, IsEncodedOf, IsFormulaFile, IsFormulaOf, IsJobFile}
use Rattle.judge.specs.Stored.{IsStored}

-- jobs that are numbered from a on
pub numbered : (make : ℕ → JobName) (n a i : ℕ) (job : JobName) → slice_get (map make (range_with_len a n)) i ≡ Some job → job ≡ make (a + i)
numbered make zero a i job e = cc
numbered make (suc n) a zero job e = let h : make a ≡ job = cc in sym h ∙ ap make (omega arith)
numbered make (suc n) a (suc i) job e = numbered make n (a + 1) i job e ∙ ap make (omega arith)

pub numbered-at : (make : ℕ → JobName) (n a i k : ℕ) → i < n → a + i ≡ k → slice_get (map make (range_with_len a n)) i ≡ Some (make k)
numbered-at make zero a i k lt e = absurd (omega (arith, lt))
numbered-at make (suc n) a zero k lt e = ap (λ (j : ℕ). Some (make j)) (omega (arith, e))
numbered-at make (suc n) a (suc i) k lt e = numbered-at make n (a + 1) i k (omega (arith, lt)) (omega (arith, e))

-- a job is encoded once
pub one_encoded : (p : AskedOf) (job : JobName) (a b : EncodedOf) → IsEncodedOf p job a → IsEncodedOf p job b → a ≡ b
one_encoded p job a b v w = v.1 ∙ sym w.1

-- and has one formula
pub one_formula : (p : AskedOf) (job : JobName) (f g : FormulaOf) → IsFormulaOf p job f → IsFormulaOf p job g → f ≡ g
one_formula p job f g v w = v.2 ∙ ap (λ (e : EncodedOf). e.formula) (one_encoded p job v.0 w.0 v.1 w.1) ∙ sym w.2

-- a job that has a formula isn't Inv
pub told_apart : (p : AskedOf) (job : JobName) (f : FormulaOf) → IsFormulaOf p job f → job ≡ Inv → ⊥
told_apart p job f of is = of.1.0.1 is

pub one_job_file : (p : AskedOf) (job : JobName) (a b : List ℕ) → IsJobFile p job a → IsJobFile p job b → a ≡ b
one_job_file p job a b (inl v) (inl w) = v.2 ∙ ap dimacs_text (one_formula p job v.0 w.0 v.1 w.1) ∙ sym w.2
one_job_file p job a b (inl v) (inr w) = absurd (told_apart p job v.0 v.1 w.1)
one_job_file p job a b (inr v) (inl w) = absurd (told_apart p job w.0 w.1 v.1)
one_job_file p job a b (inr v) (inr w) = v.2 ∙ sym w.2

-- the file of a job of cycles told one after the other is that of its formula
pub formula_file : (p : AskedOf) (job : JobName) (file : List ℕ) → (job ≡ Inv → ⊥) → IsJobFile p job file → IsFormulaFile p job file
formula_file p job file told (inl w) = w
formula_file p job file told (inr w) = absurd (told w.1)

pub apart_by : (job : JobName) → ((i : ℕ) × (job ≡ Base i)) ⊎ ((job ≡ Step) ⊎ ((k : ℕ) × (job ≡ Cover k))) → job ≡ Inv → ⊥
apart_by job (inl (i, e)) is = let z : Base i ≡ Inv = sym e ∙ is in cc
apart_by job (inr (inl e)) is = let z : Step ≡ Inv = sym e ∙ is in cc
apart_by job (inr (inr (k, e))) is = let z : Cover k ≡ Inv = sym e ∙ is in cc

-- how many jobs there are
pub jobs_count : (p : AskedOf) (names : List JobName) → IsStored p names → length names ≡ length (jobs_of p.problem p.design)
jobs_count p names stored = ap length stored.names

-- the first of the jobs that are numbered from 0
pub first-numbered : (make : ℕ → JobName) (n : ℕ) → 0 < length (map make (range_with_len 0 n)) → slice_get (map make (range_with_len 0 n)) 0 ≡ Some (make 0)
first-numbered make n some = numbered-at make n 0 0 0 (omega (arith, some, length-map-range_with_len make 0 n)) (omega arith)
