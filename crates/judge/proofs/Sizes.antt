-- How many variables are made for a job.
use Rattle.std.proofs.Common.{◌≡◌, ◌⊎◌, ℕ, List, inl, inr, refl}
use Rattle.std.specs.Prelude.{Option}
use Rattle.bit_net.specs.Net.{NetOf}
use Rattle.net_jobs.specs.Jobs.{job_made}
use Rattle.sby_terms.specs.declared.names.JobName.{JobName}
use Rattle.sby_terms.specs.declared.names.JobName.TheVariants.{Base, Step, Inv, Cover}
use Rattle.sby_terms.specs.declared.span.Span.{Span}
use Rattle.cert_judge.specs.declared.stream.Kind.TheVariants.{Witness}
use Rattle.judge.specs.Fates.{Serves}
use Rattle.judge.specs.Problem.{job_size}

-- for those that are made of cycles told one after the other
pub size-told : (n : NetOf) (bits : List (Option ℕ)) (job : JobName) (span : Span) → (job ≡ Inv → ⊥) → job_size n bits job span ≡ job_made n job span
size-told n bits (Base i) span told = refl
size-told n bits Step span told = refl
size-told n bits Inv span told = absurd (told refl)
size-told n bits (Cover k) span told = refl

pub is_inv : (job : JobName) → (job ≡ Inv) ⊎ (job ≡ Inv → ⊥)
is_inv (Base i) = inr (λ e. let z : Base i ≡ Inv = e in cc)
is_inv Step = inr (λ e. let z : Step ≡ Inv = e in cc)
is_inv Inv = inl refl
is_inv (Cover k) = inr (λ e. let z : Cover k ≡ Inv = e in cc)

-- a job for which witnesses are judged isn't Inv
pub witness_told : (job : JobName) → Serves Witness job → job ≡ Inv → ⊥
witness_told (Base i) serves e = let z : Base i ≡ Inv = e in cc
witness_told Step serves e = serves
witness_told Inv serves e = serves
witness_told (Cover k) serves e = let z : Cover k ≡ Inv = e in cc
