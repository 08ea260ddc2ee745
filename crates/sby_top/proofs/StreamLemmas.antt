-- Which streams are judged for a job.
use Rattle.std.proofs.Common.{ℕ, List, subst, sym}
use Rattle.cert_judge.specs.Fate.{Fate}
use Rattle.cert_judge.specs.declared.stream.Kind.{Kind}
use Rattle.cert_judge.specs.declared.stream.Kind.TheVariants.{Certificate, Witness, Invariant}
use Rattle.cert_judge.specs.declared.stream.StreamKind.{StreamKind}
use Rattle.judge.specs.Fates.{IsFate, Serves}
use Rattle.judge.specs.Problem.{AskedOf}
use Rattle.sby_terms.specs.declared.names.JobName.{JobName}
use Rattle.sby_terms.specs.declared.names.JobName.TheVariants.{Base, Step, Inv, Cover}

-- certificates of each kind are judged for the same jobs
pub certificate_serves : (kind other : StreamKind) (job : JobName) → Serves (Certificate kind) job → Serves (Certificate other) job
certificate_serves kind other (Base i) serves = tt
certificate_serves kind other Step serves = tt
certificate_serves kind other Inv serves = serves
certificate_serves kind other (Cover k) serves = tt

-- a stream that isn't judged for a job has no fate for it
pub fate_serves : (p : AskedOf) (job : JobName) (kind : Kind) (file stream : List ℕ) (most : ℕ) (x : Fate) → IsFate p job kind file stream most x → Serves kind job
fate_serves p job (Certificate kind) file stream most x is = is.0
fate_serves p (Base i) Witness file stream most x is = tt
fate_serves p Step Witness file stream most x is = is
fate_serves p Inv Witness file stream most x is = is
fate_serves p (Cover k) Witness file stream most x is = tt
fate_serves p job Invariant file stream most x is = subst (λ (j : JobName). Serves Invariant j) (sym is.0) tt
