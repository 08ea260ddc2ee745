-- The fates of streams of every kind.
use Rattle.std.proofs.Common.{◌≤◌, ℕ, List, ◌++◌, Some, None, length}
use Rattle.std.specs.Prelude.{MatchOption, Option}
use Rattle.cert_judge.proofs.KindFates.{stays as cert_stays, within_most as cert_within}
use Rattle.cert_judge.proofs.Bounding.{within_by}
use Rattle.cert_judge.specs.Fate.{Fate}
use Rattle.cert_judge.specs.declared.stream.Kind.{Kind}
use Rattle.cert_judge.specs.declared.stream.Kind.TheVariants.{Certificate, Witness, Invariant}
use Rattle.sby_terms.specs.declared.names.JobName.{JobName}
use Rattle.judge.specs.Fates.{IsFate, IsFateSoFar}
use Rattle.judge.proofs.Proved.{proved_stays, proved_within}
use Rattle.judge.specs.Problem.{AskedOf, pair_in}
use Rattle.judge.specs.Witness.{sought_in, witness_asked}
use Rattle.witness_judge.proofs.Staying.{stays as witness_stays}
use Rattle.witness_judge.specs.Fate.{BytesFate, IsWitnessFate, IsWitnessFateSoFar}
use Rattle.witness_judge.specs.declared.sought.Sought.{Sought}

-- what stays of what is sought, stays
pub map_sought : (o : Option Sought) (P Q : Sought → Type 0) → ((s : Sought) → P s → Q s) → MatchOption o ⊥ P → MatchOption o ⊥ Q
map_sought None P Q f h = h
map_sought (Some s) P Q f h = f s h

pub stays : (p : AskedOf) (job : JobName) (kind : Kind) (file bytes more : List ℕ) (most : ℕ) (fate : Fate) → IsFateSoFar p job kind file bytes most (Some fate) → IsFate p job kind file (bytes ++ more) most fate
stays p job (Certificate kind) file bytes more most fate h = (h.0, cert_stays kind file bytes more most fate h.1)
stays p job Invariant file bytes more most fate (is, (x, so_far, told)) = (is, proved_stays (pair_in p) bytes more most x fate so_far told)
stays p job Witness file bytes more most fate h =
    map_sought (sought_in p job) (λ s. IsWitnessFateSoFar (witness_asked p s) bytes most (Some fate)) (λ s. IsWitnessFate (witness_asked p s) (bytes ++ more) most fate)
    (λ s so_far. witness_stays (witness_asked p s) bytes more most fate so_far) h

pub within_most : (p : AskedOf) (job : JobName) (kind : Kind) (file bytes : List ℕ) (most : ℕ) → IsFateSoFar p job kind file bytes most None → length bytes ≤ most
within_most p job (Certificate kind) file bytes most h = cert_within kind file bytes most h.1
within_most p job Invariant file bytes most (is, (x, so_far, told)) = proved_within (pair_in p) bytes most x so_far told
within_most p job Witness file bytes most h = by (sought_in p job) h
  where
    by : (o : Option Sought) → MatchOption o ⊥ (λ s. IsWitnessFateSoFar (witness_asked p s) bytes most None) → length bytes ≤ most
    by None k = absurd k
    by (Some s) k = within_by (BytesFate (witness_asked p s)) most bytes k
