-- The kinds of stored streams.
use Rattle.std.specs.Prelude.{ℕ, List, codes}
use Rattle.cert_judge.specs.declared.stream.Kind.{Kind}
use Rattle.cert_judge.specs.declared.stream.Kind.TheVariants.{Certificate, Witness, Invariant}
use Rattle.cert_judge.specs.declared.stream.StreamKind.TheVariants.{Drup, Lrat, Proof, ProofBinary}
use Rattle.sby_words.specs.Folders.{EndsIn}

-- a stream's kind by the end of its name; any other name is that of a DRUP stream
abbrev pub IsKindNamed : List ℕ → Kind → Type 0
IsKindNamed name (Certificate Lrat) = EndsIn (codes ".lrat") name
IsKindNamed name (Certificate Proof) = EndsIn (codes ".proof") name
IsKindNamed name (Certificate ProofBinary) = EndsIn (codes ".proofb") name
IsKindNamed name (Certificate Drup) =
    (EndsIn (codes ".lrat") name → ⊥) × (EndsIn (codes ".proof") name → ⊥) × (EndsIn (codes ".proofb") name → ⊥) × (EndsIn (codes ".wit") name → ⊥)
    × (EndsIn (codes ".inv") name → ⊥)
IsKindNamed name Witness = EndsIn (codes ".wit") name
IsKindNamed name Invariant = EndsIn (codes ".inv") name
