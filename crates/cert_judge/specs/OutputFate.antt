-- The fate of the output of a solver that leaves a proof file.
use Rattle.std.specs.Prelude.{◌≡◌, ℕ, Bool, true, false, List, Option, Some, None}
use Rattle.cert_judge.specs.Fate.{Fate, Found, Unknown, Bad}
use Rattle.cert_judge.specs.Kinds.{IsFate, IsFateSoFar}
use Rattle.cert_judge.specs.declared.stream.StreamKind.TheVariants.{Drup}
use Rattle.cert_judge.specs.declared.stream.CertKind.{CertKind}
use Rattle.cert_judge.specs.declared.stream.CertKind.TheVariants.{BadLine, BadLiteral, LineTooLong, NotRup, NotSatisfying, NotPlaying, TooLong, EarlyEnd, BadWitness, BadId, BadHint, NotHinted, BadPart, NotInvariant}
use Rattle.cert_judge.specs.Output.{stream_of, has_values}

-- an early end is no fate
abbrev pub unless_early : CertKind → ℕ → Option Fate
unless_early BadLine byte = Some (Bad BadLine byte)
unless_early BadLiteral byte = Some (Bad BadLiteral byte)
unless_early LineTooLong byte = Some (Bad LineTooLong byte)
unless_early NotRup byte = Some (Bad NotRup byte)
unless_early NotSatisfying clause = Some (Bad NotSatisfying clause)
unless_early NotPlaying frame = Some (Bad NotPlaying frame)
unless_early TooLong byte = Some (Bad TooLong byte)
unless_early EarlyEnd byte = None
unless_early BadWitness byte = Some (Bad BadWitness byte)
unless_early BadId byte = Some (Bad BadId byte)
unless_early BadHint byte = Some (Bad BadHint byte)
unless_early NotHinted byte = Some (Bad NotHinted byte)
unless_early BadPart byte = Some (Bad BadPart byte)
unless_early NotInvariant byte = Some (Bad NotInvariant byte)

-- Without a line of values an output that ends early has no fate of its own: the proof file decides.
abbrev pub own_fate : Bool → Fate → Option Fate
own_fate true fate = Some fate
own_fate false (Found answer) = Some (Found answer)
own_fate false Unknown = Some Unknown
own_fate false (Bad kind byte) = unless_early kind byte

-- the fate so far of the bytes of an output, for the formula that the bytes of a job's file are: that of the stream as which they are read
abbrev pub IsOutputFateSoFar : List ℕ → List ℕ → ℕ → Option Fate → Type 0
IsOutputFateSoFar job bytes most fate = IsFateSoFar Drup job (stream_of false bytes) most fate

-- the fate of a whole output; None where the proof file decides
abbrev pub IsOutputFate : List ℕ → List ℕ → ℕ → Option Fate → Type 0
IsOutputFate job bytes most fate = (x : Fate) × IsFate Drup job (stream_of true bytes) most x × (fate ≡ own_fate (has_values bytes) x)
