-- What the steps of a task answer, for the contracts of private functions.
use Rattle.std.specs.Prelude.{◌≡◌, ◌⊎◌, ℕ, ◌≤◌, List, ◌++◌, length, take, string_bytes, Option, Some, None, slice_get, Result, Ok, Err}
use Rattle.sby_edge.specs.Files.{Store}
use Rattle.sby_edge.specs.declared.outside.Got.{Got}
use Rattle.sby_edge.specs.declared.outside.Got.TheVariants.{All as Whole, Long}
use Rattle.judge.specs.Fault.{IsProblemFault}
use Rattle.judge.specs.Finding.{FindingOf, IsTrueFinding}
use Rattle.judge.specs.Judging.{IsSameJudge, JudgeOf, Took}
use Rattle.cert_judge.specs.Numbers.{number_of}
use Rattle.judge.specs.Problem.{AskedOf, IsJobFile}
use Rattle.judge.specs.declared.judging.Progress.{Progress}
use Rattle.judge.specs.declared.judging.Progress.TheVariants.{More, Done, Unknown as UnknownProgress}
use Rattle.judge.specs.declared.problem.ProblemFault.TheVariants.{Read as ReadFault, Design as DesignFault, TooMany as TooManyFault}
use Rattle.cert_judge.specs.declared.stream.BadCert.{BadCert}
use Rattle.race_core.specs.declared.end.JobEnd.{JobEnd}
use Rattle.race_core.specs.declared.end.JobEnd.TheVariants.{Found, Unknown, NotServed, Bad, ReadFailed, StartFailed, HoldFailed, Skipped, CalledOff, Stopped, Memory as MemoryEnd}
use Rattle.sby_terms.specs.Problem.{ProblemOf}
use Rattle.sby_terms.specs.declared.names.JobName.{JobName}
use Rattle.sby_lines.specs.declared.early.Early.{Early}
use Rattle.sby_lines.specs.declared.early.Early.TheVariants.{File, Sby, Task, Read, Design, TooMany, Streams, Memory}
use Rattle.sby_top.specs.Judged.{EndsWithRun, Has, IsEndOf, IsFateEnd, IsGotFor, IsStreamEnd}
use Rattle.sby_top.specs.Served.{ArePut, JobFile, file_path, files_in, most_stream, slices_in}
use Rattle.sby_top.specs.Task.{DesignAt, Service, Stored, streams_in}
use Rattle.sby_top.specs.World.{FilesOf, IsFailedAt}

-- the file store at a moment
abbrev pub files_at : Option Store → ℕ → Option (List ℕ) → FilesOf
files_at told faults blamed = record { told = told; faults = faults; blamed = blamed }

-- the bytes that a call of `get` gave
abbrev pub got_items : Got → List ℕ
got_items (Whole v) = v.items
got_items (Long v) = v.items

-- a call failed at this path; or memory ran out, and the files are as they were
abbrev pub IsFailedCall : FilesOf → FilesOf → List ℕ → Early → Type 0
IsFailedCall before after path (File p) = (string_bytes p ≡ path) × IsFailedAt before after path
IsFailedCall before after path Memory = (before.faults ≤ after.faults) × (after.told ≡ before.told)
IsFailedCall before after path (Sby fault) = ⊥
IsFailedCall before after path (Task fault) = ⊥
IsFailedCall before after path (Read f) = ⊥
IsFailedCall before after path (Design f) = ⊥
IsFailedCall before after path (TooMany job) = ⊥
IsFailedCall before after path Streams = ⊥

-- a call for a design's text failed, at its path; or memory ran out, and the files are as they were
abbrev pub IsTextFailed : DesignAt → FilesOf → FilesOf → Early → Type 0
IsTextFailed design before after early = ((path : List ℕ) × (design ≡ Stored path) × IsFailedCall before after path early) ⊎ ((early ≡ Memory) × (after.told ≡ before.told))

-- a problem is refused so; or memory ran out
abbrev pub IsRefusal : ProblemOf → Early → Type 0
IsRefusal p (Read f) = IsProblemFault p (ReadFault f)
IsRefusal p (Design f) = IsProblemFault p (DesignFault f)
IsRefusal p (TooMany job) = IsProblemFault p (TooManyFault job)
IsRefusal p Memory = Unit {0}
IsRefusal p (File path) = ⊥
IsRefusal p (Sby fault) = ⊥
IsRefusal p (Task fault) = ⊥
IsRefusal p Streams = ⊥

-- the end of a job by the stream at its path, or it has none
abbrev pub IsPathJudged : AskedOf → Option Store → JobName → Option (List ℕ) → JobEnd FindingOf → Type 0
IsPathJudged p told job None end = end ≡ NotServed
IsPathJudged p told job (Some path) end = IsStreamEnd p told job path end

-- The put of one of these files failed at its path, when those before it were put; or memory ran out there.
pub record IsPutFailed (p : AskedOf) (folder : List ℕ) (files : List JobFile) (before after : FilesOf) (early : Early) : Type 0 where
  pub place : ℕ
  pub file : JobFile
  pub at : slice_get files place ≡ Some file
  pub put : ArePut p folder (take place files) before.told after.told
  pub failed : IsFailedCall (record before { told = after.told }) after (file_path folder (slices_in p) file) early

-- The jobs of an accepted design were cut short: memory ran out before their files were put; the file of one couldn't be put; or all
-- were, and a stream couldn't be got, or memory ran out for racing their lanes.
abbrev pub IsCutShort : AskedOf → List ℕ → Service → FilesOf → FilesOf → Early → Type 0
IsCutShort p folder service before after early =
    ((early ≡ Memory) × (after ≡ before))
    ⊎ IsPutFailed p folder (files_in service p) before after early
    ⊎ (ArePut p folder (files_in service p) before.told after.told
    × (((path : List ℕ) × IsGotFor p (streams_in service) path × IsFailedCall (record before { told = after.told }) after path early) ⊎ (early ≡ Memory)))

-- the finding of an end, if it is one, is true
abbrev pub IsTrueEnd : JobEnd FindingOf → Type 0
IsTrueEnd (Found f) = IsTrueFinding f
IsTrueEnd Unknown = Unit {0}
IsTrueEnd NotServed = Unit {0}
IsTrueEnd (Bad number at) = Unit {0}
IsTrueEnd ReadFailed = Unit {0}
IsTrueEnd StartFailed = Unit {0}
IsTrueEnd HoldFailed = Unit {0}
IsTrueEnd (Skipped f) = Unit {0}
IsTrueEnd (CalledOff f) = Unit {0}
IsTrueEnd (Stopped reading) = Unit {0}
IsTrueEnd MemoryEnd = Unit {0}

-- the end of a job whose stream was judged as this
abbrev pub end_of : Result Progress BadCert → JobEnd FindingOf
end_of (Ok (Done f)) = Found f
end_of (Ok UnknownProgress) = Unknown
end_of (Ok More) = Unknown
end_of (Err bad) = Bad (number_of bad.kind) bad.at

-- this stream, as one for a judge's job and of its kind, ends the job so
pub record StreamEnds (j : JudgeOf) (stream : List ℕ) (end : JobEnd FindingOf) : Type 0 where
  pub of : IsEndOf j.asked j.job end
  pub fate : (file : List ℕ) → IsJobFile j.asked j.job file → IsFateEnd j.asked j.job j.kind file stream end
  pub run : EndsWithRun j.asked j.job j.kind stream end

-- a judge took these bytes, and goes on; or they end its job so, whatever follows
abbrev pub PieceEnds : JudgeOf → JudgeOf → List ℕ → Option (JobEnd FindingOf) → Type 0
PieceEnds old new bytes None = IsSameJudge old new × Took new bytes × (length bytes ≤ most_stream)
PieceEnds old new bytes (Some end) = (rest : List ℕ) → StreamEnds old (bytes ++ rest) end

-- the stream at this path ends a judge's job so
pub record PathEnds (j : JudgeOf) (told : Option Store) (path : List ℕ) (end : JobEnd FindingOf) : Type 0 where
  pub of : IsEndOf j.asked j.job end
  pub fate : (file : List ℕ) → IsJobFile j.asked j.job file → Has told path (λ stream. IsFateEnd j.asked j.job j.kind file stream end)
  pub run : Has told path (λ stream. EndsWithRun j.asked j.job j.kind stream end)
