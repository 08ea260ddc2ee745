-- What is got and put for a task.
use Rattle.std.specs.Prelude.{◌≡◌, ℕ, suc, ◌+◌, ◌-◌, ◌≤◌, Bool, true, false, ◌&&◌, ◌||◌, cond, List, [], ◌∷◌, ◌++◌, length, take, drop, slice_get, Option, Some, None, option_map, codes, bytes_eq}
use Rattle.sby_edge.specs.Files.{Store, put_at}
use Rattle.judge.specs.Fault.{IsProblemFault}
use Rattle.judge.specs.Jobs.{jobs_of}
use Rattle.cert_judge.specs.declared.stream.Kind.TheVariants.{Witness}
use Rattle.judge.specs.Fates.{Serves}
use Rattle.judge.specs.Problem.{AskedOf, IsJob, IsJobFile, IsProblem}
use Rattle.judge.specs.Witness.{IsLinesFile}
use Rattle.judge.specs.declared.problem.ProblemFault.{ProblemFault}
use Rattle.sby_terms.specs.Span.{slices_of}
use Rattle.sby_terms.specs.declared.engine.Engine.{Engine}
use Rattle.sby_terms.specs.declared.engine.Engine.TheVariants as engine
use Rattle.sby_terms.specs.declared.names.JobName.{JobName}
use Rattle.sby_terms.specs.declared.names.JobName.TheVariants.{Base, Step, Inv, Cover}
use Rattle.sby_terms.specs.Path.{job_path}
use Rattle.sby_top.specs.Task.{DesignAt, Given, Lanes, Service, Stored, Streams, TaskOf, problem_of, streams_in}
use Rattle.sby_words.specs.Kinds.{IsKindNamed}
use Rattle.task_race.specs.Words.{btor_path}

-- the greatest size of a design's text, and of a stream, in bytes
abbrev pub most_design : ℕ
most_design = 67108864

abbrev pub most_stream : ℕ
most_stream = 4294967296

-- what `get` gives of a path, where the store tells: its content, cut after `most + 1` bytes; where it doesn't, no more than this many
abbrev pub IsGot : Option Store → List ℕ → ℕ → List ℕ → Type 0
IsGot None path most bytes = length bytes ≤ most + 1
IsGot (Some store) path most bytes = (content : List ℕ) × (store path ≡ Some content) × (bytes ≡ take (most + 1) content)

-- the design's text: what its path gave, or the one that is given
abbrev pub IsTextOf : Option Store → DesignAt → List ℕ → Type 0
IsTextOf told (Stored path) text = IsGot told path most_design text
IsTextOf told (Given bytes) text = text ≡ bytes

-- the design's text is refused by this fault
abbrev pub IsRefused : Option Store → TaskOf → ProblemFault → Type 0
IsRefused told task fault = (text : List ℕ) × IsTextOf told task.design text × IsProblemFault (problem_of task text) fault

-- it is accepted, as this problem
pub record IsAccepted (told : Option Store) (task : TaskOf) (p : AskedOf) : Type 0 where
  pub got : IsTextOf told task.design p.problem.text
  pub asked : p.problem ≡ problem_of task p.problem.text
  pub problem : IsProblem p

-- the jobs of a problem
abbrev pub jobs_in : AskedOf → List JobName
jobs_in p = jobs_of p.problem p.design

-- and there is a job for each stream
abbrev pub IsServed : Option Store → TaskOf → AskedOf → Type 0
IsServed told task p = IsAccepted told task p × (length (streams_in task.service) ≤ length (jobs_in p))

-- how many slices a problem's cycles have
abbrev pub slices_in : AskedOf → ℕ
slices_in p = slices_of p.problem.span

-- a file that is put for a job: its own, which is its formula or, of Inv, the pair of two cycles; or the model in BTOR2
pub data JobFile : Type 0 where
  Formula : JobName → JobFile
  Btor : JobName → JobFile

-- the text ends so
abbrev pub ends_in : List ℕ → List ℕ → Bool
ends_in end text = bytes_eq end (drop (length text - length end) text)

-- the engine prints witnesses
abbrev pub is_btor : Engine → Bool
is_btor (engine.Sat conflicts) = false
is_btor (engine.Drup words) = false
is_btor (engine.Btor words) = true
is_btor (engine.Inv words) = false
is_btor (engine.Lrat words) = false
is_btor (engine.Net words) = false
is_btor (engine.Proof words) = false
is_btor (engine.ProofBinary words) = false

-- some engine does
abbrev pub some_btor : List Engine → Bool
some_btor [] = false
some_btor (e ∷ es) = is_btor e || some_btor es

-- a stored stream is a witness by its name
abbrev pub is_witness_path : Option (List ℕ) → Bool
is_witness_path None = false
is_witness_path (Some path) = ends_in (codes ".wit") path

-- some witness may be judged for the job at a place: one that an engine prints, or its stored stream
abbrev pub takes_witness : Service → ℕ → Bool
takes_witness (Streams paths) place = is_witness_path (slice_get paths place)
takes_witness (Lanes engines) place = some_btor engines

-- the job asks for a run from the start
abbrev pub asks_run : JobName → Bool
asks_run (Base i) = true
asks_run Step = false
asks_run Inv = false
asks_run (Cover k) = true

-- the files that are put for the job at a place: its own, and the model in BTOR2 where a witness may show what the job asks for
abbrev pub job_files : Service → ℕ → JobName → List JobFile
job_files service place job = Formula job ∷ cond (asks_run job && takes_witness service place) (Btor job ∷ []) []

-- the files of these jobs, of which the first stands at this place
abbrev pub files_from : Service → ℕ → List JobName → List JobFile
files_from service place [] = []
files_from service place (job ∷ jobs) = job_files service place job ++ files_from service (suc place) jobs

-- the files that are put for the jobs of a problem, in order
abbrev pub files_in : Service → AskedOf → List JobFile
files_in service p = files_from service 0 (jobs_in p)

-- a witness may be judged for the job: its stored stream is one, or an engine of a lane prints one
abbrev pub TakesWitness : Service → AskedOf → JobName → Type 0
TakesWitness (Streams paths) p job =
    (place : ℕ) × (path : List ℕ) × (slice_get (jobs_in p) place ≡ Some job) × (slice_get paths place ≡ Some path) × IsKindNamed path Witness × Serves Witness job
TakesWitness (Lanes engines) p job = (lane : ℕ) × (words : List (List ℕ)) × (slice_get engines lane ≡ Some (engine.Btor words)) × IsJob p job × Serves Witness job

-- these bytes are what is put as the file
abbrev pub IsFileOf : AskedOf → JobFile → List ℕ → Type 0
IsFileOf p (Formula job) bytes = IsJobFile p job bytes
IsFileOf p (Btor job) bytes = IsLinesFile p job bytes

-- its path in the work folder
abbrev pub file_path : List ℕ → ℕ → JobFile → List ℕ
file_path folder slices (Formula job) = job_path folder slices job
file_path folder slices (Btor job) = btor_path folder slices job

-- the store with a file put
abbrev pub with_file : AskedOf → List ℕ → JobFile → List ℕ → Option Store → Option Store
with_file p folder file bytes told = option_map (put_at (file_path folder (slices_in p) file) bytes) told

-- these files were put, one after the other, and nothing else changed
abbrev pub ArePut : AskedOf → List ℕ → List JobFile → Option Store → Option Store → Type 0
ArePut p folder [] before after = after ≡ before
ArePut p folder (file ∷ files) before after = (bytes : List ℕ) × IsFileOf p file bytes × ArePut p folder files (with_file p folder file bytes before) after
