-- The words of a lane's child.
use Rattle.std.specs.Prelude.{ℕ, Bool, cond, List, [], ◌∷◌, ◌++◌, length, take, drop, map, Option, None, Some, option_map, codes, bytes_eq}
use Rattle.std.specs.Fmt.{decimal}
use Rattle.sby_terms.specs.declared.engine.Engine.{Engine}
use Rattle.sby_terms.specs.declared.engine.Engine.TheVariants as engine
use Rattle.sby_terms.specs.declared.names.JobName.{JobName}
use Rattle.sby_terms.specs.Path.{job_path, job_text}

unfoldable pub solver_word : List ℕ
solver_word = codes "cdcl_program"

unfoldable pub budget_word : List ℕ
budget_word = codes "--conflicts"

-- what stands for the path of the job's file, and for that of the proof file
unfoldable pub formula_mark : List ℕ
formula_mark = codes "{cnf}"

unfoldable pub proof_mark : List ℕ
proof_mark = codes "{proof}"

-- a word begins with a mark
abbrev pub begins : List ℕ → List ℕ → Bool
begins mark word = bytes_eq mark (take (length mark) word)

-- what stands before a mark in a word and after it, at its first place; nothing where it doesn't stand there
abbrev pub parted : List ℕ → List ℕ → Option (List ℕ × List ℕ)
parted mark [] = None
parted mark (b ∷ bs) = cond (begins mark (b ∷ bs)) (Some ([], drop (length mark) (b ∷ bs))) (option_map (λ (p : List ℕ × List ℕ). (b ∷ p.0, p.1)) (parted mark bs))

-- a path in place of a mark
abbrev pub joined : List ℕ → List ℕ → Option (List ℕ × List ℕ) → List ℕ
joined path word None = word
joined path word (Some (front, back)) = front ++ path ++ back

abbrev pub replaced : List ℕ → List ℕ → List ℕ → List ℕ
replaced mark path word = joined path word (parted mark word)

-- a word with these paths in place of the marks
abbrev pub both_joined : List ℕ → List ℕ → List ℕ → Option (List ℕ × List ℕ) → List ℕ
both_joined path proof word None = replaced proof_mark proof word
both_joined path proof word (Some (front, back)) = replaced proof_mark proof front ++ path ++ replaced proof_mark proof back

abbrev pub with_paths : List ℕ → List ℕ → List ℕ → List ℕ
with_paths path proof word = both_joined path proof word (parted formula_mark word)

-- the words of an engine's child, for the file that it reads and the proof file at these paths; one that is reached over a connection
-- reads none, so its line's words stand as they are
abbrev pub words_of : Engine → List ℕ → List ℕ → List (List ℕ)
words_of (engine.Sat None) path proof = solver_word ∷ path ∷ []
words_of (engine.Sat (Some n)) path proof = solver_word ∷ budget_word ∷ decimal n ∷ path ∷ []
words_of (engine.Drup words) path proof = words ++ path ∷ []
words_of (engine.Btor words) path proof = words ++ path ∷ []
words_of (engine.Inv words) path proof = words ++ path ∷ []
words_of (engine.Lrat words) path proof = words ++ path ∷ []
words_of (engine.Net words) path proof = words
words_of (engine.Proof words) path proof = map (with_paths path proof) words
words_of (engine.ProofBinary words) path proof = map (with_paths path proof) words

unfoldable pub btor_file : List ℕ → List ℕ → List ℕ
btor_file folder job = folder ++ codes "/model/" ++ job ++ codes ".btor"

-- the path of a job's model in BTOR2 in the work folder of a task with this many slices
abbrev pub btor_path : List ℕ → ℕ → JobName → List ℕ
btor_path folder slices job = btor_file folder (job_text slices job)

-- the path of the file that an engine reads for a job, or that is sent to it: the model in BTOR2, or the job's own file
abbrev pub path_of : Engine → List ℕ → ℕ → JobName → List ℕ
path_of (engine.Sat conflicts) folder slices job = job_path folder slices job
path_of (engine.Drup words) folder slices job = job_path folder slices job
path_of (engine.Btor words) folder slices job = btor_path folder slices job
path_of (engine.Inv words) folder slices job = job_path folder slices job
path_of (engine.Lrat words) folder slices job = job_path folder slices job
path_of (engine.Net words) folder slices job = job_path folder slices job
path_of (engine.Proof words) folder slices job = job_path folder slices job
path_of (engine.ProofBinary words) folder slices job = job_path folder slices job

unfoldable pub file_text : ℕ → List ℕ → List ℕ
file_text lane job = codes "engine_" ++ decimal lane ++ codes "_" ++ job

unfoldable pub proof_text : List ℕ → List ℕ → List ℕ
proof_text folder file = folder ++ codes "/model/" ++ file ++ codes ".proof"

-- the path of the proof file that a lane's child leaves for a job of a task with this many slices
abbrev pub proof_path : List ℕ → ℕ → ℕ → JobName → List ℕ
proof_path folder lane slices job = proof_text folder (file_text lane (job_text slices job))

-- the words of a lane's child for a job of such a task, if the lane has an engine
abbrev pub words_at : Option Engine → List ℕ → ℕ → ℕ → JobName → List (List ℕ)
words_at None folder lane slices job = []
words_at (Some e) folder lane slices job = words_of e (path_of e folder slices job) (proof_path folder lane slices job)
