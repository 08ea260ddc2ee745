-- The names of jobs, and the paths of their files.
use Rattle.std.specs.Prelude.{ℕ, ◌==◌, if◌then◌else◌, List, ◌++◌, codes}
use Rattle.std.specs.Fmt.{decimal}
use Rattle.sby_terms.specs.declared.names.JobName.{JobName}
use Rattle.sby_terms.specs.declared.names.JobName.TheVariants.{Base, Step, Inv, Cover}

-- a job's name among the jobs of a task with this many slices: slices are numbered where there are several
unfoldable pub job_text : ℕ → JobName → List ℕ
job_text slices (Base j) = if slices == 1 then codes "base" else (codes "base" ++ decimal j)
job_text slices Step = codes "step"
job_text slices Inv = codes "inv"
job_text slices (Cover k) = codes "cover" ++ decimal k

unfoldable pub path_text : List ℕ → List ℕ → List ℕ
path_text folder job = folder ++ codes "/model/" ++ job ++ codes ".cnf"

-- the path of a job's file in the work folder
abbrev pub job_path : List ℕ → ℕ → JobName → List ℕ
job_path folder slices job = path_text folder (job_text slices job)
