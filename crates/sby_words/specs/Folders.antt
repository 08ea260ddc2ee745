-- Stems of paths, and work folders.
use Rattle.std.specs.Prelude.{◌≡◌, ◌⊎◌, ℕ, List, [], ◌∷◌, ◌++◌, Option, codes, unwrap_or}

-- the text ends so
abbrev pub EndsIn : List ℕ → List ℕ → Type 0
EndsIn end text = (front : List ℕ) × (text ≡ front ++ end)

-- the text isn't empty: files of an empty folder would be put at the root of the file system
abbrev pub IsNamed : List ℕ → Type 0
IsNamed text = text ≡ [] → ⊥

-- the stem is the design's path without a final `.il` or `.rtlil`
abbrev pub IsDesignStem : List ℕ → List ℕ → Type 0
IsDesignStem design stem = (design ≡ stem ++ codes ".il") ⊎ (design ≡ stem ++ codes ".rtlil")
    ⊎ ((design ≡ stem) × (EndsIn (codes ".il") design → ⊥) × (EndsIn (codes ".rtlil") design → ⊥))

-- the stem is the task file's path without a final `.sby`
abbrev pub IsStem : List ℕ → List ℕ → Type 0
IsStem file stem = (file ≡ stem ++ codes ".sby") ⊎ ((file ≡ stem) × (EndsIn (codes ".sby") file → ⊥))

-- the task file has a stem that isn't empty
pub record HasStem (file : List ℕ) : Type 0 where
  pub stem : List ℕ
  pub is_stem : IsStem file stem
  pub named : IsNamed stem

-- the work folder of `--judge` is DIR where it is given, and else the design's stem; neither may be empty
pub record IsFolder (directory : Option (List ℕ)) (design folder : List ℕ) : Type 0 where
  pub stem : List ℕ
  pub is_stem : IsDesignStem design stem
  pub named : IsNamed stem
  pub chosen : folder ≡ unwrap_or directory stem
  pub placed : IsNamed folder

-- `_TASK`, where the task has a name
abbrev pub task_end : List ℕ → List ℕ
task_end [] = []
task_end (b ∷ bs) = codes "_" ++ b ∷ bs

-- the work folder of a task: DIR or else the stem, and `_TASK` after it
abbrev pub task_folder : List ℕ → Option (List ℕ) → List ℕ → List ℕ
task_folder stem directory task = unwrap_or directory stem ++ task_end task
