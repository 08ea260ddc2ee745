-- Where a design stands.
use Rattle.std.specs.Prelude.{ℕ, Bool, cond, eqb, List, [], ◌∷◌, ◌++◌, Option, Some, None, bytes_eq}
use Rattle.sby_file.specs.declared.section.Section.{Section}
use Rattle.sby_file.specs.declared.section.Section.TheVariants.{Nowhere, Tasks, Options, Engines, Script, Files, File, Unknown}
use Rattle.sby_file.specs.declared.config.Row.{Row}
use Rattle.sby_file.specs.declared.config.StoredFile.{StoredFile}

-- a path's part after its last `/`: each `/` begins it again
abbrev pub part_from : List ℕ → List ℕ → List ℕ
part_from part [] = part
part_from part (b ∷ bs) = cond (eqb b 47) (part_from [] bs) (part_from (part ++ b ∷ []) bs)

abbrev pub part_of : List ℕ → List ℕ
part_of path = part_from [] path

abbrev pub is_path_named : List ℕ → List ℕ → Bool
is_path_named path name = bytes_eq (part_of path) name

-- the path of a line `path` or `name path` that has this name
abbrev pub words_path : List (List ℕ) → List ℕ → Option (List ℕ)
words_path [] name = None
words_path (path ∷ []) name = cond (is_path_named path name) (Some path) None
words_path (given ∷ path ∷ []) name = cond (bytes_eq given name) (Some path) None
words_path (given ∷ path ∷ more ∷ words) name = None

abbrev pub section_path : Section → List (List ℕ) → List ℕ → Option (List ℕ)
section_path Files words name = words_path words name
section_path Nowhere words name = None
section_path Tasks words name = None
section_path Options words name = None
section_path Engines words name = None
section_path Script words name = None
section_path File words name = None
section_path Unknown words name = None

abbrev pub path_of : Row → List ℕ → Option (List ℕ)
path_of row name = section_path row.section row.words name

-- the later one, where there is one
abbrev pub path_after : Option (List ℕ) → Option (List ℕ) → Option (List ℕ)
path_after found None = found
path_after found (Some path) = Some path

-- the path of this name, of the last line that has it
abbrev pub path_in : Option (List ℕ) → List Row → List ℕ → Option (List ℕ)
path_in found [] name = found
path_in found (row ∷ rows) name = path_in (path_after found (path_of row name)) rows name

-- the bytes of the file of this name
abbrev pub bytes_in : List StoredFile → List ℕ → Option (List ℕ)
bytes_in [] name = None
bytes_in (file ∷ files) name = cond (bytes_eq file.name name) (Some file.bytes) (bytes_in files name)
