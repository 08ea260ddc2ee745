-- Sections and their headers.
use Rattle.std.specs.Prelude.{ℕ, Bool, true, false, cond, List, [], ◌∷◌, codes, bytes_eq, ◌++◌}
use Rattle.std.specs.List.{flat_map}
use Rattle.sby_file.specs.declared.section.Section.{Section}
use Rattle.sby_file.specs.declared.section.Section.TheVariants.{Nowhere, Tasks, Options, Engines, Script, Files, File, Unknown}

-- the section of a name of one word
abbrev pub plain_section : List ℕ → Section
plain_section name =
    cond (bytes_eq name (codes "tasks")) Tasks
    (cond (bytes_eq name (codes "options")) Options
    (cond (bytes_eq name (codes "engines")) Engines
    (cond (bytes_eq name (codes "script")) Script (cond (bytes_eq name (codes "files")) Files Unknown))))

-- the section that a header of these words starts: `file NAME` starts a file
abbrev pub section_named : List (List ℕ) → Section
section_named [] = Unknown
section_named (word ∷ []) = plain_section word
section_named (word ∷ next ∷ words) = cond (bytes_eq word (codes "file")) File Unknown

abbrev pub is_file : Section → Bool
is_file File = true
is_file Nowhere = false
is_file Tasks = false
is_file Options = false
is_file Engines = false
is_file Script = false
is_file Files = false
is_file Unknown = false

-- the sections whose lines may have prefixes
abbrev pub is_scoped : Section → Bool
is_scoped Options = true
is_scoped Engines = true
is_scoped Script = true
is_scoped Files = true
is_scoped Nowhere = false
is_scoped Tasks = false
is_scoped File = false
is_scoped Unknown = false

-- the NAME of a header `file NAME`: its words with one space between them
abbrev pub name_of : List (List ℕ) → List ℕ
name_of [] = []
name_of (word ∷ []) = []
name_of (word ∷ name ∷ more) = name ++ flat_map (λ next. 32 ∷ next) more
