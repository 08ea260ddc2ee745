-- Whether some line of a task gives the mode prove.
use Rattle.std.specs.Prelude.{ℕ, Bool, true, false, ◌&&◌, ◌||◌, List, [], ◌∷◌, codes, bytes_eq}
use Rattle.sby_file.specs.declared.config.Row.{Row}
use Rattle.sby_file.specs.declared.section.Section.{Section}
use Rattle.sby_file.specs.declared.section.Section.TheVariants.{Nowhere, Tasks, Options, Engines, Script, Files, File, Unknown}

abbrev pub is_options : Section → Bool
is_options Options = true
is_options Nowhere = false
is_options Tasks = false
is_options Engines = false
is_options Script = false
is_options Files = false
is_options File = false
is_options Unknown = false

-- the words `mode prove`
abbrev pub are_mode_prove : List (List ℕ) → Bool
are_mode_prove [] = false
are_mode_prove (name ∷ []) = false
are_mode_prove (name ∷ value ∷ []) = bytes_eq name (codes "mode") && bytes_eq value (codes "prove")
are_mode_prove (name ∷ value ∷ more ∷ words) = false

abbrev pub gives_prove : Row → Bool
gives_prove row = is_options row.section && are_mode_prove row.words

-- some line is such
abbrev pub is_proved : List Row → Bool
is_proved [] = false
is_proved (row ∷ rows) = gives_prove row || is_proved rows
