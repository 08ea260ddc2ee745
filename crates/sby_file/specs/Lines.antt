-- Lines in their places: which of them are headers, lines of `[tasks]`, and lines of sections with prefixes; and where a block is open.
use Rattle.std.specs.Prelude.{◌≡◌, ◌≢◌, ◌⊎◌, ℕ, true, false, List, ◌∷◌, ◌++◌, Contains}
use Rattle.sby_file.specs.Section.{section_named, is_scoped}
use Rattle.sby_file.specs.Prefix.{is_block_end, opens_block}
use Rattle.sby_file.specs.declared.section.Section.{Section}
use Rattle.sby_file.specs.declared.section.Section.TheVariants.{Tasks}
use Rattle.sby_file.specs.declared.line.Line.TheVariants.{Header, Content}
use Rattle.sby_file.specs.declared.walk.Placed.{Placed}

-- a header of this section, by its words
abbrev pub IsHeader : Section → List (List ℕ) → Placed → Type 0
IsHeader section name p = (p.line ≡ Header name) × (section_named name ≡ section)

-- a line of `[tasks]`, by its words
abbrev pub IsTaskLine : List (List ℕ) → Placed → Type 0
IsTaskLine words p = (p.section ≡ Tasks) × (p.line ≡ Content words)

-- a line of a section whose lines may have prefixes, by its words
abbrev pub IsScopedLine : List (List ℕ) → Placed → Type 0
IsScopedLine words p = (is_scoped p.section ≡ true) × (p.line ≡ Content words)

-- a block ends at a header, or at a line `--`
abbrev pub EndsBlock : Placed → Type 0
EndsBlock p =
    ((name : List (List ℕ)) × (p.line ≡ Header name)) ⊎ ((words : List (List ℕ)) × IsScopedLine words p × (is_block_end words ≡ true))

abbrev pub NoneEnds : List Placed → Type 0
NoneEnds ps = (p : Placed) → Contains ps p → EndsBlock p → ⊥

-- a line opens a block
abbrev pub OpensBlock : Placed → Type 0
OpensBlock p = (words : List (List ℕ)) × IsScopedLine words p × (is_block_end words ≡ false) × (opens_block words ≡ true)

-- a block is open after these lines: one of them opens it, and none after that one ends it
abbrev pub LeaveBlockOpen : List Placed → Type 0
LeaveBlockOpen ps = (before : List Placed) × (p : Placed) × (after : List Placed) × (ps ≡ before ++ p ∷ after) × OpensBlock p × NoneEnds after

-- a line `--`, and a header, among lines after a block's beginning
abbrev pub IsEndLine : Placed → Type 0
IsEndLine p = (words : List (List ℕ)) × (p.line ≡ Content words) × (is_block_end words ≡ true)

abbrev pub NoneStarts : List Placed → Type 0
NoneStarts ps = (p : Placed) (name : List (List ℕ)) → Contains ps p → p.line ≢ Header name

-- these lines close a block: one of them is `--`, and no section starts before it
abbrev pub CloseBlock : List Placed → Type 0
CloseBlock ps = (before : List Placed) × (p : Placed) × (after : List Placed) × (ps ≡ before ++ p ∷ after) × IsEndLine p × NoneStarts before

-- some line of these is so
abbrev pub SomeLine : (Placed → Type 0) → List Placed → Type 0
SomeLine Is ps = (p : Placed) × Contains ps p × Is p
