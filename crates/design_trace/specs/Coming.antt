-- What is still to come of a trace file that is given piece by piece.
use Rattle.std.specs.Prelude.{◌≡◌, ℕ, ◌+◌, ◌^◌, ◌<◌, ◌≤◌, List, [], ◌++◌, length, take, drop, slice_index_or}
use Rattle.std.specs.List.{enumerate_from, flat_map, sum_by}
use Rattle.sby_bits.specs.Rows.{Row}
use Rattle.design_core.specs.Shape.{DesignOf, wire_bits}
use Rattle.design_trace.specs.Trace.{value_text}
use Rattle.design_trace.specs.Changes.{change_lines, declaration, head_end, time_line, vcd, vcd_cycles_from}
use Rattle.design_trace.specs.declared.vcd_parts.Short.{Short}
use Rattle.design_trace.specs.declared.vcd_parts.Middle.{Middle}
use Rattle.design_trace.specs.declared.vcd_parts.Middle.TheVariants.{Name, Bits}
use Rattle.design_trace.specs.declared.vcd_lines.Line.{Line}
use Rattle.design_trace.specs.declared.vcd_lines.Place.{Place}
use Rattle.design_trace.specs.declared.vcd_lines.Place.TheVariants.{Scope, Declaration, HeadEnd, Time, Change, End}

abbrev pub short_text : Short → List ℕ
short_text s = drop s.given s.text.bytes

-- a name, or bits of a cycle, highest first
abbrev pub middle_text : List Row → Middle → List ℕ
middle_text rows (Name bytes) = bytes.now
middle_text rows (Bits k low count) = value_text (take count (drop low (slice_index_or rows k [])))

-- what is still to come of a line
abbrev pub line_text : List Row → Line → List ℕ
line_text rows l = short_text l.before ++ (middle_text rows l.middle ++ short_text l.after)

-- the cycles from cycle k on, and the last time
abbrev pub times_text : DesignOf → List Row → ℕ → List ℕ
times_text d rows k = vcd_cycles_from d k (drop k rows) ++ time_line (length rows)

abbrev pub head_end_text : DesignOf → List Row → List ℕ
head_end_text d rows = head_end ++ times_text d rows 0

-- the declarations of the wires from wire w on, and what comes after them
abbrev pub declarations_text : DesignOf → List Row → ℕ → List ℕ
declarations_text d rows w = flat_map declaration (enumerate_from w (drop w d.wires)) ++ head_end_text d rows

-- the values of the wires from wire w on in cycle k, whose bits stand from place `low` on, and what comes after them
abbrev pub changes_text : DesignOf → List Row → ℕ → ℕ → ℕ → List ℕ
changes_text d rows k w low = change_lines w (drop w d.wires) (drop low (slice_index_or rows k [])) ++ times_text d rows (k + 1)

-- the text from a place on
abbrev pub text_from : DesignOf → List Row → Place → List ℕ
text_from d rows Scope = vcd d rows
text_from d rows (Declaration w) = declarations_text d rows w
text_from d rows HeadEnd = head_end_text d rows
text_from d rows (Time k) = times_text d rows k
text_from d rows (Change k w low) = changes_text d rows k w low
text_from d rows End = []

-- what is still to come of a line, and after it
abbrev pub rest_of : DesignOf → List Row → Line → List ℕ
rest_of d rows l = line_text rows l ++ text_from d rows l.next

abbrev pub IsShort : Short → Type 0
IsShort s = s.given ≤ length s.text.bytes

-- the bits are there, and so few that 32 bits count them
abbrev pub IsMiddle : List Row → Middle → Type 0
IsMiddle rows (Name bytes) = Unit {0}
IsMiddle rows (Bits k low count) = (k < length rows) × (low + count ≤ length (slice_index_or rows k [])) × (low + count < 2 ^ 32)

pub record IsLine (rows : List Row) (l : Line) : Type 0 where
  pub before : IsShort l.before
  pub middle : IsMiddle rows l.middle
  pub after : IsShort l.after

-- the place is one of the text
abbrev pub IsPlace : DesignOf → List Row → Place → Type 0
IsPlace d rows Scope = Unit {0}
IsPlace d rows (Declaration w) = w < length d.wires
IsPlace d rows HeadEnd = Unit {0}
IsPlace d rows (Time k) = k ≤ length rows
IsPlace d rows (Change k w low) = (k < length rows) × (w < length d.wires) × (low + sum_by (λ x. x.width) (drop w d.wires) ≡ wire_bits d)
IsPlace d rows End = Unit {0}
