-- A run as a trace file, VCD of IEEE 1364: a head that declares the wires, then at each time the cycle's values.
use Rattle.std.specs.Prelude.{ℕ, ◌+◌, if◌then◌else◌, ◌==◌, List, [], ◌∷◌, ◌++◌, length, take, drop, codes}
use Rattle.std.specs.Fmt.{decimal}
use Rattle.std.specs.List.{enumerate_from, flat_map}
use Rattle.sby_bits.specs.Rows.{Row}
use Rattle.design_core.specs.Shape.{DesignOf, WireOf}
use Rattle.design_trace.specs.Trace.{value_text}

-- a name without the `\` that it may begin with
abbrev pub plain_name : List ℕ → List ℕ
plain_name [] = []
plain_name (b ∷ bs) = if b == 92 then bs else b ∷ bs

-- a name, with which a command ends: `NAME $end`
abbrev pub name_end : List ℕ → List ℕ
name_end name = plain_name name ++ codes " $end\n"

-- what stands for wire w: `w` and its number
abbrev pub identifier : ℕ → List ℕ
identifier w = 119 ∷ decimal w

-- `$var wire WIDTH IDENTIFIER NAME $end`
abbrev pub declaration : ℕ × WireOf → List ℕ
declaration (w, x) = codes "$var wire " ++ (decimal x.width ++ (32 ∷ (identifier w ++ (32 ∷ name_end x.name))))

-- `$scope module NAME $end`, and the two commands that end the head
abbrev pub scope : List ℕ → List ℕ
scope name = codes "$scope module " ++ name_end name

abbrev pub head_end : List ℕ
head_end = codes "$upscope $end\n$enddefinitions $end\n"

-- the head: the module as the scope, and each wire, in file order
abbrev pub vcd_head : DesignOf → List ℕ
vcd_head d = scope d.name ++ (flat_map declaration (enumerate_from 0 d.wires) ++ head_end)

-- the line `#K`
abbrev pub time_line : ℕ → List ℕ
time_line k = 35 ∷ (decimal k ++ 10 ∷ [])

-- a value of this width before the identifier: one bit as it is; more as `b`, the bits, highest first, and a space
abbrev pub value_before : ℕ → Row → List ℕ
value_before width row = if width == 1 then value_text row else 98 ∷ (value_text row ++ 32 ∷ [])

-- the value of wire w
abbrev pub change_line : ℕ → WireOf → Row → List ℕ
change_line w x row = value_before x.width row ++ (identifier w ++ 10 ∷ [])

-- the values of the wires from wire w on, in file order, whose bits stand in one row
abbrev pub change_lines : ℕ → List WireOf → Row → List ℕ
change_lines w [] row = []
change_lines w (x ∷ xs) row = change_line w x (take x.width row) ++ change_lines (w + 1) xs (drop x.width row)

-- one cycle: its time and the value of each wire
abbrev pub vcd_cycle : DesignOf → ℕ → Row → List ℕ
vcd_cycle d k row = time_line k ++ change_lines 0 d.wires row

-- the cycles from cycle k on
abbrev pub vcd_cycles_from : DesignOf → ℕ → List Row → List ℕ
vcd_cycles_from d k [] = []
vcd_cycles_from d k (row ∷ rows) = vcd_cycle d k row ++ vcd_cycles_from d (k + 1) rows

-- the trace file of what the wires have in each cycle; its last time is the number of cycles
abbrev pub vcd : DesignOf → List Row → List ℕ
vcd d rows = vcd_head d ++ (vcd_cycles_from d 0 rows ++ time_line (length rows))
