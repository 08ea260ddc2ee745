-- A ring of n enabled registers as RTLIL text, and its task file, line by line.
use Rattle.std.specs.Prelude.{ℕ, ◌+◌, ◌-◌, ◌%◌, ◌==◌, List, [], ◌∷◌, ◌++◌, codes, if◌then◌else◌}
use Rattle.std.specs.List.{flat_map, range_with_len}
use Rattle.std.specs.Fmt.{decimal}

-- each line, and a line feed after it
abbrev pub text_of : List (List ℕ) → List ℕ
text_of [] = []
text_of (line ∷ lines) = line ++ 10 ∷ text_of lines

-- a wire's name, as `\q7`
abbrev pub wire_name : List ℕ → ℕ → List ℕ
wire_name letters i = codes "\\" ++ letters ++ decimal i

-- a cell's name, as `$r7`
abbrev pub cell_name : List ℕ → ℕ → List ℕ
cell_name letters i = codes "$" ++ letters ++ decimal i

-- a wire of one bit
abbrev pub wire : List ℕ → List ℕ
wire name = codes "  wire " ++ name

-- register i, which starts at 1 if it is the first and else at 0, and the two wires that are made of it
abbrev pub wires : ℕ → List (List ℕ)
wires i =
    (codes "  attribute \\init 1'" ++ (if i == 0 then codes "1" else codes "0"))
    ∷ wire (wire_name (codes "q") i)
    ∷ wire (wire_name (codes "y") i)
    ∷ wire (wire_name (codes "ok") i)
    ∷ []

-- `    parameter \NAME VALUE`
abbrev pub parameter : List ℕ → List ℕ → List ℕ
parameter name value = codes "    parameter \\" ++ name ++ codes " " ++ value

-- `    connect \PORT SIGNAL`
abbrev pub connect : List ℕ → List ℕ → List ℕ
connect port signal = codes "    connect \\" ++ port ++ codes " " ++ signal

-- a cell of this kind and name, with the lines of its parameters and ports
abbrev pub cell : List ℕ → List ℕ → List (List ℕ) → List (List ℕ)
cell kind name lines = (codes "  cell " ++ kind ++ codes " " ++ name) ∷ lines ++ codes "  end" ∷ []

-- register i: where `\en` is 1 it takes what the register before it in the ring holds
abbrev pub register : ℕ → ℕ → List (List ℕ)
register n i = cell (codes "$dffe") (cell_name (codes "r") i) (
    parameter (codes "CLK_POLARITY") (codes "1'1")
    ∷ parameter (codes "EN_POLARITY") (codes "1'1")
    ∷ parameter (codes "WIDTH") (codes "1")
    ∷ connect (codes "CLK") (codes "\\clk")
    ∷ connect (codes "D") (wire_name (codes "q") ((i + n - 1) % n))
    ∷ connect (codes "EN") (codes "\\en")
    ∷ connect (codes "Q") (wire_name (codes "q") i)
    ∷ [])

-- `\yi`: register i and the one after it in the ring are both 1
abbrev pub both : ℕ → ℕ → List (List ℕ)
both n i = cell (codes "$and") (cell_name (codes "c") i) (
    parameter (codes "A_SIGNED") (codes "0")
    ∷ parameter (codes "A_WIDTH") (codes "1")
    ∷ parameter (codes "B_SIGNED") (codes "0")
    ∷ parameter (codes "B_WIDTH") (codes "1")
    ∷ parameter (codes "Y_WIDTH") (codes "1")
    ∷ connect (codes "A") (wire_name (codes "q") i)
    ∷ connect (codes "B") (wire_name (codes "q") ((i + 1) % n))
    ∷ connect (codes "Y") (wire_name (codes "y") i)
    ∷ [])

-- `\oki`: not both are
abbrev pub not_both : ℕ → List (List ℕ)
not_both i = cell (codes "$not") (cell_name (codes "n") i) (
    parameter (codes "A_SIGNED") (codes "0")
    ∷ parameter (codes "A_WIDTH") (codes "1")
    ∷ parameter (codes "Y_WIDTH") (codes "1")
    ∷ connect (codes "A") (wire_name (codes "y") i)
    ∷ connect (codes "Y") (wire_name (codes "ok") i)
    ∷ [])

-- assertion i, always enabled, of `\oki`
abbrev pub assertion : ℕ → List (List ℕ)
assertion i = cell (codes "$assert") (codes "\\a" ++ decimal i) (
    connect (codes "A") (wire_name (codes "ok") i)
    ∷ connect (codes "EN") (codes "1'1")
    ∷ [])

-- the cells of register i, in a ring of n
abbrev pub cells : ℕ → ℕ → List (List ℕ)
cells n i = register n i ++ both n i ++ (not_both i ++ assertion i)

-- the module's name, and its clock and enable
abbrev pub head : List (List ℕ)
head = codes "module \\gen" ∷ codes "  wire input 1 \\clk" ∷ codes "  wire input 2 \\en" ∷ []

-- the design: all wires, and then all cells
abbrev pub design_lines : ℕ → List (List ℕ)
design_lines n =
    head
    ++ flat_map wires (range_with_len 0 n)
    ++ flat_map (cells n) (range_with_len 0 n)
    ++ codes "end" ∷ []

-- the task file's lines before the design
abbrev pub task_head : List (List ℕ)
task_head =
    codes "[options]" ∷ codes "mode prove" ∷ codes "depth 4"
    ∷ codes "[engines]" ∷ codes "sat" ∷ codes "sat"
    ∷ codes "[script]" ∷ codes "read_rtlil gen.il"
    ∷ codes "[file gen.il]" ∷ []

-- the task file: it holds the design
abbrev pub task_lines : ℕ → List (List ℕ)
task_lines n = task_head ++ design_lines n
