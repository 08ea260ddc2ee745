use Rattle.std.proofs.Common.{◌≡◌, ◌++◌, string_bytes}
use Rattle.std.specs.List.{flat_map, range_with_len}
use Rattle.gen_design.specs.Ring.{text_of, head, wires, cells}
use Rattle.gen_design.proofs.put_design.Given as goal

-- the first i registers have their wires
abbrev pub invariant-loop-i : goal.invariant-loop-i
invariant-loop-i l =
    string_bytes l.text ≡ string_bytes l.fn.text ++ text_of (head ++ flat_map wires (range_with_len 0 l.i))

-- all have their wires, and the first i their cells
abbrev pub invariant-loop-i-2 : goal.invariant-loop-i-2
invariant-loop-i-2 l =
    string_bytes l.text ≡ string_bytes l.fn.text ++ text_of (head ++ flat_map wires (range_with_len 0 l.n) ++ flat_map (cells l.n) (range_with_len 0 l.i))
