use Rattle.std.proofs.Common.{◌≡◌, ◌++◌, ℕ, [], ◌∷◌, string_bytes, subst, arith}
use Rattle.std.specs.Prelude.{codes}
use Rattle.std.specs.List.{flat_map, range_with_len}
use Rattle.gen_design.specs.Ring.{text_of, head, wires, cells}
use Rattle.gen_design.proofs.Lines.{more_lines, more_of_each}
use Rattle.gen_design.proofs.put_design.Goals as goal

pub loop-i-preserved : goal.loop-i-preserved
loop-i-preserved c =
    more_of_each wires head c.loop-i.i (string_bytes c.args.text.now) (string_bytes c.loop-i.text) (string_bytes c.put_wires.new.text)
    c.loop-i.invariant c.in_ok-put_wires.ensures

pub loop-i-2-preserved : goal.loop-i-2-preserved
loop-i-2-preserved c =
    more_of_each (cells c.args.n) (head ++ flat_map wires (range_with_len 0 c.args.n)) c.loop-i-2.i (string_bytes c.args.text.now)
    (string_bytes c.loop-i-2.text) (string_bytes c.put_cells.new.text) c.loop-i-2.invariant c.in_ok-put_cells.ensures

pub returns : goal.returns
returns c =
    let old = string_bytes c.args.text.now in
    let n = c.args.n in
    let front = head ++ flat_map wires (range_with_len 0 n) in
    let all : c.loop-i-2.i ≡ n = omega arith in
    let so_far = subst (λ (i : ℕ). string_bytes c.loop-i-2.text ≡ old ++ text_of (front ++ flat_map (cells n) (range_with_len 0 i))) all c.loop-i-2.invariant in
    more_lines (front ++ flat_map (cells n) (range_with_len 0 n)) (codes "end" ∷ []) old (string_bytes c.loop-i-2.text) (string_bytes c.push_str-2.new.self)
    so_far c.in_ok-push_str-2.ensures.bytes
