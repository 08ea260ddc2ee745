use Rattle.std.proofs.Common.{◌≡◌, ◌∙◌, ℕ, ◌+◌, ◌^◌, get_or, sym, ap, arith}
use Rattle.std.specs.Prelude.{pos}
use Rattle.std.specs.Int.{int_div_euclid}
use Rattle.cnf_form.specs.Cnf.{lit_in}
use Rattle.sby_bits.specs.Rows.{fit}
use Rattle.sby_bits.specs.Words.{filled_number}
use Rattle.sby_bits.proofs.Numbers.{bit_of, down-at, filled-at, fit-at, length-fit}
use Rattle.gate_rows.specs.Literals.{row_of}
use Rattle.gate_rows.proofs.Building.{Builds-none, Built-push, Built-row, later_or, lit_or-in}
use Rattle.gate_rows.proofs.places.moved_down.Goals as goal

pub loop-place-preserved : goal.loop-place-preserved
loop-place-preserved c =
    rw c.in_ok-push.ensures
    (Built-push c.args.gates.now c.args.gates.now c.args.gates.now (λ x j. bit_of (int_div_euclid (filled_number (row_of x c.args.a.now) (lit_in x c.args.fill)) (pos (2 ^ c.args.from))) j)
    c.loop-place.place c.loop-place.word.items c.lit_or.result c.loop-place.invariant (Builds-none c.args.gates.now 1)
    (later_or c.args.gates.now.formula.vars c.args.gates.now.formula.vars c.args.a.now _ c.args.fill c.lit_or.result (omega arith) c.requires.a c.requires.fill c.lit_or.ensures)
    (λ x s.
    ap (lit_in x) c.lit_or.ensures ∙ lit_or-in x c.args.a.now (c.loop-place.place + c.args.from) c.args.fill
    ∙ ap (λ (i : ℕ). get_or (row_of x c.args.a.now) i (lit_in x c.args.fill)) (omega arith)
    ∙ filled-at (row_of x c.args.a.now) (lit_in x c.args.fill) (c.args.from + c.loop-place.place)
    ∙ sym (down-at (filled_number (row_of x c.args.a.now) (lit_in x c.args.fill)) c.args.from c.loop-place.place)))

pub returns : goal.returns
returns c =
    let e : c.loop-place.place ≡ c.args.y = omega arith in
    Built-row c.args.gates.now c.args.gates.now (λ x j. bit_of (int_div_euclid (filled_number (row_of x c.args.a.now) (lit_in x c.args.fill)) (pos (2 ^ c.args.from))) j) c.args.y c.loop-place.word.items
    (λ x. fit c.args.y (int_div_euclid (filled_number (row_of x c.args.a.now) (lit_in x c.args.fill)) (pos (2 ^ c.args.from)))) (rw e at c.loop-place.invariant)
    (λ x. length-fit c.args.y (int_div_euclid (filled_number (row_of x c.args.a.now) (lit_in x c.args.fill)) (pos (2 ^ c.args.from))))
    (λ x j h. sym (fit-at c.args.y (int_div_euclid (filled_number (row_of x c.args.a.now) (lit_in x c.args.fill)) (pos (2 ^ c.args.from))) j h))
