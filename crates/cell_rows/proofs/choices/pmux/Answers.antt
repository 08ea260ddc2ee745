use Rattle.std.proofs.Common.{◌∙◌, ap, ℕ, length, arith}
use Rattle.cell_table.specs.Cells.{slice_number}
use Rattle.cell_rows.proofs.Choosing.{pmux_none, pmux_some}
use Rattle.cell_rows.proofs.choices.pmux.Goals as goal

pub returns-then-select : goal.returns-then-select
returns-then-select c =
    c.copy_from_slice.ensures.after ∙ c.slice_number.ensures.bits ∙ ap (λ (n : ℕ). slice_number n c.args.b.now c.loop-place.place) c.loop-place.auto.y
    ∙ pmux_some (length c.args.y.now) c.args.a.now c.args.b.now c.args.s.now c.loop-place.place c.loop-place-test.true c.if-select.true c.loop-place.invariant

pub returns : goal.returns
returns c = c.copy_from_slice-2.ensures.after ∙ pmux_none (length c.args.y.now) c.args.a.now c.args.b.now c.args.s.now (λ k h. c.loop-place.invariant k (let t = c.loop-place-test.false in omega arith))
