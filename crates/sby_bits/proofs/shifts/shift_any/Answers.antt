use Rattle.std.proofs.Common.{◌≡◌, ◌∙◌, ◌-◌, ◌^◌, suc, true, false, length, map, not, sym, arith}
use Rattle.std.specs.Prelude.{pos}
use Rattle.sby_bits.specs.Rows.{num, top_bit, value}
use Rattle.sby_bits.proofs.Moves.{down_saturated, up_saturated, snum_ones}
use Rattle.sby_bits.proofs.shifts.shift_any.Goals as goal
use Rattle.sby_bits.proofs.shifts.shift_any.Goals.{else-by_signed-via-then-by_signed+else-top_bit, else-by_signed-via-else-by_signed}

pub returns-then-top_bit : goal.returns-then-top_bit
returns-then-top_bit c =
    let sign : top_bit c.args.by.now ≡ true = sym c.top_bit.ensures ∙ c.if-top_bit.true in
    rw (c.if-by_signed.true, snum_ones c.args.by.now sign)
    (c.copy_up.ensures
    ∙ up_saturated (length c.args.y.now) (num c.args.a.now) (suc (num (map not c.args.by.now))) (2 ^ 64 - 1) c.saturating_add.result (omega arith)
    (omega (arith, c.saturating_add.ensures, c.places.ensures)))

pub returns-else-by_signed : goal.returns-else-by_signed
returns-else-by_signed c =
    let same : value c.args.by_signed c.args.by.now ≡ pos (num c.args.by.now) =
    elim c.else-by_signed.branch [
      | else-by_signed-via-then-by_signed+else-top_bit w ↦
          let sign : top_bit c.args.by.now ≡ false = sym w.top_bit.ensures ∙ w.if-top_bit.false in
          rw (w.if-by_signed.true, sign)
      | else-by_signed-via-else-by_signed w ↦ rw w.if-by_signed.false
    ] in
    rw same
    (c.copy_down.ensures
    ∙ down_saturated c.args.a.now false (length c.args.y.now) (num c.args.by.now) (2 ^ 64 - 1) c.places-else-by_signed.result (omega arith)
    c.places-else-by_signed.ensures)
