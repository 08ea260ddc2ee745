use Rattle.std.proofs.Common.{◌≡◌, ◌∙◌, ap, length, ◌&&◌}
use Rattle.std.specs.Prelude.{ℤ}
use Rattle.sby_bits.specs.Rows.{fit, top_bit}
use Rattle.sby_bits.proofs.Numbers.{extended}
use Rattle.sby_bits.proofs.parts.extend.Goals as goal
use Rattle.sby_bits.proofs.parts.extend.Goals.{then-signed, else-signed}

pub returns : goal.returns
returns c =
    let fill : c.if-signed.copy_down ≡ (c.args.signed && top_bit c.args.a.now) =
    elim c.if-signed.branch [
      | then-signed w ↦ rw (w.copy_down-is, w.if-signed.true, w.top_bit.ensures)
      | else-signed w ↦ rw (w.copy_down-is, w.if-signed.false)
    ] in
    c.copy_down.ensures ∙ ap (λ (z : ℤ). fit (length c.args.y.now) z) (extended c.args.a.now c.args.signed c.if-signed.copy_down fill)
