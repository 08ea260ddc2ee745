use Rattle.std.proofs.Common.{◌∙◌, ap, length, ℕ, arith}
use Rattle.std.specs.Prelude.{pos, ◌-ℤ◌}
use Rattle.sby_bits.specs.Rows.{fit}
use Rattle.sby_bits.proofs.Residues.{fit-residue, difference}
use Rattle.sby_bits.proofs.arithmetic.sub.Goals as goal

pub returns : goal.returns
returns c =
    rw (← c.number.ensures, ← c.number-2.ensures)
    (c.write.ensures
    ∙ ap (λ (n : ℕ). fit (length c.args.y.now) (pos n)) (difference c.number.result c.number-2.result (omega arith) (omega arith))
    ∙ fit-residue (length c.args.y.now) 128 (pos c.number.result -ℤ pos c.number-2.result) c.requires.y_in)
