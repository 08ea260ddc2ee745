use Rattle.std.proofs.Common.{◌∙◌, length, ◌+◌}
use Rattle.std.specs.Prelude.{pos}
use Rattle.sby_bits.proofs.Residues.{fit-residue}
use Rattle.sby_bits.proofs.arithmetic.add.Goals as goal

pub returns : goal.returns
returns c =
    rw (← c.number.ensures, ← c.number-2.ensures)
    (c.write.ensures ∙ fit-residue (length c.args.y.now) 128 (pos (c.number.result + c.number-2.result)) c.requires.y_in)
